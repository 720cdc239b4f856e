-- What holds of each level of the path, and how it moves.
use mathlib.Core.Path.{◌≡◌, refl, sym, subst, ap, ◌∙◌}
use mathlib.Core.List.{List, [], ◌∷◌, ◌++◌}
use mathlib.Core.Logic.{◌⊎◌, inl, inr}
use Prim.Native.Nat.{ℕ, ◌<◌}
use native.Mathlib.Omega.{arith}
use lib.Dec.{T}
use Rattle.theory.specs.Order.{Order}
use Rattle.theory.specs.Tree.{Among, Fits, earlier, Above, Ascending}
use Rattle.theory.specs.Machine.{Problem, Level, level, beginning, next}
use Rattle.theory.proofs.Reading.{earlier_out, earlier_here, earlier_longer, earlier_under, earlier_cancel, not_under, Upto, upto_cut, upto_up, upto_sibling, snoc_on}

pub nothing_before : (y : List ℕ) → T (earlier y []) → ⊥
nothing_before [] h = h
nothing_before (b ∷ y) h = h

pub first_lower : (j k : ℕ) (s : List ℕ) → T (earlier (j ∷ s) (k ∷ [])) → j < k
first_lower j k s h = elim (earlier_out j k s [] h) [ inl l ↦ l | inr r ↦ absurd (nothing_before s r.1) ]

pub above_each : (k x : ℕ) (xs : List ℕ) → Above k xs → Among x xs → k < x
above_each k x [] h a = absurd a
above_each k x (y ∷ ys) h (inl e) = subst (λ z. k < z) (sym e) h.0
above_each k x (y ∷ ys) h (inr a) = above_each k x ys h.1 a

abbrev pub AllAscending : List (List ℕ) → Type 0
AllAscending [] = Unit {0}
AllAscending (d ∷ ds) = Ascending d × AllAscending ds

-- a sibling that is lower than k is a
pub only_first : (j a k : ℕ) (ks : List ℕ) → Ascending (a ∷ k ∷ ks) → Among j (a ∷ k ∷ ks) → j < k → j ≡ a
only_first j a k ks asc (inl e) l = e
only_first j a k ks asc (inr (inl e)) l = absurd (not_under j (subst (λ z. j < z) (sym e) l))
only_first j a k ks asc (inr (inr m)) l = let g = above_each k j ks asc.1.0 m in omega arith

-- the setups that have been taken in when the walk waits at a path
abbrev pub Past : List Level → List ℕ → Type 0
Past [] y = Unit {0}
Past (l ∷ up) y = T (earlier y (beginning (l ∷ up)))

module _ {V : Type 0} (P : Problem V) (limit : V) where
  -- a setup that is no cheaper than the limit
  abbrev pub Costly : List ℕ → Type 0
  Costly y = T (P.at_most limit (P.cost y))

  -- each allowed setup after p reads earlier than its setting a, or is live, or is costly
  abbrev pub Live : List ℕ → ℕ → List ℕ → List (List ℕ) → Type 0
  Live p a more later = (s : List ℕ) → Fits (p ++ s) P.doms → (T (earlier s (a ∷ [])) ⊎ Fits s ((a ∷ more) ∷ later)) ⊎ Costly (p ++ s)

  -- what is live is allowed
  abbrev pub Within : List ℕ → ℕ → List ℕ → List (List ℕ) → Type 0
  Within p a more later = (s : List ℕ) → Fits s ((a ∷ more) ∷ later) → Fits (p ++ s) P.doms

  abbrev pub Stack : List Level → Type 0
  Stack [] = Unit {0}
  Stack (level a more later ∷ up) = Live (beginning up) a more later × Within (beginning up) a more later × Ascending (a ∷ more) × AllAscending later × Stack up

  pub stack_next : (path : List Level) → Stack path → Stack (next path)
  stack_next [] st = tt
  stack_next (level a [] later ∷ up) st = stack_next up st.4
  stack_next (level a (k ∷ ks) later ∷ up) st = (live, within, st.2.1, st.3, st.4)
    where
      p : List ℕ
      p = beginning up

      shift : (s : List ℕ) → T (earlier s (a ∷ [])) ⊎ Fits s ((a ∷ k ∷ ks) ∷ later) → T (earlier s (k ∷ [])) ⊎ Fits s ((k ∷ ks) ∷ later)
      shift [] (inl e) = absurd e
      shift [] (inr f) = absurd f
      shift (j ∷ s) (inl e) = inl (earlier_here j k s [] (let l = first_lower j a s e in let m = st.2.0.0 in omega arith))
      shift (j ∷ s) (inr (f, g)) = elim f [
        | inl e ↦ inl (earlier_here j k s [] (let m = st.2.0.0 in omega arith))
        | inr m ↦ inr (m, g)
      ]

      live : Live p k ks later
      live s f = elim (st.0 s f) [ inl e ↦ inl (shift s e) | inr c ↦ inr c ]

      within : Within p k ks later
      within [] f = absurd f
      within (j ∷ s) f = st.1 (j ∷ s) (inr f.0, f.1)

  -- from all that is up to the beginning to all that is earlier than the next
  module _ (S : List ℕ → Type 0) where
    pub closing : (path : List Level) → Stack path
        → ((y : List ℕ) → S y → Upto (beginning path) y)
        → ((y : List ℕ) → Fits y P.doms → Upto (beginning path) y → S y ⊎ Costly y)
        → ((y : List ℕ) → S y → Past (next path) y) × ((y : List ℕ) → Fits y P.doms → Past (next path) y → S y ⊎ Costly y)
    closing [] st into out = (λ y h. tt, λ y f h. out y f (inr (y, refl)))
    closing (level a [] later ∷ up) st into out = closing up st.4 (λ y h. upto_up y (beginning up) a (into y h)) higher
      where
        p : List ℕ
        p = beginning up

        under : (s : List ℕ) → Fits (p ++ s) P.doms → (T (earlier s (a ∷ [])) ⊎ Fits s ((a ∷ []) ∷ later)) ⊎ Costly (p ++ s) → S (p ++ s) ⊎ Costly (p ++ s)
        under s f (inr c) = inr c
        under s f (inl (inl e)) = out (p ++ s) f (inl (earlier_under p s (a ∷ []) e))
        under [] f (inl (inr g)) = absurd g
        under (j ∷ s) f (inl (inr g)) = elim g.0 [
          | inl e ↦ out (p ++ (j ∷ s)) f (inr (s, ap (λ z. p ++ (z ∷ s)) e ∙ sym (snoc_on p a s)))
          | inr no_more ↦ absurd no_more
        ]

        higher : (y : List ℕ) → Fits y P.doms → Upto p y → S y ⊎ Costly y
        higher y f (inl e) = out y f (inl (earlier_longer y p (a ∷ []) e))
        higher y f (inr t) = subst (λ z. Fits z P.doms → S z ⊎ Costly z) (sym t.1) (λ g. under t.0 g (st.0 t.0 g)) f
    closing (level a (k ∷ ks) later ∷ up) st into out = (λ y h. upto_sibling y p a k st.2.0.0 (into y h), λ y f e. over y f e (upto_cut y p (k ∷ []) e))
      where
        p : List ℕ
        p = beginning up

        under : (s : List ℕ) → Fits (p ++ s) P.doms → T (earlier s (k ∷ [])) → (T (earlier s (a ∷ [])) ⊎ Fits s ((a ∷ k ∷ ks) ∷ later)) ⊎ Costly (p ++ s) → S (p ++ s) ⊎ Costly (p ++ s)
        under s f h (inr c) = inr c
        under s f h (inl (inl e)) = out (p ++ s) f (inl (earlier_under p s (a ∷ []) e))
        under [] f h (inl (inr g)) = absurd g
        under (j ∷ s) f h (inl (inr g)) =
            let e = only_first j a k ks st.2 g.0 (first_lower j k s h) in
            out (p ++ (j ∷ s)) f (inr (s, ap (λ z. p ++ (z ∷ s)) e ∙ sym (snoc_on p a s)))

        over : (y : List ℕ) → Fits y P.doms → T (earlier y (p ++ (k ∷ []))) → Upto p y → S y ⊎ Costly y
        over y f h (inl e) = out y f (inl (earlier_longer y p (a ∷ []) e))
        over y f h (inr t) =
            subst (λ z. Fits z P.doms → T (earlier z (p ++ (k ∷ []))) → S z ⊎ Costly z) (sym t.1)
            (λ g e. under t.0 g (earlier_cancel p t.0 (k ∷ []) e) (st.0 t.0 g)) f h

-- the limit may fall
pub stack_falls : {V : Type 0} (P : Problem V) (O : Order P.at_most) (limit limit' : V) → T (P.at_most limit' limit) → (path : List Level) → Stack P limit path → Stack P limit' path
stack_falls P O limit limit' l [] st = tt
stack_falls P O limit limit' l (level a more later ∷ up) st =
    ((λ s f. elim (st.0 s f) [ inl e ↦ inl e | inr c ↦ inr (O.trans limit' limit (P.cost (beginning up ++ s)) l c) ]), st.1, st.2, st.3, stack_falls P O limit limit' l up st.4)
