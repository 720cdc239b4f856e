-- The invariant of the walk.
use mathlib.Core.Path.{◌≡◌, refl, sym, subst, ap, ◌∙◌}
use mathlib.Core.List.{List, [], ◌∷◌, ◌++◌, append-nil}
use mathlib.Core.Logic.{◌⊎◌, inl, inr}
use mathlib.Core.Bool.{Bool, true, false, not, cond}
use mathlib.Core.Option.{Option, some, none}
use Prim.Native.Nat.{ℕ, zero, suc, ◌<◌}
use native.Mathlib.Omega.{arith}
use lib.Dec.{T}
use Rattle.theory.specs.Order.{Order, below}
use Rattle.theory.specs.Tree.{Among, Fits, Filled, Sound, earlier, Ascending}
use Rattle.theory.specs.Machine.{Problem, Walk, Posed, Lawful, Level, level, State, beginning, next, down, open_to, none_empty, kept, start, step_at, step, after}
use Rattle.theory.specs.Finding.{Cheapest}
use Rattle.theory.proofs.Tests.{either, weaken, not_below}
use Rattle.theory.proofs.Reading.{earlier_longer, earlier_trans, earlier_cancel, not_under, Upto, upto_cut, upto_down, snoc_on, fits_end}
use Rattle.theory.proofs.Best.{grow, improve}
use Rattle.theory.proofs.Stack.{first_lower, above_each, AllAscending, Past, Costly, Stack, stack_next, closing, stack_falls}
use Rattle.theory.proofs.Strikes.{empty_unfit, kept_fits, fits_kept, kept_ascending, kept_filled}

pub snoc_filled : (p : List ℕ) (a : ℕ) → Filled (p ++ (a ∷ []))
snoc_filled [] a = tt
snoc_filled (b ∷ p) a = tt

module _ {V : Type 0} (P : Problem V) (O : Order P.at_most) where
  -- the best so far, and the levels of the path
  abbrev pub Holds : List Level → Option (List ℕ) → V → Type 0
  Holds path best limit = Cheapest P (Past path) best limit × Stack P limit path

  -- once all up to the beginning are taken in
  pub close : (path : List Level) (best : Option (List ℕ)) (limit : V) → Cheapest P (Upto (beginning path)) best limit → Stack P limit path → Holds (next path) best limit
  close path best limit c st =
      let moved = closing P limit (Upto (beginning path)) path st (λ y h. h) (λ y f h. inl h) in
      (grow P O (Upto (beginning path)) (Past (next path)) best limit c (λ x y h e. upto_down (beginning path) x y h e) moved.0 moved.1, stack_next P limit path st)

  -- all that start with the beginning are costly
  pub shut : (l : Level) (up : List Level) (best : Option (List ℕ)) (limit : V) → Holds (l ∷ up) best limit
      → ((s : List ℕ) → Fits (beginning (l ∷ up) ++ s) P.doms → Costly P limit (beginning (l ∷ up) ++ s)) → Holds (next (l ∷ up)) best limit
  shut l up best limit h costly = close (l ∷ up) best limit
      (grow P O (λ y. T (earlier y w)) (Upto w) best limit h.0 (λ x y m e. earlier_trans y x w e m) (λ y e. inl e) rest) h.1
    where
      w : List ℕ
      w = beginning (l ∷ up)

      rest : (y : List ℕ) → Fits y P.doms → Upto w y → T (earlier y w) ⊎ Costly P limit y
      rest y f (inl e) = inl e
      rest y f (inr t) = inr (subst (λ z. Fits z P.doms → Costly P limit z) (sym t.1) (costly t.0) f)

  -- one level down
  pub opened : (l : Level) (up : List Level) (best : Option (List ℕ)) (limit : V) (live : List (List ℕ)) → Holds (l ∷ up) best limit
      → Filled live → AllAscending live
      → ((s : List ℕ) → Fits (beginning (l ∷ up) ++ s) P.doms → Fits s live ⊎ Costly P limit (beginning (l ∷ up) ++ s))
      → ((s : List ℕ) → Fits s live → Fits (beginning (l ∷ up) ++ s) P.doms)
      → Holds (open_to live (l ∷ up)) best limit
  opened l up best limit live h full asc live_or within = go live full asc live_or within (either (none_empty live))
    where
      w : List ℕ
      w = beginning (l ∷ up)

      costly_if : (live : List (List ℕ)) → ((s : List ℕ) → Fits s live → ⊥) → ((s : List ℕ) → Fits (w ++ s) P.doms → Fits s live ⊎ Costly P limit (w ++ s))
          → (s : List ℕ) → Fits (w ++ s) P.doms → Costly P limit (w ++ s)
      costly_if live unfit live_or s f = elim (live_or s f) [ inl g ↦ absurd (unfit s g) | inr c ↦ c ]

      lower : (k : ℕ) (ks : List ℕ) (rest : List (List ℕ)) → Ascending (k ∷ ks)
          → ((s : List ℕ) → Fits (w ++ s) P.doms → Fits s ((k ∷ ks) ∷ rest) ⊎ Costly P limit (w ++ s))
          → (y : List ℕ) → Fits y P.doms → T (earlier y (w ++ (k ∷ []))) → Upto w y → T (earlier y w) ⊎ Costly P limit y
      lower k ks rest asc live_or y f e (inl m) = inl m
      lower k ks rest asc live_or y f e (inr t) = inr (subst (λ z. Fits z P.doms → T (earlier z (w ++ (k ∷ []))) → Costly P limit z) (sym t.1) (λ g e. under t.0 (earlier_cancel w t.0 (k ∷ []) e) (live_or t.0 g)) f e)
        where
          under : (s : List ℕ) → T (earlier s (k ∷ [])) → Fits s ((k ∷ ks) ∷ rest) ⊎ Costly P limit (w ++ s) → Costly P limit (w ++ s)
          under s e (inr c) = c
          under [] e (inl g) = absurd e
          under (j ∷ s) e (inl g) = absurd (no_lower g.0 (first_lower j k s e))
            where
              no_lower : Among j (k ∷ ks) → j < k → ⊥
              no_lower (inl e) l = omega arith
              no_lower (inr m) l = let g = above_each k j ks asc.0 m in omega arith

      go : (live : List (List ℕ)) → Filled live → AllAscending live
          → ((s : List ℕ) → Fits (w ++ s) P.doms → Fits s live ⊎ Costly P limit (w ++ s))
          → ((s : List ℕ) → Fits s live → Fits (w ++ s) P.doms)
          → T (none_empty live) ⊎ T (not (none_empty live)) → Holds (open_to live (l ∷ up)) best limit
      go [] full asc live_or within e = absurd full
      go ([] ∷ rest) full asc live_or within e = shut l up best limit h (costly_if ([] ∷ rest) (λ s. empty_unfit ([] ∷ rest) s tt) live_or)
      go ((k ∷ ks) ∷ rest) full asc live_or within e = more (none_empty rest) (λ s. empty_unfit ((k ∷ ks) ∷ rest) s)
        where
          more : (b : Bool) → ((s : List ℕ) → T (not b) → Fits s ((k ∷ ks) ∷ rest) → ⊥) → Holds (cond b (level k ks rest ∷ l ∷ up) (next (l ∷ up))) best limit
          more false unfit = shut l up best limit h (costly_if ((k ∷ ks) ∷ rest) (λ s g. unfit s tt g) live_or)
          more true unfit = (
            grow P O (λ y. T (earlier y w)) (λ y. T (earlier y (w ++ (k ∷ [])))) best limit h.0
                (λ x y m e. earlier_trans y x w e m) (λ y e. earlier_longer y w (k ∷ []) e) (λ y f e. lower k ks rest asc.0 live_or y f e (upto_cut y w (k ∷ []) e)),
            ((λ s f. elim (live_or s f) [ inl g ↦ inl (inr g) | inr c ↦ inr c ]), within, asc.0, asc.1, h.1),
          )

  module _ (W : Walk V) (L : Lawful P W) where
    abbrev pub Invariant : State V → Type 0
    Invariant s = Holds s.path s.best s.limit

    pub step_keeps_at : (path : List Level) (best : Option (List ℕ)) (limit : V) (n : ℕ) → Holds path best limit
        → Invariant (step_at P W path (record { path = path; limit = limit; best = best; steps = n }))
    step_keeps_at [] best limit n h = h
    step_keeps_at (level a more [] ∷ up) best limit n h = weighed (below P.at_most (P.cost w) limit) (λ l. l) (λ l. not_below P.at_most O (P.cost w) limit l)
      where
        path : List Level
        path = level a more [] ∷ up

        w : List ℕ
        w = beginning path

        allowed : Fits w P.doms
        allowed = h.1.1 (a ∷ []) (inl refl, tt)

        weighed : (b : Bool) → (T b → T (below P.at_most (P.cost w) limit)) → (T (not b) → T (P.at_most limit (P.cost w)))
            → Holds (next path) (cond b (some w) best) (cond b (P.cost w) limit)
        weighed true low high = close path (some w) (P.cost w) (improve P O w best limit h.0 allowed (low tt))
            (stack_falls P O limit (P.cost w) (weaken P.at_most O (P.cost w) limit (low tt)) path h.1)
        weighed false low high = shut (level a more []) up best limit h (λ s f.
            let e : s ≡ [] = fits_end P.doms w s allowed f in
            subst (λ z. Costly P limit z) (sym (ap (λ z. w ++ z) e ∙ append-nil w)) (high tt))
    step_keeps_at (level a more (d ∷ ds) ∷ up) best limit n h = tested (below P.at_most (W.floor w) limit) (λ l. not_below P.at_most O (W.floor w) limit l)
      where
        path : List Level
        path = level a more (d ∷ ds) ∷ up

        p : List ℕ
        p = beginning up

        w : List ℕ
        w = beginning path

        n_w : Filled w
        n_w = snoc_filled p a

        live : List (List ℕ)
        live = kept P W w limit (d ∷ ds)

        inner : (s : List ℕ) → (T (earlier (a ∷ s) (a ∷ [])) ⊎ Fits (a ∷ s) ((a ∷ more) ∷ d ∷ ds)) ⊎ Costly P limit (p ++ (a ∷ s)) → Fits s (d ∷ ds) ⊎ Costly P limit (w ++ s)
        inner s (inl (inl e)) = absurd (not_under a (first_lower a a s e))
        inner s (inl (inr f)) = inl f.1
        inner s (inr c) = inr (subst (λ z. Costly P limit z) (sym (snoc_on p a s)) c)

        live_or : (s : List ℕ) → Fits (w ++ s) P.doms → Fits s live ⊎ Costly P limit (w ++ s)
        live_or s f = elim (inner s (h.1.0 (a ∷ s) (subst (λ z. Fits z P.doms) (snoc_on p a s) f))) [
          | inl g ↦ kept_fits P W O L limit w s (d ∷ ds) n_w f g
          | inr c ↦ inr c
        ]

        within : (s : List ℕ) → Fits s live → Fits (w ++ s) P.doms
        within s f = subst (λ z. Fits z P.doms) (sym (snoc_on p a s)) (h.1.1 (a ∷ s) (inl refl, fits_kept P W O L limit w s (d ∷ ds) f))

        tested : (b : Bool) → (T (not b) → T (P.at_most limit (W.floor w))) → Holds (cond b (open_to live path) (next path)) best limit
        tested true high = opened (level a more (d ∷ ds)) up best limit live h (kept_filled P W O L limit w d ds) (kept_ascending P W O L limit w (d ∷ ds) h.1.3) live_or within
        tested false high = shut (level a more (d ∷ ds)) up best limit h (λ s f. O.trans limit (W.floor w) (P.cost (w ++ s)) (high tt) (L.floors w s n_w f))

    pub step_keeps : (s : State V) → Invariant s → Invariant (step P W s)
    step_keeps s h = step_keeps_at s.path s.best s.limit s.steps h

-- the start
sound_ascending : (ds : List (List ℕ)) → Sound ds → AllAscending ds
sound_ascending [] h = tt
sound_ascending (d ∷ ds) h = (h.1, sound_ascending ds h.2)

module _ {V : Type 0} (P : Problem V) (posed : Posed P) (W : Walk V) (L : Lawful P W) where
  abbrev O : Order P.at_most
  O = posed.order

  pub starts : Invariant P O W L (start P W)
  starts = go P.doms posed.sound posed.some_module (λ s f. f) (λ s f. f)
    where
      go : (ds : List (List ℕ)) → Sound ds → Filled ds → ((s : List ℕ) → Fits s P.doms → Fits s ds) → ((s : List ℕ) → Fits s ds → Fits s P.doms)
          → Holds P O (down ds []) none P.ceiling
      go [] sound n to from = absurd n
      go ([] ∷ ds) sound n to from = absurd sound.0
      go ((k ∷ ks) ∷ ds) sound n to from =
          ((refl, λ y f e. absurd (none_lower y (to y f) e)), ((λ s f. inl (inr (to s f))), from, sound.1, sound_ascending ds sound.2, tt))
        where
          none_lower : (y : List ℕ) → Fits y ((k ∷ ks) ∷ ds) → T (earlier y (k ∷ [])) → ⊥
          none_lower [] f e = f
          none_lower (j ∷ y) f e = no_lower f.0 (first_lower j k y e)
            where
              no_lower : Among j (k ∷ ks) → j < k → ⊥
              no_lower (inl e) l = omega arith
              no_lower (inr m) l = let g = above_each k j ks sound.1.0 m in omega arith

  pub always : (n : ℕ) → Invariant P O W L (after P W n)
  always zero = starts
  always (suc n) = step_keeps P O W L (after P W n) (always n)
