-- What striking settings leaves.
use mathlib.Core.Path.{◌≡◌, refl, sym, subst, ap}
use mathlib.Core.List.{List, [], ◌∷◌, ◌++◌}
use mathlib.Core.Logic.{◌⊎◌, inl, inr}
use mathlib.Core.Bool.{Bool, true, false, not, cond}
use Prim.Native.Nat.{ℕ, suc, ◌+◌, ◌<◌}
use native.Mathlib.Omega.{arith}
use lib.Dec.{T}
use lib.ListN.{length, get_or, length-append}
use lib.Seq.{get_or-append-add}
use Rattle.theory.specs.Order.{Order, below}
use Rattle.theory.specs.Tree.{Among, Fits, Filled, Above, Ascending}
use Rattle.theory.specs.Machine.{Problem, Walk, Lawful, keep, strike, none_empty, kept}
use Rattle.theory.proofs.Tests.{either, T_true, not_below}
use Rattle.theory.proofs.Stack.{AllAscending, Costly}

pub keep_among : (t : ℕ → Bool) (x : ℕ) (d : List ℕ) → T (t x) → Among x d → Among x (keep t d)
keep_among t x [] h a = a
keep_among t x (k ∷ ks) h (inl e) =
    let pass : t k ≡ true = T_true (t k) (subst (λ z. T (t z)) e h) in
    subst (λ b. Among x (cond b (k ∷ keep t ks) (keep t ks))) (sym pass) (inl e)
keep_among t x (k ∷ ks) h (inr a) = go (t k) (keep_among t x ks h a)
  where
    go : (b : Bool) → Among x (keep t ks) → Among x (cond b (k ∷ keep t ks) (keep t ks))
    go true m = inr m
    go false m = m

pub among_keep : (t : ℕ → Bool) (x : ℕ) (d : List ℕ) → Among x (keep t d) → Among x d
among_keep t x [] a = a
among_keep t x (k ∷ ks) a = go (t k) (among_keep t x ks) a
  where
    go : (b : Bool) → (Among x (keep t ks) → Among x ks) → Among x (cond b (k ∷ keep t ks) (keep t ks)) → Among x (k ∷ ks)
    go true rest (inl e) = inl e
    go true rest (inr m) = inr (rest m)
    go false rest m = inr (rest m)

keep_above : (t : ℕ → Bool) (k : ℕ) (d : List ℕ) → Above k d → Above k (keep t d)
keep_above t k [] h = tt
keep_above t k (x ∷ xs) h = go (t x) (keep_above t k xs h.1)
  where
    go : (b : Bool) → Above k (keep t xs) → Above k (cond b (x ∷ keep t xs) (keep t xs))
    go true r = (h.0, r)
    go false r = r

pub keep_ascending : (t : ℕ → Bool) (d : List ℕ) → Ascending d → Ascending (keep t d)
keep_ascending t [] h = tt
keep_ascending t (x ∷ xs) h = go (t x) (keep_ascending t xs h.1)
  where
    go : (b : Bool) → Ascending (keep t xs) → Ascending (cond b (x ∷ keep t xs) (keep t xs))
    go true r = (keep_above t x xs h.0, r)
    go false r = r

pub strike_ascending : (t : ℕ → ℕ → Bool) (j : ℕ) (ds : List (List ℕ)) → AllAscending ds → AllAscending (strike t j ds)
strike_ascending t j [] h = tt
strike_ascending t j (d ∷ ds) h = (keep_ascending (t j) d h.0, strike_ascending t (suc j) ds h.1)

pub fits_strike : (t : ℕ → ℕ → Bool) (j : ℕ) (ds : List (List ℕ)) (s : List ℕ) → Fits s (strike t j ds) → Fits s ds
fits_strike t j [] s f = f
fits_strike t j (d ∷ ds) [] f = f
fits_strike t j (d ∷ ds) (x ∷ s) f = (among_keep (t j) x d f.0, fits_strike t (suc j) ds s f.1)

-- what fits still fits, unless one of its settings is struck
pub strike_fits : {Bad : Type 0} (t : ℕ → ℕ → Bool) (j : ℕ) (ds : List (List ℕ)) (s : List ℕ) → Fits s ds
    → ((i : ℕ) → i < length s → T (t (j + i) (get_or s i 0)) ⊎ Bad) → Fits s (strike t j ds) ⊎ Bad
strike_fits t j [] [] f h = inl tt
strike_fits t j [] (x ∷ s) f h = absurd f
strike_fits t j (d ∷ ds) [] f h = absurd f
strike_fits {Bad} t j (d ∷ ds) (x ∷ s) f h = go (h 0 (omega arith))
    (strike_fits t (suc j) ds s f.1 (λ i l. let e : j + suc i ≡ suc j + i = omega arith in subst (λ z. T (t z (get_or s i 0)) ⊎ Bad) e (h (suc i) (omega arith))))
  where
    go : T (t (j + 0) x) ⊎ Bad → Fits s (strike t (suc j) ds) ⊎ Bad → (Among x (keep (t j) d) × Fits s (strike t (suc j) ds)) ⊎ Bad
    go (inr bad) r = inr bad
    go (inl a) (inr bad) = inr bad
    go (inl a) (inl g) = let e : j + 0 ≡ j = omega arith in inl (keep_among (t j) x d (subst (λ z. T (t z x)) e a) f.0, g)

pub empty_unfit : (live : List (List ℕ)) (s : List ℕ) → T (not (none_empty live)) → Fits s live → ⊥
empty_unfit [] s h f = h
empty_unfit ([] ∷ ds) [] h f = f
empty_unfit ([] ∷ ds) (x ∷ s) h f = f.0
empty_unfit ((k ∷ ks) ∷ ds) [] h f = f
empty_unfit ((k ∷ ks) ∷ ds) (x ∷ s) h f = empty_unfit ds s h f.1

pub fits_length : (s : List ℕ) (ds : List (List ℕ)) → Fits s ds → length s ≡ length ds
fits_length [] [] f = refl
fits_length [] (d ∷ ds) f = absurd f
fits_length (x ∷ s) [] f = absurd f
fits_length (x ∷ s) (d ∷ ds) f = ap suc (fits_length s ds f.1)

module _ {V : Type 0} (P : Problem V) (W : Walk V) (O : Order P.at_most) (L : Lawful P W) (limit : V) where
  -- a struck setting belongs to costly setups only
  pub kept_fits : (w s : List ℕ) (later : List (List ℕ)) → Filled w → Fits (w ++ s) P.doms → Fits s later
      → Fits s (kept P W w limit later) ⊎ Costly P limit (w ++ s)
  kept_fits w s later n f g = go W.ahead
    where
      pass : ℕ → ℕ → Bool
      pass j k = below P.at_most (W.answer w j k) limit

      one : (i : ℕ) → i < length s → T (pass (length w + i) (get_or s i 0)) ⊎ Costly P limit (w ++ s)
      one i l = elim (either (pass (length w + i) (get_or s i 0))) [
        | inl h ↦ inl h
        | inr h ↦ inr (O.trans limit (W.answer w (length w + i) (get_or s i 0)) (P.cost (w ++ s))
            (not_below P.at_most O (W.answer w (length w + i) (get_or s i 0)) limit h)
            (subst (λ k. T (P.at_most (W.answer w (length w + i) k) (P.cost (w ++ s)))) (get_or-append-add w s i 0)
            (L.answers w s (length w + i) n f (omega arith) (omega (arith, fits_length (w ++ s) P.doms f, length-append w s)))))
      ]

      go : (b : Bool) → Fits s (cond b (strike pass (length w) later) later) ⊎ Costly P limit (w ++ s)
      go true = strike_fits pass (length w) later s g one
      go false = inl g

  pub fits_kept : (w s : List ℕ) (later : List (List ℕ)) → Fits s (kept P W w limit later) → Fits s later
  fits_kept w s later = go W.ahead
    where
      pass : ℕ → ℕ → Bool
      pass j k = below P.at_most (W.answer w j k) limit

      go : (b : Bool) → Fits s (cond b (strike pass (length w) later) later) → Fits s later
      go true f = fits_strike pass (length w) later s f
      go false f = f

  pub kept_ascending : (w : List ℕ) (later : List (List ℕ)) → AllAscending later → AllAscending (kept P W w limit later)
  kept_ascending w later h = go W.ahead
    where
      pass : ℕ → ℕ → Bool
      pass j k = below P.at_most (W.answer w j k) limit

      go : (b : Bool) → AllAscending (cond b (strike pass (length w) later) later)
      go true = strike_ascending pass (length w) later h
      go false = h

  pub kept_filled : (w d : List ℕ) (ds : List (List ℕ)) → Filled (kept P W w limit (d ∷ ds))
  kept_filled w d ds = go W.ahead
    where
      pass : ℕ → ℕ → Bool
      pass j k = below P.at_most (W.answer w j k) limit

      go : (b : Bool) → Filled {A = List ℕ} (cond b (strike pass (length w) (d ∷ ds)) (d ∷ ds))
      go true = tt
      go false = tt
