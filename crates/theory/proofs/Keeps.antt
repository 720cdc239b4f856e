-- Striking by one test after another.
use mathlib.Core.Path.{◌≡◌, refl, sym, ap, ap₂, ◌∙◌}
use mathlib.Core.List.{List, [], ◌∷◌}
use mathlib.Core.Bool.{Bool, true, false, ◌&&◌, ◌||◌, cond}
use Prim.Native.Nat.{ℕ, suc, ◌+◌}
use native.Mathlib.Omega.{arith}
use Rattle.theory.specs.Tree.{any_of, Sound}
use Rattle.theory.specs.Machine.{keep, strike, none_empty}
use Rattle.theory.specs.Finding.{each_has}
use Rattle.theory.proofs.Lists.{total}

pub keep_same : (t t' : ℕ → Bool) → ((k : ℕ) → t k ≡ t' k) → (d : List ℕ) → keep t d ≡ keep t' d
keep_same t t' h [] = refl
keep_same t t' h (k ∷ ks) = ap₂ (λ b r. cond b (k ∷ r) r) (h k) (keep_same t t' h ks)

pub keep_keep : (t t' t'' : ℕ → Bool) → ((k : ℕ) → t'' k ≡ (t' k && t k)) → (d : List ℕ) → keep t (keep t' d) ≡ keep t'' d
keep_keep t t' t'' h [] = refl
keep_keep t t' t'' h (k ∷ ks) = go (t' k) (t'' k) (h k) (keep_keep t t' t'' h ks)
  where
    go : (b c : Bool) → c ≡ (b && t k) → keep t (keep t' ks) ≡ keep t'' ks → keep t (cond b (k ∷ keep t' ks) (keep t' ks)) ≡ cond c (k ∷ keep t'' ks) (keep t'' ks)
    go true c e r = ap₂ (λ b q. cond b (k ∷ q) q) (sym e) r
    go false c e r = r ∙ ap (λ b. cond b (k ∷ keep t'' ks) (keep t'' ks)) (sym e)

pub strike_same : (t t' : ℕ → ℕ → Bool) → ((j k : ℕ) → t j k ≡ t' j k) → (j : ℕ) (ds : List (List ℕ)) → strike t j ds ≡ strike t' j ds
strike_same t t' h j [] = refl
strike_same t t' h j (d ∷ ds) = ap₂ ◌∷◌ (keep_same (t j) (t' j) (h j) d) (strike_same t t' h (suc j) ds)

pub strike_strike : (t t' t'' : ℕ → ℕ → Bool) → ((j k : ℕ) → t'' j k ≡ (t' j k && t j k)) → (j : ℕ) (ds : List (List ℕ)) → strike t j (strike t' j ds) ≡ strike t'' j ds
strike_strike t t' t'' h j [] = refl
strike_strike t t' t'' h j (d ∷ ds) = ap₂ ◌∷◌ (keep_keep (t j) (t' j) (t'' j) (h j) d) (strike_strike t t' t'' h (suc j) ds)

pub keep_all : (d : List ℕ) → keep (λ k. true) d ≡ d
keep_all [] = refl
keep_all (k ∷ ks) = ap (λ r. k ∷ r) (keep_all ks)

pub strike_none : (j : ℕ) (ds : List (List ℕ)) → strike (λ j k. true) j ds ≡ ds
strike_none j [] = refl
strike_none j (d ∷ ds) = ap₂ ◌∷◌ (keep_all d) (strike_none (suc j) ds)

keep_some : (t : ℕ → Bool) (d : List ℕ) (rest : List (List ℕ)) → none_empty (keep t d ∷ rest) ≡ (any_of t d && none_empty rest)
keep_some t [] rest = refl
keep_some t (k ∷ ks) rest = go (t k) (keep_some t ks rest)
  where
    go : (b : Bool) → none_empty (keep t ks ∷ rest) ≡ (any_of t ks && none_empty rest) → none_empty (cond b (k ∷ keep t ks) (keep t ks) ∷ rest) ≡ ((b || any_of t ks) && none_empty rest)
    go true r = refl
    go false r = r

-- no module is left empty when each has a setting that passes
pub none_empty_strike : (t : ℕ → ℕ → Bool) (j : ℕ) (ds : List (List ℕ)) → none_empty (strike t j ds) ≡ each_has t j ds
none_empty_strike t j [] = refl
none_empty_strike t j (d ∷ ds) = keep_some (t j) d (strike t (suc j) ds) ∙ ap (λ b. any_of (t j) d && b) (none_empty_strike t (suc j) ds)

pub sound_none_empty : (ds : List (List ℕ)) → Sound ds → none_empty ds ≡ true
sound_none_empty [] h = refl
sound_none_empty ([] ∷ ds) h = absurd h.0
sound_none_empty ((k ∷ ks) ∷ ds) h = sound_none_empty ds h.2

pub total_keep : (t : ℕ → Bool) (f : ℕ → ℕ) (d : List ℕ) → total (λ k. cond (t k) (f k) 0) d ≡ total f (keep t d)
total_keep t f [] = refl
total_keep t f (k ∷ ks) = go (t k) (total_keep t f ks)
  where
    go : (b : Bool) → total (λ k. cond (t k) (f k) 0) ks ≡ total f (keep t ks) → cond b (f k) 0 + total (λ k. cond (t k) (f k) 0) ks ≡ total f (cond b (k ∷ keep t ks) (keep t ks))
    go true r = omega arith
    go false r = omega arith

keep_nothing : (d : List ℕ) → keep (λ k. false) d ≡ []
keep_nothing [] = refl
keep_nothing (k ∷ ks) = keep_nothing ks

pub keep_cond : (b : Bool) (t : ℕ → Bool) (d : List ℕ) → keep (λ k. b && t k) d ≡ cond b (keep t d) []
keep_cond true t d = refl
keep_cond false t d = keep_nothing d
