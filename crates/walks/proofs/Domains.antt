-- Lists of settings under striking.
use Rattle.std.proofs.Common.{◌≡◌, ℕ, zero, suc, ◌+◌, ◌<◌, ◌≤◌, Bool, true, false, cond, ◌&&◌, List, [], ◌∷◌, sym, refl, ap, ◌∙◌, subst, ap₂, inl, inr, arith}
use mathlib.Core.List.{nil≢cons}
use Rattle.std.proofs.lemmas.Bool.{cases_Bool, cond-true, cond-false, cases_eq}
use Rattle.theory.specs.Machine.{keep, strike, none_empty}
use Rattle.walks.specs.Settings.{has, settings_from, domains_from}
use Rattle.walks.proofs.Bits.{no_bit}
use Rattle.walks.proofs.Masks.{settings_end, settings_more}
use Rattle.walks.proofs.Trails.{domains_more}
use Rattle.walks.proofs.Weighed.{no_domains}

keep_settings : (t p : ℕ → Bool) (k n : ℕ) → keep t (settings_from p k n) ≡ settings_from (λ i. p i && t i) k n
keep_settings t p k zero = ap (keep t) (settings_end p k) ∙ sym (settings_end (λ i. p i && t i) k)
keep_settings t p k (suc n) = ap (keep t) (settings_more p k n) ∙ go (p k) (keep_settings t p (suc k) n) ∙ sym (settings_more (λ i. p i && t i) k n)
  where
    go : (b : Bool) → keep t (settings_from p (suc k) n) ≡ settings_from (λ i. p i && t i) (suc k) n
        → keep t (cond b (k ∷ settings_from p (suc k) n) (settings_from p (suc k) n)) ≡ cond (b && t k) (k ∷ settings_from (λ i. p i && t i) (suc k) n) (settings_from (λ i. p i && t i) (suc k) n)
    go true rest = ap (λ r. cond (t k) (k ∷ r) r) rest
    go false rest = rest

settings_same : (p q : ℕ → Bool) (k n : ℕ) → ((i : ℕ) → k ≤ i → i < k + n → p i ≡ q i) → settings_from p k n ≡ settings_from q k n
settings_same p q k zero h = settings_end p k ∙ sym (settings_end q k)
settings_same p q k (suc n) h =
    settings_more p k n
    ∙ ap₂ (λ b r. cond b (k ∷ r) r) (h k (omega arith) (omega arith)) (settings_same p q (suc k) n (λ i a b. h i (omega arith) (omega arith)))
    ∙ sym (settings_more q k n)

-- where the list is empty, none passes
pub none_passes : (p : ℕ → Bool) (k n : ℕ) → settings_from p k n ≡ [] → (i : ℕ) → k ≤ i → i < k + n → p i ≡ false
none_passes p k zero e i a b = absurd (omega arith)
none_passes p k (suc n) e i a b = elim (cases_Bool (p k)) [
  | inl h ↦ absurd (nil≢cons (sym e ∙ settings_more p k n ∙ cond-true (p k) _ _ h))
  | inr h ↦ elim (cases_eq k i) [
    | inl f ↦ subst (λ x. p x ≡ false) f h
    | inr f ↦ none_passes p (suc k) n (sym (settings_more p k n ∙ cond-false (p k) _ _ h) ∙ e) i (omega arith) (omega arith)
  ]
]

pub strike_domains : (t p : ℕ → ℕ → Bool) (j n : ℕ) → strike t j (domains_from p j n) ≡ domains_from (λ i k. p i k && t i k) j n
strike_domains t p j zero = ap (strike t j) (no_domains p j) ∙ sym (no_domains (λ i k. p i k && t i k) j)
strike_domains t p j (suc n) =
    ap (strike t j) (domains_more p j n)
    ∙ ap₂ ◌∷◌ (keep_settings (t j) (p j) 0 8) (strike_domains t p (suc j) n)
    ∙ sym (domains_more (λ i k. p i k && t i k) j n)

pub domains_same : (p q : ℕ → ℕ → Bool) (j n : ℕ) → ((i k : ℕ) → j ≤ i → i < j + n → k < 8 → p i k ≡ q i k) → domains_from p j n ≡ domains_from q j n
domains_same p q j zero h = no_domains p j ∙ sym (no_domains q j)
domains_same p q j (suc n) h =
    domains_more p j n
    ∙ ap₂ ◌∷◌ (settings_same (p j) (q j) 0 8 (λ k a b. h j k (omega arith) (omega arith) b)) (domains_same p q (suc j) n (λ i k a b c. h i k (omega arith) (omega arith) c))
    ∙ sym (domains_more q j n)

some_first : (xs : List ℕ) (rest : List (List ℕ)) → (xs ≡ [] → ⊥) → none_empty (xs ∷ rest) ≡ none_empty rest
some_first [] rest h = absurd (h refl)
some_first (x ∷ xs) rest h = refl

pub none_empty_domains : (p : ℕ → ℕ → Bool) (j n : ℕ) → ((i : ℕ) → j ≤ i → i < j + n → settings_from (p i) 0 8 ≡ [] → ⊥) → none_empty (domains_from p j n) ≡ true
none_empty_domains p j zero h = ap none_empty (no_domains p j)
none_empty_domains p j (suc n) h =
    ap none_empty (domains_more p j n) ∙ some_first (settings_from (p j) 0 8) (domains_from p (suc j) n) (h j (omega arith) (omega arith))
    ∙ none_empty_domains p (suc j) n (λ i a b. h i (omega arith) (omega arith))

pub one_empty_domains : (p : ℕ → ℕ → Bool) (j n i : ℕ) → j ≤ i → i < j + n → settings_from (p i) 0 8 ≡ [] → none_empty (domains_from p j n) ≡ false
one_empty_domains p j zero i a b e = absurd (omega arith)
one_empty_domains p j (suc n) i a b e = ap none_empty (domains_more p j n) ∙ elim (cases_eq j i) [
  | inl f ↦ ap (λ xs. none_empty (xs ∷ domains_from p (suc j) n)) (subst (λ x. settings_from (p x) 0 8 ≡ []) (sym f) e)
  | inr f ↦ later (settings_from (p j) 0 8) (one_empty_domains p (suc j) n i (omega arith) (omega arith) e)
]
  where
    later : (xs : List ℕ) → none_empty (domains_from p (suc j) n) ≡ false → none_empty (xs ∷ domains_from p (suc j) n) ≡ false
    later [] h = refl
    later (x ∷ xs) h = h

-- a mask that is not 0 has settings
pub mask_some : (mask : ℕ) → 1 ≤ mask → mask < 256 → settings_from (has mask) 0 8 ≡ [] → ⊥
mask_some mask l small e = let z = no_bit 8 mask small (λ k m. none_passes (has mask) 0 8 e k (omega arith) (omega arith)) in omega arith
