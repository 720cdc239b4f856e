-- The settings in a mask.
use Rattle.std.proofs.Common.{◌≡◌, ℕ, zero, suc, ◌+◌, ◌-◌, ◌<◌, ◌≤◌, Bool, true, false, cond, [], ◌∷◌, Some, None, Option, refl, ap, ◌∙◌, arith, MatchOption}
use Rattle.std.proofs.lemmas.Bool.{cond-true, cond-false}
use Rattle.walks.specs.Settings.{settings_from}

pub settings_end : (passes : ℕ → Bool) (k : ℕ) → settings_from passes k 0 ≡ []
unfolding settings_from
settings_end passes k = refl

pub settings_more : (passes : ℕ → Bool) (k n : ℕ) → settings_from passes k (suc n) ≡ cond (passes k) (k ∷ settings_from passes (suc k) n) (settings_from passes (suc k) n)
unfolding settings_from
settings_more passes k n = refl

-- the first n do not pass
settings_past : (passes : ℕ → Bool) (k n m : ℕ) → ((i : ℕ) → k ≤ i → i < k + n → passes i ≡ false) → settings_from passes k (n + m) ≡ settings_from passes (k + n) m
settings_past passes k zero m h =
    let e : zero + m ≡ m = omega arith in
    let f : k ≡ k + zero = omega arith in
    ap (settings_from passes k) e ∙ ap (λ i. settings_from passes i m) f
settings_past passes k (suc n) m h =
    let e : suc n + m ≡ suc (n + m) = omega arith in
    let f : suc k + n ≡ k + suc n = omega arith in
    ap (settings_from passes k) e
    ∙ settings_more passes k (n + m)
    ∙ cond-false _ _ _ (h k (omega arith) (omega arith))
    ∙ settings_past passes (suc k) n m (λ i a b. h i (omega arith) (omega arith))
    ∙ ap (λ i. settings_from passes i m) f

-- none passes
pub settings_none : (passes : ℕ → Bool) (k n : ℕ) → ((i : ℕ) → k ≤ i → i < k + n → passes i ≡ false) → settings_from passes k n ≡ []
settings_none passes k n h =
    let e : n ≡ n + 0 = omega arith in
    ap (settings_from passes k) e ∙ settings_past passes k n 0 h ∙ settings_end passes (k + n)

-- the first that passes comes first
pub settings_first : (passes : ℕ → Bool) (k : ℕ) (r : Option ℕ)
    → MatchOption r ((i : ℕ) → k ≤ i → i < 8 → passes i ≡ false) (λ s. (k ≤ s) × (s < 8) × (passes s ≡ true) × ((i : ℕ) → k ≤ i → i < s → passes i ≡ false)) → k ≤ 8
    → MatchOption r (settings_from passes k (8 - k) ≡ []) (λ s. (k ≤ s) × (s < 8) × (passes s ≡ true) × (settings_from passes k (8 - k) ≡ s ∷ settings_from passes (suc s) (7 - s)))
settings_first passes k None h l = settings_none passes k (8 - k) (λ i a b. h i a (omega arith))
settings_first passes k (Some s) h l =
    let few = h.1 in
    let above = h.0 in
    let e : 8 - k ≡ s - k + suc (7 - s) = omega arith in
    let f : k + (s - k) ≡ s = omega arith in (
      h.0,
      h.1,
      h.2,
      ap (settings_from passes k) e
          ∙ settings_past passes k (s - k) (suc (7 - s)) (λ i a b. h.3 i a (omega arith))
          ∙ ap (λ i. settings_from passes i (suc (7 - s))) f
          ∙ settings_more passes s (7 - s)
          ∙ cond-true _ _ _ h.2,
    )
