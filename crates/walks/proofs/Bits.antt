-- The bits of a mask.
use Rattle.std.proofs.Common.{◌≡◌, ℕ, zero, suc, ◌+◌, ◌-◌, ◌*◌, ◌/◌, ◌%◌, ◌^◌, ◌<◌, true, false, eqb, ap, ◌∙◌, subst, ap₂, inl, inr, arith}
use lib.Bits.{bit_xor, shifted_even, xor_zero_r, xor_self}
use native.Mathlib.Nat.{zero-div}
use Rattle.std.proofs.lemmas.Nat.{pow-add, pow_pos, pow_below, shr-shr, shr_below, shr_high, xor_shr, xor_mod}
use Rattle.std.proofs.lemmas.Bool.{cases_lt, eqb-true, eqb-false}
use Rattle.walks.specs.Settings.{has}

-- a mask of which no bit is set is 0
pub no_bit : (n mask : ℕ) → mask < 2 ^ n → ((k : ℕ) → k < n → has mask k ≡ false) → mask ≡ 0
no_bit zero mask l h = omega arith
no_bit (suc n) mask l h =
    let low : mask / 2 ^ 0 % 2 ≡ 1 → ⊥ = eqb-false _ _ (h 0 (omega arith)) in
    let wide : mask < 2 ^ (n + 1) = subst (λ x. mask < 2 ^ x) (omega arith) l in
    let half = no_bit n (mask / 2 ^ 1) (shr_below mask n 1 wide) (λ k m. ap (λ x. eqb (x % 2) 1) (shr-shr mask 1 k) ∙ h (1 + k) (omega arith)) in
    omega arith

pub one_bit : (n k : ℕ) → (k ≡ n → ⊥) → 2 ^ n / 2 ^ k % 2 ≡ 0
one_bit n k h = elim (cases_lt k n) [
  | inl l ↦
      let e : n ≡ suc (n - suc k) + k = omega arith in
      let split : 2 ^ n ≡ 2 ^ suc (n - suc k) * 2 ^ k + 0 = ap (λ x. 2 ^ x) e ∙ pow-add 2 (suc (n - suc k)) k ∙ omega arith in
      ap (λ x. x / 2 ^ k % 2) split ∙ ap (λ x. x % 2) (shr_high (2 ^ suc (n - suc k)) k 0 (pow_pos k)) ∙ even (n - suc k)
  | inr l ↦
      let small = shr_below (2 ^ n) 0 k (subst (λ x. 2 ^ n < 2 ^ x) (omega arith) (pow_below n k (omega arith))) in
      omega arith
]
  where
    even : (d : ℕ) → 2 ^ suc d % 2 ≡ 0
    even d = ap (λ x. x % 2) (let e : 2 ^ suc d ≡ 1 * 2 ^ suc d = omega arith in e) ∙ shifted_even 1 d

pub own_bit : (k : ℕ) → 2 ^ k / 2 ^ k % 2 ≡ 1
own_bit k =
    let e : 2 ^ k ≡ 1 * 2 ^ k + 0 = omega arith in
    ap (λ x. x / 2 ^ k % 2) e ∙ ap (λ x. x % 2) (shr_high 1 k 0 (pow_pos k))

-- bit n turned over
pub turned : (mask n k : ℕ) → bit_xor mask (2 ^ n) / 2 ^ k % 2 ≡ bit_xor (mask / 2 ^ k % 2) (2 ^ n / 2 ^ k % 2)
turned mask n k = ap (λ x. x % 2) (xor_shr mask (2 ^ n) k) ∙ xor_mod (mask / 2 ^ k) (2 ^ n / 2 ^ k) 1

pub struck_other : (mask n k : ℕ) → (k ≡ n → ⊥) → has (bit_xor mask (2 ^ n)) k ≡ has mask k
struck_other mask n k h = ap (λ x. eqb x 1) (turned mask n k ∙ ap (bit_xor (mask / 2 ^ k % 2)) (one_bit n k h) ∙ xor_zero_r _)

pub struck_own : (mask n : ℕ) → has mask n ≡ true → has (bit_xor mask (2 ^ n)) n ≡ false
struck_own mask n h = ap (λ x. eqb x 1) (turned mask n n ∙ ap₂ bit_xor (eqb-true _ _ h) (own_bit n) ∙ xor_self 1)

-- 0 has no bit
pub no_bits : (k : ℕ) → has 0 k ≡ false
no_bits k = let e : 0 / 2 ^ k % 2 ≡ 0 = ap (λ x. x % 2) (zero-div (2 ^ k)) in ap (λ x. eqb x 1) e
