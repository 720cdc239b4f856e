-- What comes before a beginning in depth-first order.
use mathlib.Core.Path.{◌≡◌, refl, ap, ap₂}
use mathlib.Core.List.{List, [], ◌∷◌, ◌++◌}
use mathlib.Core.Bool.{Bool, true, false, not, ◌&&◌, ◌||◌}
use Prim.Native.Nat.{ℕ, ◌+◌, ◌<◌}
use native.Mathlib.Omega.{arith}
use lib.Dec.{ltb, eqb, ltb→lt, lt→ltb, eqb→eq, eqb_refl, not_T}
use Rattle.theory.specs.Tree.{bit, Above, Ascending}
use Rattle.theory.specs.Finding.{count, precedes}
use Rattle.theory.proofs.Tests.{T_true, T_false}
use Rattle.theory.proofs.Lists.{total}

pub precedes_low : (k a : ℕ) (s t : List ℕ) → k < a → precedes (k ∷ s) (a ∷ t) ≡ true
precedes_low k a s t l = ap (λ b. b || (eqb k a && precedes s t)) (T_true (ltb k a) (lt→ltb k a l))

not_less : (k a : ℕ) → (k < a → ⊥) → ltb k a ≡ false
not_less k a h = T_false (ltb k a) (not_T (ltb k a) (λ m. h (ltb→lt k a m)))

pub precedes_high : (k a : ℕ) (s t : List ℕ) → a < k → precedes (k ∷ s) (a ∷ t) ≡ false
precedes_high k a s t l =
    ap₂ (λ b c. b || (c && precedes s t)) (not_less k a (λ m. omega arith)) (T_false (eqb k a) (not_T (eqb k a) (λ m. let e = eqb→eq k a m in omega arith)))

pub precedes_same : (a : ℕ) (s t : List ℕ) → precedes (a ∷ s) (a ∷ t) ≡ precedes s t
precedes_same a s t = ap₂ (λ b c. b || (c && precedes s t)) (not_less a a (λ m. omega arith)) (T_true (eqb a a) (eqb_refl a))

pub precedes_none : (s : List ℕ) → precedes s [] ≡ false
precedes_none [] = refl
precedes_none (x ∷ s) = refl

-- those that pass are those before and those not before
pub count_split : (t u : List ℕ → Bool) (xs : List (List ℕ)) → count (λ s. t s && u s) xs + count (λ s. t s && not (u s)) xs ≡ count t xs
count_split t u [] = omega arith
count_split t u (x ∷ xs) = let r = count_split t u xs in let e = one (t x) (u x) in omega arith
  where
    one : (a b : Bool) → bit (a && b) + bit (a && not b) ≡ bit a
    one true true = omega arith
    one true false = omega arith
    one false b = omega arith

above_at : (x a : ℕ) (front more : List ℕ) → Above x (front ++ (a ∷ more)) → x < a
above_at x a [] more h = h.0
above_at x a (y ∷ front) more h = above_at x a front more h.1

pub total_low : (X : ℕ → ℕ) (a : ℕ) → ((k : ℕ) → k < a → X k ≡ 0) → (front more : List ℕ) → Ascending (front ++ (a ∷ more)) → total X front ≡ 0
total_low X a h [] more asc = refl
total_low X a h (x ∷ front) more asc = let e = h x (above_at x a front more asc.0) in let r = total_low X a h front more asc.1 in omega arith

pub ascending_tail : (a : ℕ) (front more : List ℕ) → Ascending (front ++ (a ∷ more)) → Above a more
ascending_tail a [] more asc = asc.0
ascending_tail a (x ∷ front) more asc = ascending_tail a front more asc.1

pub total_high : (X Y : ℕ → ℕ) (a : ℕ) → ((k : ℕ) → a < k → X k ≡ Y k) → (more : List ℕ) → Above a more → total X more ≡ total Y more
total_high X Y a h [] asc = refl
total_high X Y a h (x ∷ more) asc = let e = h x asc.0 in let r = total_high X Y a h more asc.1 in omega arith

pub total_append : (X : ℕ → ℕ) (xs ys : List ℕ) → total X (xs ++ ys) ≡ total X xs + total X ys
total_append X [] ys = omega arith
total_append X (x ∷ xs) ys = let r = total_append X xs ys in omega arith
