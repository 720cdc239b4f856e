-- Numbers up to a greatest one.
use Rattle.std.specs.Prelude.{ℕ, ◌+◌, ◌≤◌, min, max, Bool, nat_le}
use Rattle.std.proofs.Common.{arith}

pub record Capped (most : ℕ) : Type 0 where
  pub number : ℕ
  pub within : number ≤ most

-- n, or the greatest where n is above it
abbrev pub capped : (most : ℕ) → ℕ → Capped most
capped most n = record { number = min n most; within = omega arith }

-- a sum that stops at the greatest
abbrev pub add : (most : ℕ) → Capped most → Capped most → Capped most
add most x y = capped most (x.number + y.number)

abbrev pub greater : (most : ℕ) → Capped most → Capped most → Capped most
greater most x y = record { number = max x.number y.number; within = omega arith }

abbrev pub no_more : (most : ℕ) → Capped most → Capped most → Bool
no_more most x y = nat_le x.number y.number
