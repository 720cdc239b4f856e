-- An order on charges, given by a test.
use Rattle.std.specs.Prelude.{◌≡◌, ◌⊎◌, Bool, not, T}

pub record Order {V : Type 0} (at_most : V → V → Bool) : Type 0 where
  pub total : (a b : V) → T (at_most a b) ⊎ T (at_most b a)
  pub trans : (a b c : V) → T (at_most a b) → T (at_most b c) → T (at_most a c)
  -- equal when each is at most the other
  pub same : (a b : V) → T (at_most a b) → T (at_most b a) → a ≡ b

abbrev pub below : {V : Type 0} → (V → V → Bool) → V → V → Bool
below at_most a b = not (at_most b a)
