-- Joins of many charges.
use Rattle.std.specs.Prelude.{ℕ, zero, suc, ◌+◌, ◌-◌}
use Rattle.charges.specs.Kinds.{Kind}

-- f 0 to f (n - 1), joined; zero where n is 0
abbrev pub joined : (K : Kind) → (ℕ → K.V) → ℕ → K.V
joined K f zero = K.zero
joined K f (suc n) = K.join (joined K f n) (f n)

-- f d to f (n - 1), joined
abbrev pub joined_from : (K : Kind) → (ℕ → K.V) → ℕ → ℕ → K.V
joined_from K f d n = joined K (λ i. f (d + i)) (n - d)
