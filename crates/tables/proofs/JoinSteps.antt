-- One charge more in a join.
use Rattle.std.proofs.Common.{◌≡◌, ℕ, ◌+◌, refl, add-one}
use Rattle.charges.specs.Kinds.{Kind}
use Rattle.tables.specs.Joins.{joined}

pub joined_more : (K : Kind) (f : ℕ → K.V) (n : ℕ) → joined K f (n + 1) ≡ K.join (joined K f n) (f n)
joined_more K f n = rw add-one refl
