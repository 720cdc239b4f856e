-- Two modules of two settings each, with the clashes (0,0) = 50, (0,1) = 70 and (1,1) = 30.
use Rattle.std.specs.Prelude.{List, [], ◌∷◌, replicate, set, ℕ}
use Rattle.charges.specs.Kinds.{Kind}
use Rattle.tables.specs.Sheet.{position}
use Rattle.tables.specs.Setups.{charge_of}

-- their sheet
abbrev pub two_modules : List ℕ
two_modules = set (set (set (replicate 12160 0) (position 0 0 1 0) 50) (position 0 0 1 1) 70) (position 0 1 1 1) 30

-- what setting k of the first and setting l of the second are charged
abbrev pub charged : (K : Kind) → ℕ → ℕ → K.V
charged K k l = charge_of K two_modules (k ∷ l ∷ []) 2
