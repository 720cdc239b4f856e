-- Rows of numbers that words write.
use Rattle.std.specs.Prelude.{◌≡◌, ℕ, List, [], ◌∷◌, length}
use Rattle.words.specs.Words.{Word}
use Rattle.words.specs.Numbers.{Number}

-- the row has the numbers that the words write, and then zeros
abbrev pub Fills : List Word → List ℕ → Type 0
Fills [] [] = Unit {0}
Fills [] (x ∷ row) = (x ≡ 0) × Fills [] row
Fills (w ∷ ws) [] = ⊥
Fills (w ∷ ws) (x ∷ row) = Number 255 w x × Fills ws row

-- the words fill a row of twenty bytes
abbrev pub Row : List Word → List ℕ → Type 0
Row ws row = (length row ≡ 20) × Fills ws row
