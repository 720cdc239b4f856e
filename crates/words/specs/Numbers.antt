-- Words that are decimal numbers.
use Rattle.std.specs.Prelude.{◌≡◌, ℕ, ◌+◌, ◌-◌, ◌*◌, ◌<◌, ◌≤◌, [], ◌∷◌, length}
use Rattle.words.specs.Words.{Word}

-- each byte is one of the digits 0 to 9, the bytes 48 to 57
abbrev pub Digits : Word → Type 0
Digits [] = Unit {0}
Digits (d ∷ ds) = (48 ≤ d) × (d ≤ 57) × Digits ds

-- the number that digits write, after digits that wrote n
abbrev pub value_after : ℕ → Word → ℕ
value_after n [] = n
value_after n (d ∷ ds) = value_after (n * 10 + (d - 48)) ds

-- the word is one digit or more and writes n, which is at most max
pub record Number (max : ℕ) (word : Word) (n : ℕ) : Type 0 where
  pub some : 0 < length word
  pub digits : Digits word
  pub value : value_after 0 word ≡ n
  pub within : n ≤ max
