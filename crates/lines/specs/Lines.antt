-- What a line of a script is.
use Rattle.std.specs.Prelude.{◌≡◌, true, List, [], ◌∷◌, slice_index}
use Rattle.words.specs.Words.{Word}
use Rattle.calls.specs.Calls.{has, Says}
use Rattle.calls.specs.declared.call.Call as call
use Rattle.calls.specs.declared.call.Vocabulary.{Vocabulary}
use Rattle.lines.specs.declared.line.Line.{Line}
use Rattle.lines.specs.declared.line.Line.TheVariants.{Skipped, NoCall, Call}

-- a line is skipped if it has no word, or if its first word starts with #, byte 35
abbrev pub Skips : List Word → Type 0
Skips [] = Unit {0}
Skips (w ∷ ws) = slice_index w 0 ≡ 35

-- a line of these words is skipped, or says no call of the vocabulary, or says the call, which the vocabulary has
abbrev pub Reads : Vocabulary → List Word → Line → Type 0
Reads v ws Skipped = Skips ws
Reads v ws NoCall = (Skips ws → ⊥) × ((c : call.Call) → Says ws c × (has v c ≡ true) → ⊥)
Reads v ws (Call c) = (Skips ws → ⊥) × Says ws c × (has v c ≡ true)
