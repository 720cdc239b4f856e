-- The calls that words say.
use Rattle.std.specs.Prelude.{◌≡◌, ℕ, Bool, true, false, ◌&&◌, List, [], ◌∷◌, length, Some, None, codes, Option}
use Rattle.words.specs.Words.{Word}
use Rattle.words.specs.Numbers.{Number}
use Rattle.words.specs.Rows.{Row}
use Rattle.told.specs.declared.figure.Figure.{Figure}
use Rattle.told.specs.declared.figure.Figure.TheVariants as figure
use Rattle.calls.specs.Names.{kind_word, walks_word, bound_word}
use Rattle.calls.specs.declared.call.Walks.{Walks}
use Rattle.calls.specs.declared.call.Walks.TheVariants.{Plain, Both}
use Rattle.calls.specs.declared.call.SimpleBound.{SimpleBound}
use Rattle.calls.specs.declared.call.SimpleBound.TheVariants.{Past, Forward, Directed}
use Rattle.calls.specs.declared.call.BoundName.{BoundName}
use Rattle.calls.specs.declared.call.BoundName.TheVariants.{One, Higher}
use Rattle.calls.specs.declared.call.Call.{Call}
use Rattle.calls.specs.declared.call.Call.TheVariants.{Open, Add, Charge, Narrow, Weigh, WhatIf, Floor, FloorWith, Start, Ahead, Sit, Close}
use Rattle.calls.specs.declared.call.Vocabulary.{Vocabulary}
use Rattle.calls.specs.declared.call.Vocabulary.TheVariants.{Building, Walking}

-- the words for each bound
abbrev pub bound_words : BoundName → List Word
bound_words (One a) = bound_word a ∷ []
bound_words (Higher a b) = codes "higher" ∷ bound_word a ∷ bound_word b ∷ []

-- whether a bound of one word is a setting bound
abbrev pub setting_one : SimpleBound → Bool
setting_one Past = false
setting_one Forward = true
setting_one Directed = true

-- whether a bound is a setting bound: the higher of two is one if both are
abbrev pub setting : BoundName → Bool
setting (One a) = setting_one a
setting (Higher a b) = setting_one a && setting_one b

-- whether a bound may stand with the walks: both walks take a setting bound only
abbrev pub allowed : Walks → BoundName → Bool
allowed Plain b = true
allowed Both b = setting b

-- the words are a ceiling: one number, or two for a ranked charge; whether it is a charge of the job's kind is not said here
abbrev pub Ceiling : List Word → Figure → Type 0
Ceiling ws (figure.One n) = (x : Word) × (ws ≡ x ∷ []) × Number 4294967295 x n
Ceiling ws (figure.Two m n) = (x y : Word) × (ws ≡ x ∷ y ∷ []) × Number 65535 x m × Number 4294967295 y n

-- the words name a walk by its ticket; without words none is named
abbrev pub Ticket : List Word → Option ℕ → Type 0
Ticket ws None = ws ≡ []
Ticket ws (Some n) = (x : Word) × (ws ≡ codes "ticket" ∷ x ∷ []) × Number 4294967295 x n

-- the first word of each call
abbrev pub name : Call → Word
name (Open n k w b) = codes "open"
name (Add s) = codes "add"
name (Charge i k j l e) = codes "charge"
name (Narrow i m) = codes "narrow"
name (Weigh row) = codes "weigh"
name (WhatIf i k row) = codes "what-if"
name (Floor path len) = codes "floor"
name (FloorWith j k path len) = codes "floor-with"
name (Start x) = codes "start"
name (Ahead x) = codes "ahead"
name (Sit n t) = codes "sit"
name (Close t) = codes "close"

-- whether the vocabulary has the call: the calls of walking are in the walking vocabulary alone
abbrev pub has : Vocabulary → Call → Bool
has Walking c = true
has Building (Open n k w b) = true
has Building (Add s) = true
has Building (Charge i k j l e) = true
has Building (Narrow i m) = true
has Building (Weigh row) = true
has Building (WhatIf i k row) = true
has Building (Floor path len) = true
has Building (FloorWith j k path len) = true
has Building (Start x) = false
has Building (Ahead x) = false
has Building (Sit n t) = false
has Building (Close t) = false

-- the words after the first say the arguments of the call
abbrev pub Args : List Word → Call → Type 0
Args ws (Open n k w b) = (x : Word) × (ws ≡ x ∷ kind_word k ∷ walks_word w ∷ bound_words b) × Number 4294967295 x n × (allowed w b ≡ true)
Args ws (Add s) = (x : Word) × (ws ≡ x ∷ []) × Number 255 x s
Args ws (Charge i k j l e) = (x y z u v : Word) × (ws ≡ x ∷ y ∷ z ∷ u ∷ v ∷ []) × Number 255 x i × Number 255 y k × Number 255 z j × Number 255 u l × Number 65535 v e
Args ws (Narrow i m) = (x y : Word) × (ws ≡ x ∷ y ∷ []) × Number 255 x i × Number 255 y m
Args ws (Weigh row) = Row ws row
Args ws (WhatIf i k row) = (x y : Word) × (rest : List Word) × (ws ≡ x ∷ y ∷ rest) × Number 255 x i × Number 255 y k × Row rest row
Args ws (Floor path len) = Row ws path × (length ws ≡ len)
Args ws (FloorWith j k path len) = (x y : Word) × (rest : List Word) × (ws ≡ x ∷ y ∷ rest) × Number 255 x j × Number 255 y k × Row rest path × (length rest ≡ len)
Args ws (Start x) = Ceiling ws x
Args ws (Ahead x) = Ceiling ws x
Args ws (Sit n t) = (x : Word) × (rest : List Word) × (ws ≡ x ∷ rest) × Number 4294967295 x n × Ticket rest t
Args ws (Close t) = Ticket ws t

-- the words say the call: its first word, and then its arguments
abbrev pub Says : List Word → Call → Type 0
Says [] c = ⊥
Says (w ∷ ws) c = (w ≡ name c) × Args ws c
