-- A bound by its first word.
use Rattle.std.proofs.Common.{◌≡◌, List, [], ◌∷◌, codes}
use Rattle.words.specs.Words.{Word}
use Rattle.calls.specs.Names.{bound_word}
use Rattle.calls.specs.Calls.{bound_words}
use Rattle.calls.specs.declared.call.SimpleBound.{SimpleBound}
use Rattle.calls.specs.declared.call.SimpleBound.TheVariants.{Past, Forward, Directed}
use Rattle.calls.specs.declared.call.BoundName.{BoundName}
use Rattle.calls.specs.declared.call.BoundName.TheVariants.{One, Higher}

-- a bound whose first word is `higher`
pub no_higher : (ws : List Word) → ((a b : SimpleBound) → ws ≡ bound_word a ∷ bound_word b ∷ [] → ⊥) → (b : BoundName) → (codes "higher" ∷ ws) ≡ bound_words b → ⊥
no_higher ws h (One Past) e = cc
no_higher ws h (One Forward) e = cc
no_higher ws h (One Directed) e = cc
no_higher ws h (Higher a b) e = h a b cc
