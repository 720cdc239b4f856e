-- What the bounds mean that a script names.
use Rattle.std.specs.Prelude.{ℕ, List}
use Rattle.charges.specs.Kinds.{Kind}
use Rattle.tables.specs.declared.modules.Modules.{Modules}
use Rattle.counts.specs.Floors.{past_charge, forward_floor, forward_with, directed_floor, directed_with}
use Rattle.higher.specs.Greater.{greater}
use Rattle.calls.specs.declared.call.BoundName.{BoundName}
use Rattle.calls.specs.declared.call.BoundName.TheVariants.{One, Higher}
use Rattle.calls.specs.declared.call.SimpleBound.{SimpleBound}
use Rattle.calls.specs.declared.call.SimpleBound.TheVariants.{Past, Forward, Directed}
use Rattle.bound_names.specs.declared.names.SettingName.{SettingName}
use Rattle.bound_names.specs.declared.names.SettingName.TheVariants.{Single, Pair}
use Rattle.bound_names.specs.declared.names.SettingOne.{SettingOne}
use Rattle.bound_names.specs.declared.names.SettingOne.TheVariants.{ByForward, ByDirected}

-- the names of setting bounds
abbrev pub simple_of : SettingOne → SimpleBound
simple_of ByForward = Forward
simple_of ByDirected = Directed

abbrev pub bound_of : SettingName → BoundName
bound_of (Single a) = One (simple_of a)
bound_of (Pair a b) = Higher (simple_of a) (simple_of b)

-- the floor of each bound at a beginning
abbrev pub simple_floor : (K : Kind) → SimpleBound → Modules → List ℕ → List ℕ → K.V
simple_floor K Past m sheet p = past_charge K sheet p
simple_floor K Forward m sheet p = forward_floor K m sheet p
simple_floor K Directed m sheet p = directed_floor K m sheet p

abbrev pub named_floor : (K : Kind) → BoundName → Modules → List ℕ → List ℕ → K.V
named_floor K (One a) m sheet p = simple_floor K a m sheet p
named_floor K (Higher a b) m sheet p = greater K (simple_floor K a m sheet p) (simple_floor K b m sheet p)

-- the answer of each setting bound for one setting
abbrev pub simple_with : (K : Kind) → SettingOne → Modules → List ℕ → List ℕ → ℕ → ℕ → K.V
simple_with K ByForward m sheet p j k = forward_with K m sheet p j k
simple_with K ByDirected m sheet p j k = directed_with K m sheet p j k

abbrev pub named_with : (K : Kind) → SettingName → Modules → List ℕ → List ℕ → ℕ → ℕ → K.V
named_with K (Single a) m sheet p j k = simple_with K a m sheet p j k
named_with K (Pair a b) m sheet p j k = greater K (simple_with K a m sheet p j k) (simple_with K b m sheet p j k)
