-- The bounds that a script names are lawful.
use Rattle.std.specs.Prelude.{◌≡◌, ℕ, ◌≤◌, List, length, slice_index_or}
use Rattle.std.proofs.lemmas.Bool.{cond_both}
use Rattle.charges.specs.Kinds.{Kind, Lawful, AtMost}
use Rattle.tables.specs.declared.modules.Modules.{Modules}
use Rattle.tables.specs.Setups.{charge_of}
use Rattle.bounds.specs.Beginnings.{Setup, Starts}
use Rattle.higher.specs.Greater.{greater}
use Rattle.counts.proofs.Sound.{past_sound, forward_sound, forward_with_sound, directed_sound, directed_with_sound}
use Rattle.calls.specs.declared.call.BoundName.{BoundName}
use Rattle.calls.specs.declared.call.BoundName.TheVariants.{One, Higher}
use Rattle.calls.specs.declared.call.SimpleBound.{SimpleBound}
use Rattle.calls.specs.declared.call.SimpleBound.TheVariants.{Past, Forward, Directed}
use Rattle.bound_names.specs.declared.names.SettingName.{SettingName}
use Rattle.bound_names.specs.declared.names.SettingName.TheVariants.{Single, Pair}
use Rattle.bound_names.specs.declared.names.SettingOne.{SettingOne}
use Rattle.bound_names.specs.declared.names.SettingOne.TheVariants.{ByForward, ByDirected}
use Rattle.bound_names.specs.Bounds.{simple_floor, named_floor, simple_with, named_with}

greater_at_most : (K : Kind) (x y c : K.V) → AtMost K x c → AtMost K y c → AtMost K (greater K x y) c
greater_at_most K x y c p q = cond_both (K.at_most x y) y x (λ v. AtMost K v c) (λ _. q) (λ _. p)

module _ (K : Kind) (L : Lawful K) (m : Modules) (sheet p s : List ℕ) (within : length p ≤ m.count) (starts : Starts p s) (fine : Setup m s) where
  pub simple_lawful : (b : SimpleBound) → AtMost K (simple_floor K b m sheet p) (charge_of K sheet s m.count)
  simple_lawful Past = past_sound K L m sheet p s within starts fine
  simple_lawful Forward = forward_sound K L m sheet p s within starts fine
  simple_lawful Directed = directed_sound K L m sheet p s within starts fine

  pub named_lawful : (b : BoundName) → AtMost K (named_floor K b m sheet p) (charge_of K sheet s m.count)
  named_lawful (One a) = simple_lawful a
  named_lawful (Higher a b) =
      greater_at_most K (simple_floor K a m sheet p) (simple_floor K b m sheet p) (charge_of K sheet s m.count) (simple_lawful a) (simple_lawful b)

  module _ (j k : ℕ) (is : slice_index_or s j 0 ≡ k) where
    pub simple_with_lawful : (b : SettingOne) → AtMost K (simple_with K b m sheet p j k) (charge_of K sheet s m.count)
    simple_with_lawful ByForward = forward_with_sound K L m sheet p s within starts fine j k is
    simple_with_lawful ByDirected = directed_with_sound K L m sheet p s within starts fine j k is

    pub named_with_lawful : (b : SettingName) → AtMost K (named_with K b m sheet p j k) (charge_of K sheet s m.count)
    named_with_lawful (Single a) = simple_with_lawful a
    named_with_lawful (Pair a b) =
        greater_at_most K (simple_with K a m sheet p j k) (simple_with K b m sheet p j k) (charge_of K sheet s m.count) (simple_with_lawful a) (simple_with_lawful b)
