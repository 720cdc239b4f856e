-- What a setup (a complete assignment) is charged.
use Rattle.std.specs.Prelude.{ℕ, ◌<◌, ◌≤◌, List, length, slice_index}
use Rattle.charges.specs.Kinds.{Kind}
use Rattle.tables.specs.Sheet.{entry_at, Whole}
use Rattle.tables.specs.Joins.{joined}

-- what setting k of module j is charged with the settings that row has for the first d modules (its inconsistency count)
abbrev pub forward_count : (K : Kind) → List ℕ → List ℕ → ℕ → ℕ → ℕ → K.V
forward_count K sheet row d j k = joined K (λ i. K.entry (entry_at sheet i (slice_index row i) j k)) d

-- the charge of the settings that row has for the first n modules: the entries of all their pairs, joined
abbrev pub charge_of : (K : Kind) → List ℕ → List ℕ → ℕ → K.V
charge_of K sheet row n = joined K (λ j. forward_count K sheet row j j (slice_index row j)) n

-- the sheet is whole, and row holds settings of the first d modules
pub record Holds (sheet row : List ℕ) (d : ℕ) : Type 0 where
  pub whole : Whole sheet
  pub long : d ≤ length row
  pub few : d ≤ 20
  pub fit : (i : ℕ) → i < d → slice_index row i < 8
