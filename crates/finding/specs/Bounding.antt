-- What a walk is bounded by.
use Rattle.std.specs.Prelude.{◌≡◌, ℕ, Bool, List, slice_index}
use Rattle.theory.specs.Machine.{Walk}
use Rattle.charges.specs.Kinds.{Kind, AtMost}
use Rattle.tables.specs.declared.modules.Modules.{Modules}
use Rattle.tables.specs.Setups.{charge_of}
use Rattle.bounds.specs.Beginnings.{Beginning, Setup, Starts}
use Rattle.walks.specs.States.{by}

-- of the modules, the sheet and a beginning: its floor, and the answer for setting k of a later module j
pub record Bounding (K : Kind) : Type 0 where
  pub floor : Modules → List ℕ → List ℕ → K.V
  pub answer : Modules → List ℕ → List ℕ → ℕ → ℕ → K.V

-- no floor is above the charge of an allowed setup that starts with its beginning, and no answer above that of one with its setting
pub record LawfulBounding (K : Kind) (B : Bounding K) : Type 0 where
  pub floors : (m : Modules) (sheet p s : List ℕ) → Beginning m p → Starts p s → Setup m s → AtMost K (B.floor m sheet p) (charge_of K sheet s m.count)
  pub answers : (m : Modules) (sheet p s : List ℕ) (j k : ℕ) → Beginning m p → Starts p s → Setup m s → slice_index s j ≡ k
      → AtMost K (B.answer m sheet p j k) (charge_of K sheet s m.count)

-- how a job is walked by a bounding, looking ahead or not
abbrev pub walk_by : (K : Kind) → Bounding K → Modules → List ℕ → Bool → Walk K.V
walk_by K B m sheet ahead = by (B.floor m sheet) (B.answer m sheet) ahead
