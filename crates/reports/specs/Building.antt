-- What the calls that build and weigh do to a job and its sheet, and what they are answered.
use Rattle.std.specs.Prelude.{◌≡◌, ℕ, Bool, List, MatchOption, slice_set}
use Rattle.charges.specs.Kinds.{Kind}
use Rattle.tables.specs.declared.modules.Modules.{Modules}
use Rattle.tables.specs.Modules.{Adds, Narrows}
use Rattle.tables.specs.Sheet.{Clears, position}
use Rattle.tables.specs.Setups.{charge_of}
use Rattle.jobs.specs.declared.refusal.Refusal.{Refusal}
use Rattle.jobs.specs.Refusals.{first}
use Rattle.jobs.specs.Checks.{unless_walking, add_checks, charge_checks, narrow_checks, weigh_checks, what_if_checks}
use Rattle.told.specs.declared.figure.Figure.{Figure}
use Rattle.answers.specs.declared.answer.Answer.{Answer}
use Rattle.answers.specs.declared.answer.Answer.TheVariants as answer
use Rattle.calls.specs.declared.call.Call.{Call}
use Rattle.calls.specs.declared.call.Call.TheVariants.{Open, Add, Charge, Narrow, Weigh, WhatIf, Floor, FloorWith, Start, Ahead, Sit, Close}

-- under a call's checks: what is accepted, or the first refusal that fits, with nothing altered
abbrev pub Tells : List (Refusal × Bool) → Answer → Type 0 → Type 0 → Type 0
Tells checks a Accepted Unaltered = MatchOption (first checks) Accepted (λ e. (a ≡ answer.Refused e) × Unaltered)

module _ (K : Kind) (figure : K.V → Figure) where
  -- a call of these on a job with modules m and a sheet is answered a, and leaves them as m' and sheet'; `walking` says whether a walk is open, and `figure` prints a charge
  abbrev pub Builds : Bool → Modules → List ℕ → Call → Answer → Modules → List ℕ → Type 0
  Builds walking m sheet (Open n k w b) a m' sheet' = (a ≡ answer.NotACall) × (m' ≡ m) × (sheet' ≡ sheet)
  Builds walking m sheet (Floor path len) a m' sheet' = (a ≡ answer.NotACall) × (m' ≡ m) × (sheet' ≡ sheet)
  Builds walking m sheet (FloorWith j k path len) a m' sheet' = (a ≡ answer.NotACall) × (m' ≡ m) × (sheet' ≡ sheet)
  Builds walking m sheet (Start x) a m' sheet' = (a ≡ answer.NotACall) × (m' ≡ m) × (sheet' ≡ sheet)
  Builds walking m sheet (Ahead x) a m' sheet' = (a ≡ answer.NotACall) × (m' ≡ m) × (sheet' ≡ sheet)
  Builds walking m sheet (Sit n t) a m' sheet' = (a ≡ answer.NotACall) × (m' ≡ m) × (sheet' ≡ sheet)
  Builds walking m sheet (Close t) a m' sheet' = (a ≡ answer.NotACall) × (m' ≡ m) × (sheet' ≡ sheet)
  Builds walking m sheet (Add n) a m' sheet' =
      Tells (unless_walking walking (add_checks m sheet n)) a
      ((a ≡ answer.Module m.count) × Adds m m' n × Clears sheet sheet' m.count)
      ((m' ≡ m) × (sheet' ≡ sheet))
  Builds walking m sheet (Charge i k j l clash) a m' sheet' =
      Tells (unless_walking walking (charge_checks m sheet i k j l clash)) a
      ((a ≡ answer.Done) × (m' ≡ m) × (sheet' ≡ slice_set sheet (position i k j l) clash))
      ((m' ≡ m) × (sheet' ≡ sheet))
  Builds walking m sheet (Narrow i mask) a m' sheet' =
      Tells (unless_walking walking (narrow_checks m i mask)) a
      ((a ≡ answer.Done) × Narrows m m' i mask × (sheet' ≡ sheet))
      ((m' ≡ m) × (sheet' ≡ sheet))
  Builds walking m sheet (Weigh row) a m' sheet' =
      Tells (weigh_checks m sheet row) a
      ((a ≡ answer.Charge (figure (charge_of K sheet row m.count))) × (m' ≡ m) × (sheet' ≡ sheet))
      ((m' ≡ m) × (sheet' ≡ sheet))
  Builds walking m sheet (WhatIf i k row) a m' sheet' =
      Tells (what_if_checks m sheet row i k) a
      ((a ≡ answer.Charge (figure (charge_of K sheet (slice_set row i k) m.count))) × (m' ≡ m) × (sheet' ≡ sheet))
      ((m' ≡ m) × (sheet' ≡ sheet))
