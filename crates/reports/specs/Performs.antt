-- What the calls of a script do to an open job and its sheet, and what they are answered.
use Rattle.std.specs.Prelude.{◌≡◌, ℕ, true, false, cond, ◌&&◌, List, take, Option}
use Rattle.charges.specs.Kinds.{Kind}
use Rattle.tables.specs.declared.modules.Modules.{Modules}
use Rattle.bounds.specs.Beginnings.{answerable, later_setting}
use Rattle.bound_names.specs.Bounds.{bound_of, named_floor, named_with}
use Rattle.bound_names.specs.declared.names.SettingName.{SettingName}
use Rattle.walks.specs.declared.state.Search.{Search}
use Rattle.jobs.specs.Searching.{is_open}
use Rattle.told.specs.declared.figure.Figure.{Figure}
use Rattle.answers.specs.declared.answer.Answer.{Answer}
use Rattle.answers.specs.declared.answer.Answer.TheVariants as answer
use Rattle.calls.specs.declared.call.BoundName.{BoundName}
use Rattle.calls.specs.declared.call.Call.{Call}
use Rattle.calls.specs.declared.call.Call.TheVariants.{Open, Add, Charge, Narrow, Weigh, WhatIf, Floor, FloorWith, Start, Ahead, Sit, Close}
use Rattle.reports.specs.Building.{Builds}
use Rattle.reports.specs.Walking.{StartsTold, SitsTold, ClosesTold}

-- what a job is opened for: plain walks over a bound, or both walks over a setting bound
pub data Opening : Type 0 where
  for_plain : BoundName → Opening
  for_both : SettingName → Opening

-- what a job was opened as, but for its kind
pub record Terms : Type 0 where
  pub number : ℕ
  pub opening : Opening

abbrev pub bound_in : Opening → BoundName
bound_in (for_plain b) = b
bound_in (for_both b) = bound_of b

module _ {C : Type 0} (K : Kind) (means : C → K.V) (made : K.V → C) (figure : K.V → Figure) (says : Figure → Option C) where
  -- the floor at the first `len` settings of path; zero where these are no beginning
  abbrev pub floor_told : Opening → Modules → List ℕ → List ℕ → ℕ → ℕ → K.V
  floor_told o m sheet path len room = cond (answerable m sheet path len room) (named_floor K (bound_in o) m sheet (take len path)) K.zero

  -- the answer for one setting of one later module; a job for plain walks has none
  abbrev pub with_told : Opening → Modules → List ℕ → List ℕ → ℕ → ℕ → ℕ → ℕ → Answer
  with_told (for_plain b) m sheet path len room j k = answer.NotACall
  with_told (for_both b) m sheet path len room j k =
      answer.Charge (figure (cond (answerable m sheet path len room && later_setting m len j k) (named_with K b m sheet (take len path) j k) K.zero))

  -- the floors that the walks of a job go by
  abbrev pub floor_by : Opening → Modules → List ℕ → List ℕ → C
  floor_by (for_plain b) m sheet p = made (named_floor K b m sheet p)
  floor_by (for_both b) m sheet p = made (named_floor K (bound_of b) m sheet p)

  -- the answers that they go by; a plain walk asks for none
  abbrev pub with_by : Opening → Modules → List ℕ → List ℕ → ℕ → ℕ → C
  with_by (for_plain b) m sheet p j k = made (named_floor K b m sheet p)
  with_by (for_both b) m sheet p j k = made (named_with K b m sheet p j k)

  -- a start that looks ahead; a job for plain walks has none
  abbrev pub AheadsTold : Opening → ℕ → Modules → Option (Search C) → Figure → Answer → Option (Search C) → Type 0
  AheadsTold (for_plain b) number m w x a w' = (a ≡ answer.NotACall) × (w' ≡ w)
  AheadsTold (for_both b) number m w x a w' = StartsTold K means says true number m w x a w'

  -- a call on a job opened as t with modules m, a walk w and a sheet is answered a, and leaves them as m', w' and sheet'; there is scratch for `room` charges
  abbrev pub Performs : Terms → ℕ → Modules → Option (Search C) → List ℕ → Call → Answer → Modules → Option (Search C) → List ℕ → Type 0
  Performs t room m w sheet (Open n k v b) a m' w' sheet' = Builds K figure (is_open w) m sheet (Open n k v b) a m' sheet' × (w' ≡ w)
  Performs t room m w sheet (Add n) a m' w' sheet' = Builds K figure (is_open w) m sheet (Add n) a m' sheet' × (w' ≡ w)
  Performs t room m w sheet (Charge i k j l clash) a m' w' sheet' = Builds K figure (is_open w) m sheet (Charge i k j l clash) a m' sheet' × (w' ≡ w)
  Performs t room m w sheet (Narrow i mask) a m' w' sheet' = Builds K figure (is_open w) m sheet (Narrow i mask) a m' sheet' × (w' ≡ w)
  Performs t room m w sheet (Weigh row) a m' w' sheet' = Builds K figure (is_open w) m sheet (Weigh row) a m' sheet' × (w' ≡ w)
  Performs t room m w sheet (WhatIf i k row) a m' w' sheet' = Builds K figure (is_open w) m sheet (WhatIf i k row) a m' sheet' × (w' ≡ w)
  Performs t room m w sheet (Floor path len) a m' w' sheet' =
      (a ≡ answer.Charge (figure (floor_told t.opening m sheet path len room))) × (m' ≡ m) × (w' ≡ w) × (sheet' ≡ sheet)
  Performs t room m w sheet (FloorWith j k path len) a m' w' sheet' =
      (a ≡ with_told t.opening m sheet path len room j k) × (m' ≡ m) × (w' ≡ w) × (sheet' ≡ sheet)
  Performs t room m w sheet (Start x) a m' w' sheet' =
      StartsTold K means says false t.number m w x a w' × (m' ≡ m) × (sheet' ≡ sheet)
  Performs t room m w sheet (Ahead x) a m' w' sheet' =
      AheadsTold t.opening t.number m w x a w' × (m' ≡ m) × (sheet' ≡ sheet)
  Performs t room m w sheet (Sit n ticket) a m' w' sheet' =
      SitsTold K means (floor_by t.opening) (with_by t.opening) t.number room sheet w n ticket a w' × (m' ≡ m) × (sheet' ≡ sheet)
  Performs t room m w sheet (Close ticket) a m' w' sheet' =
      ClosesTold K means figure t.number m w ticket a w' × (m' ≡ m) × (sheet' ≡ sheet)
