-- What the calls of walking do to the walk of a job, and what they are answered.
use Rattle.std.specs.Prelude.{◌≡◌, ℕ, Bool, cond, List, replicate, Some, None, Option, MatchOption}
use Rattle.std.specs.Option.{unwrap_or}
use Rattle.charges.specs.Kinds.{Kind}
use Rattle.tables.specs.declared.modules.Modules.{Modules}
use Rattle.walks.specs.declared.state.Search.{Search}
use Rattle.walks.specs.declared.outcome.Closed.{Closed}
use Rattle.walks.specs.Outcomes.{fixed, Closes}
use Rattle.jobs.specs.declared.sat.Sat.{Sat}
use Rattle.jobs.specs.Checks.{start_checks, sit_checks, close_checks}
use Rattle.jobs.specs.Searching.{is_open, Starts, SitsOpen}
use Rattle.told.specs.declared.figure.Figure.{Figure}
use Rattle.told.specs.declared.closing.Closing.{Closing}
use Rattle.told.specs.declared.closing.Setup.{Setup}
use Rattle.answers.specs.declared.answer.Answer.{Answer}
use Rattle.answers.specs.declared.answer.Answer.TheVariants as answer
use Rattle.reports.specs.Building.{Tells}

-- the number of the ticket that is brought: the one that is written, or else the job's own
abbrev pub brought : ℕ → Option ℕ → ℕ
brought number ticket = unwrap_or ticket number

-- twenty zeros
abbrev pub blank_row : List ℕ
blank_row = replicate 20 0

-- the first n settings of a row, where a setup comes with the outcome
abbrev pub setup_told : Bool → List ℕ → ℕ → Option Setup
setup_told with_setup row n = cond with_setup (Some (record { settings = row; len = n })) None

-- C are the charges of a kind, as a job keeps them; m are the modules of the job, w the walk that is open and w' that after the call
module _ {C : Type 0} (K : Kind) (means : C → K.V) where
  -- a start below a ceiling, looking ahead or not; `says` is the charge that a figure says, and where it says none there is no call
  abbrev pub StartsTold : (Figure → Option C) → Bool → ℕ → Modules → Option (Search C) → Figure → Answer → Option (Search C) → Type 0
  StartsTold says ahead number m w x a w' =
      MatchOption (says x)
      ((a ≡ answer.NotACall) × (w' ≡ w))
      (λ ceiling. Tells (start_checks (is_open w) m) a
      ((a ≡ answer.Ticket number) × MatchOption w' ⊥ (Starts K means m ahead ceiling))
      (w' ≡ w))

  -- a sitting of so many steps, by these floors and answers, with scratch for `room` charges
  abbrev pub SitsTold : (Modules → List ℕ → List ℕ → C) → (Modules → List ℕ → List ℕ → ℕ → ℕ → C) → ℕ → ℕ → List ℕ → Option (Search C) → ℕ → Option ℕ → Answer → Option (Search C) → Type 0
  SitsTold floor with number room sheet w steps ticket a w' =
      Tells (sit_checks (is_open w) number sheet room (brought number ticket) steps) a
      ((told : Sat) × (a ≡ answer.Sat told) × SitsOpen K means floor with sheet steps w w' told)
      (w' ≡ w)

  -- what is printed of a walk that ends: what its close tells, and makes of a row of zeros
  pub record Ends (figure : K.V → Figure) (m : Modules) (s : Search C) (x : Closing) : Type 0 where
    pub told : Closed C
    pub row : List ℕ
    pub closes : Closes K means s blank_row told row
    pub outcome : x.outcome ≡ told.outcome
    pub charge : x.charge ≡ figure (means told.charge)
    pub steps : x.steps ≡ told.steps
    pub setup : x.setup ≡ setup_told (fixed told.outcome).with_setup row m.count

  -- a close
  abbrev pub ClosesTold : (K.V → Figure) → ℕ → Modules → Option (Search C) → Option ℕ → Answer → Option (Search C) → Type 0
  ClosesTold figure number m w ticket a w' =
      Tells (close_checks (is_open w) number blank_row (brought number ticket)) a
      (((x : Closing) × (a ≡ answer.Closed x) × MatchOption w ⊥ (λ s. Ends figure m s x)) × (w' ≡ None))
      (w' ≡ w)

  -- what is printed of the walk of a job that is let go; nothing where none is open
  abbrev pub Leaves : (K.V → Figure) → Modules → Option (Search C) → Option Closing → Type 0
  Leaves figure m w x = MatchOption x (w ≡ None) (λ closing. MatchOption w ⊥ (λ s. Ends figure m s closing))
