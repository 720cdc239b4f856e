-- What each call is answered and does, by the rules.
use Rattle.std.specs.Prelude.{◌≡◌, ℕ, min, Bool, true, false, List, MatchOption, Ok, Err, Result, slice_set}
use Rattle.charges.specs.Kinds.{Kind}
use Rattle.tables.specs.declared.modules.Modules.{Modules}
use Rattle.tables.specs.Modules.{Adds, Narrows}
use Rattle.tables.specs.Setups.{charge_of}
use Rattle.tables.specs.Sheet.{Clears, position}
use Rattle.walks.specs.declared.outcome.Closed.{Closed}
use Rattle.jobs.specs.declared.refusal.Refusal.{Refusal}
use Rattle.jobs.specs.declared.sat.Sat.{Sat}
use Rattle.jobs.specs.Checks.{unless_walking, add_checks, charge_checks, narrow_checks, weigh_checks, what_if_checks, start_checks, sit_checks, close_checks}
use Rattle.jobs.specs.Refusals.{first}
use Rattle.jobs.specs.Searching.{is_open, Starts, SitsOpen, ClosesOpen}
use Rattle.runs.specs.declared.answer.Answer.{Answer}
use Rattle.runs.specs.declared.answer.Answer.TheVariants as answer
use Rattle.runs.specs.declared.call.Call.{Call}
use Rattle.runs.specs.declared.call.Call.TheVariants.{Add, Charge, Narrow, Start, Sit, Weigh, WhatIf, Close}
use Rattle.runs.specs.declared.call.BothCall.{BothCall}
use Rattle.runs.specs.declared.call.BothCall.TheVariants.{Plain, StartAhead}
use Rattle.runs.specs.Stands.{Stand, row_of, with_row}

-- what is answered: what was told, or the refusal
abbrev pub answered : {C : Type 0} → Result (Answer C) Refusal → Answer C
answered (Ok told) = told
answered (Err refusal) = answer.Refused refusal

-- Under a call's checks: where none fits the call is carried out, else the first that fits is told, with nothing altered.
abbrev pub Tells : {C : Type 0} → List (Refusal × Bool) → Stand C → Answer C → Stand C → Type 0 → Type 0
Tells checks s a s' Accepted = MatchOption (first checks) Accepted (λ e. (a ≡ answer.Refused e) × (s' ≡ s))

-- On a job of this number, whose bound has these floors and answers, with scratch for `space` charges at most.
module _ {C : Type 0} (K : Kind) (means : C → K.V) (floor : Modules → List ℕ → List ℕ → C) (with-setting : Modules → List ℕ → List ℕ → ℕ → ℕ → C) (number space : ℕ) where
  -- a walk is begun, looking ahead or not
  abbrev pub Begins : Bool → C → Stand C → Answer C → Stand C → Type 0
  Begins ahead ceiling s a s' =
      Tells (start_checks (is_open s.current) s.modules) s a s'
      ((a ≡ answer.Ticket number) × MatchOption s'.current ⊥ (Starts K means s.modules ahead ceiling) × (s'.modules ≡ s.modules) × (s'.sheet ≡ s.sheet) × (s'.memory ≡ s.memory))

  -- the call is answered a, and the job stands as s' after it
  abbrev pub Does : Stand C → Call C → Answer C → Stand C → Type 0
  Does s (Add n) a s' =
      Tells (unless_walking (is_open s.current) (add_checks s.modules s.sheet n)) s a s'
      ((a ≡ answer.Module s.modules.count) × Adds s.modules s'.modules n × Clears s.sheet s'.sheet s.modules.count × (s'.current ≡ s.current) × (s'.memory ≡ s.memory))
  Does s (Charge i k j l clash) a s' =
      Tells (unless_walking (is_open s.current) (charge_checks s.modules s.sheet i k j l clash)) s a s'
      ((a ≡ answer.Done) × (s'.sheet ≡ slice_set s.sheet (position i k j l) clash) × (s'.modules ≡ s.modules) × (s'.current ≡ s.current) × (s'.memory ≡ s.memory))
  Does s (Narrow i mask) a s' =
      Tells (unless_walking (is_open s.current) (narrow_checks s.modules i mask)) s a s'
      ((a ≡ answer.Done) × Narrows s.modules s'.modules i mask × (s'.sheet ≡ s.sheet) × (s'.current ≡ s.current) × (s'.memory ≡ s.memory))
  Does s (Start ceiling) a s' = Begins false ceiling s a s'
  Does s (Sit ticket steps room) a s' =
      Tells (sit_checks (is_open s.current) number s.sheet (min room space) ticket steps) s a s'
      ((told : Sat) × (a ≡ answer.Sat told) × SitsOpen K means floor with-setting s.sheet steps s.current s'.current told × (s'.modules ≡ s.modules) × (s'.sheet ≡ s.sheet) × (s'.memory ≡ s.memory))
  Does s (Weigh row) a s' =
      Tells (weigh_checks s.modules s.sheet (row_of s.memory row)) s a s'
      ((v : C) × (a ≡ answer.Charge v) × (means v ≡ charge_of K s.sheet (row_of s.memory row) s.modules.count) × (s' ≡ s))
  Does s (WhatIf row i k) a s' =
      Tells (what_if_checks s.modules s.sheet (row_of s.memory row) i k) s a s'
      ((v : C) × (a ≡ answer.Charge v) × (means v ≡ charge_of K s.sheet (slice_set (row_of s.memory row) i k) s.modules.count) × (s' ≡ s))
  Does s (Close ticket row) a s' =
      Tells (close_checks (is_open s.current) number (row_of s.memory row) ticket) s a s'
      ((told : Closed C) × (a ≡ answer.Closed told)
      × ((bytes : List ℕ) × ClosesOpen K means s.current (row_of s.memory row) told bytes s'.current × (s'.memory ≡ with_row s.memory row bytes))
      × (s'.modules ≡ s.modules) × (s'.sheet ≡ s.sheet))

  -- the same on a job that was opened for both walks
  abbrev pub DoesBoth : Stand C → BothCall C → Answer C → Stand C → Type 0
  DoesBoth s (Plain call) a s' = Does s call a s'
  DoesBoth s (StartAhead ceiling) a s' = Begins true ceiling s a s'
