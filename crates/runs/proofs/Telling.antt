-- How a call's decision is told.
use Rattle.std.proofs.Common.{◌≡◌, ℕ, Bool, List, None, sym, refl, subst, MatchOption}
use Rattle.charges.specs.Kinds.{Kind}
use Rattle.tables.specs.declared.modules.Modules.{Modules}
use Rattle.walks.specs.declared.outcome.Closed.{Closed}
use Rattle.jobs.specs.declared.refusal.Refusal.{Refusal}
use Rattle.jobs.specs.Checks.{close_checks}
use Rattle.jobs.specs.Searching.{is_open, ClosesOpen}
use Rattle.jobs.specs.Refusals.{first}
use Rattle.runs.specs.declared.answer.Answer.{Answer}
use Rattle.runs.specs.declared.answer.Answer.TheVariants as answer
use Rattle.runs.specs.declared.call.Call.TheVariants.{Close}
use Rattle.runs.specs.declared.call.Row.{Row}
use Rattle.runs.specs.Does.{Tells, Does}
use Rattle.runs.specs.Stands.{Stand, row_of, with_row}

-- where no check fits, what is accepted is told
pub tells_accepted : {C : Type 0} (checks : List (Refusal × Bool)) (s : Stand C) (a : Answer C) (s' : Stand C) (Accepted : Type 0) → first checks ≡ None → Accepted → Tells checks s a s' Accepted
tells_accepted checks s a s' Accepted e h = subst (λ f. MatchOption f Accepted (λ r. (a ≡ answer.Refused r) × (s' ≡ s))) (sym e) h

-- a close that is accepted
pub closes_told : {C : Type 0} (K : Kind) (means : C → K.V) (floor : Modules → List ℕ → List ℕ → C) (with-setting : Modules → List ℕ → List ℕ → ℕ → ℕ → C) (number space : ℕ) (s s' : Stand C) (ticket : ℕ) (row : Row) (told : Closed C)
    → first (close_checks (is_open s.current) number (row_of s.memory row) ticket) ≡ None
    → ((bytes : List ℕ) × ClosesOpen K means s.current (row_of s.memory row) told bytes s'.current × (s'.memory ≡ with_row s.memory row bytes))
    → s'.modules ≡ s.modules → s'.sheet ≡ s.sheet → Does K means floor with-setting number space s (Close ticket row) (answer.Closed told) s'
closes_told {C} K means floor with-setting number space s s' ticket row told e closes modules sheet =
    tells_accepted (close_checks (is_open s.current) number (row_of s.memory row) ticket) s (answer.Closed told) s'
    ((t : Closed C) × (answer.Closed told ≡ answer.Closed t)
    × ((bytes : List ℕ) × ClosesOpen K means s.current (row_of s.memory row) t bytes s'.current × (s'.memory ≡ with_row s.memory row bytes))
    × (s'.modules ≡ s.modules) × (s'.sheet ≡ s.sheet))
    e (told, refl, closes, modules, sheet)
