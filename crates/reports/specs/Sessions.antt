-- What a script has open, and what its calls do to that.
use Rattle.std.specs.Prelude.{◌≡◌, ℕ, Bool, true, false, List, length, replicate, Some, None, MatchBool, Option, MatchOption}
use Rattle.charges.specs.Capped.{capped}
use Rattle.charges.specs.Kinds.{Kind}
use Rattle.charges.specs.declared.count.Count.{Count}
use Rattle.charges.specs.declared.sum.Sum.{Sum}
use Rattle.charges.specs.declared.worst.Worst.{Worst}
use Rattle.charges.specs.declared.ranked.Ranked.{Ranked}
use Rattle.charges.specs.Count.{counts}
use Rattle.charges.specs.Sum.{sums}
use Rattle.charges.specs.Worst.{worsts}
use Rattle.charges.specs.Ranked.{rank, ranks}
use Rattle.tables.specs.declared.modules.Modules.{Modules}
use Rattle.walks.specs.declared.state.Search.{Search}
use Rattle.jobs.specs.Searching.{is_open}
use Rattle.bound_names.specs.Bounds.{bound_of}
use Rattle.told.specs.declared.figure.Figure.{Figure}
use Rattle.told.specs.declared.closing.Closing.{Closing}
use Rattle.calls.specs.Calls.{allowed}
use Rattle.answers.specs.declared.answer.Answer.{Answer}
use Rattle.answers.specs.declared.answer.Answer.TheVariants as answer
use Rattle.calls.specs.declared.call.BoundName.{BoundName}
use Rattle.calls.specs.declared.call.Call.{Call}
use Rattle.calls.specs.declared.call.Call.TheVariants.{Open, Add, Charge, Narrow, Weigh, WhatIf, Floor, FloorWith, Start, Ahead, Sit, Close}
use Rattle.calls.specs.declared.call.KindName.{KindName}
use Rattle.calls.specs.declared.call.KindName.TheVariants as kind
use Rattle.calls.specs.declared.call.Walks.{Walks}
use Rattle.calls.specs.declared.call.Walks.TheVariants as walks
use Rattle.reports.specs.declared.opened.AnyJob.{AnyJob}
use Rattle.reports.specs.declared.opened.AnyJob.TheVariants.{ByCount, BySum, ByWorst, ByRank}
use Rattle.reports.specs.declared.opened.Opened.{Opened}
use Rattle.reports.specs.declared.opened.Opened.TheVariants.{ForPlain, ForBoth}
use Rattle.reports.specs.declared.printed.Told.{Told}
use Rattle.reports.specs.Figures.{number_figure, rank_figure, count_said, sum_said, worst_said, rank_said}
use Rattle.reports.specs.Walking.{Leaves}
use Rattle.reports.specs.Performs.{Opening, for_plain, for_both, Terms, Performs}

abbrev pub terms_of : {C : Type 0} → Opened C → Terms
terms_of (ForPlain desk) = record { number = desk.job.number; opening = for_plain desk.job.walks.bound.bound }
terms_of (ForBoth desk) = record { number = desk.job.number; opening = for_both desk.job.walks.bound }

abbrev pub modules_in : {C : Type 0} → Opened C → Modules
modules_in (ForPlain desk) = desk.job.modules
modules_in (ForBoth desk) = desk.job.modules

-- the walk that is open, if one is
abbrev pub walk_in : {C : Type 0} → Opened C → Option (Search C)
walk_in (ForPlain desk) = desk.job.current
walk_in (ForBoth desk) = desk.job.current

abbrev pub kind_of : AnyJob → KindName
kind_of (ByCount job) = kind.Count
kind_of (BySum job) = kind.Sum
kind_of (ByWorst job) = kind.Worst
kind_of (ByRank job) = kind.Ranked

abbrev pub opened_as : AnyJob → Terms
opened_as (ByCount job) = terms_of job
opened_as (BySum job) = terms_of job
opened_as (ByWorst job) = terms_of job
opened_as (ByRank job) = terms_of job

abbrev pub modules_of : AnyJob → Modules
modules_of (ByCount job) = modules_in job
modules_of (BySum job) = modules_in job
modules_of (ByWorst job) = modules_in job
modules_of (ByRank job) = modules_in job

-- whether a walk is open
abbrev pub walking : AnyJob → Bool
walking (ByCount job) = is_open (walk_in job)
walking (BySum job) = is_open (walk_in job)
walking (ByWorst job) = is_open (walk_in job)
walking (ByRank job) = is_open (walk_in job)

-- the same job after a call, with scratch for `room` charges
pub record Carries {C : Type 0} (K : Kind) (means : C → K.V) (made : K.V → C) (figure : K.V → Figure) (says : Figure → Option C)
    (room : ℕ) (before : Opened C) (sheet : List ℕ) (call : Call) (a : Answer) (after : Opened C) (sheet' : List ℕ) : Type 0 where
  pub same_terms : terms_of after ≡ terms_of before
  pub performs : Performs K means made figure says (terms_of before) room (modules_in before) (walk_in before) sheet call a (modules_in after) (walk_in after) sheet'

-- what a call does to a job of each kind, with scratch for 192 charges
abbrev pub GoesOn : AnyJob → List ℕ → Call → Answer → AnyJob → List ℕ → Type 0
GoesOn (ByCount job) sheet call a after sheet' =
    (job' : Opened Count) × (after ≡ ByCount job')
    × Carries counts (λ s. capped 65535 s.number) (λ v. record { number = v.number }) number_figure count_said 192 job sheet call a job' sheet'
GoesOn (BySum job) sheet call a after sheet' =
    (job' : Opened Sum) × (after ≡ BySum job')
    × Carries sums (λ s. capped 4294967295 s.number) (λ v. record { number = v.number }) number_figure sum_said 192 job sheet call a job' sheet'
GoesOn (ByWorst job) sheet call a after sheet' =
    (job' : Opened Worst) × (after ≡ ByWorst job')
    × Carries worsts (λ s. capped 65535 s.number) (λ v. record { number = v.number }) number_figure worst_said 192 job sheet call a job' sheet'
GoesOn (ByRank job) sheet call a after sheet' =
    (job' : Opened Ranked) × (after ≡ ByRank job')
    × Carries ranks (λ s. rank s.forbidden s.soft) (λ v. record { forbidden = v.forbidden; soft = v.soft }) rank_figure rank_said 192 job sheet call a job' sheet'

-- what is printed of the walk of a job that is let go
abbrev pub Left : AnyJob → Option Closing → Type 0
Left (ByCount job) x = Leaves counts (λ (s : Count). capped 65535 s.number) number_figure (modules_in job) (walk_in job) x
Left (BySum job) x = Leaves sums (λ (s : Sum). capped 4294967295 s.number) number_figure (modules_in job) (walk_in job) x
Left (ByWorst job) x = Leaves worsts (λ (s : Worst). capped 65535 s.number) number_figure (modules_in job) (walk_in job) x
Left (ByRank job) x = Leaves ranks (λ (s : Ranked). rank s.forbidden s.soft) rank_figure (modules_in job) (walk_in job) x

-- the same of what is open; nothing where nothing is
abbrev pub Ended : Option AnyJob → Option Closing → Type 0
Ended None x = x ≡ None
Ended (Some job) x = Left job x

-- a call on what is open; where nothing is, there is no call
abbrev pub OnJob : Option AnyJob → List ℕ → Call → Answer → Option AnyJob → List ℕ → Type 0
OnJob None sheet call a after sheet' = (a ≡ answer.NotACall) × (after ≡ None) × (sheet' ≡ sheet)
OnJob (Some before) sheet call a after sheet' = MatchOption after ⊥ (λ job. GoesOn before sheet call a job sheet')

-- the walks and the bound that were named
abbrev pub OpenedFor : Walks → BoundName → Opening → Type 0
OpenedFor walks.Plain bound (for_plain b) = b ≡ bound
OpenedFor walks.Plain bound (for_both b) = ⊥
OpenedFor walks.Both bound (for_plain b) = ⊥
OpenedFor walks.Both bound (for_both b) = bound_of b ≡ bound

-- a job without modules and without a walk, opened as asked
pub record Fresh (number : ℕ) (kind : KindName) (walks : Walks) (bound : BoundName) (job : AnyJob) : Type 0 where
  pub can : allowed walks bound ≡ true
  pub of_kind : kind_of job ≡ kind
  pub numbered : (opened_as job).number ≡ number
  pub opened : OpenedFor walks bound (opened_as job).opening
  pub empty : (modules_of job).count ≡ 0
  pub idle : walking job ≡ false

-- open puts a fresh job in the place of what is open, whose walk ends first, and zeros on the sheet; both walks with a bound that is no setting bound is no call
abbrev pub Opens : Option AnyJob → List ℕ → ℕ → KindName → Walks → BoundName → Told → Option AnyJob → List ℕ → Type 0
Opens before sheet number kind walks bound told after sheet' =
    MatchBool (allowed walks bound)
    ((told.answer ≡ answer.Done) × Ended before told.closed × MatchOption after ⊥ (Fresh number kind walks bound) × (sheet' ≡ replicate (length sheet) 0))
    ((told.answer ≡ answer.NotACall) × (told.closed ≡ None) × (after ≡ before) × (sheet' ≡ sheet))

-- a call of a script
abbrev pub Answers : Option AnyJob → List ℕ → Call → Told → Option AnyJob → List ℕ → Type 0
Answers before sheet (Open number kind walks bound) told after sheet' = Opens before sheet number kind walks bound told after sheet'
Answers before sheet (Add n) told after sheet' = (told.closed ≡ None) × OnJob before sheet (Add n) told.answer after sheet'
Answers before sheet (Charge i k j l clash) told after sheet' = (told.closed ≡ None) × OnJob before sheet (Charge i k j l clash) told.answer after sheet'
Answers before sheet (Narrow i mask) told after sheet' = (told.closed ≡ None) × OnJob before sheet (Narrow i mask) told.answer after sheet'
Answers before sheet (Weigh row) told after sheet' = (told.closed ≡ None) × OnJob before sheet (Weigh row) told.answer after sheet'
Answers before sheet (WhatIf i k row) told after sheet' = (told.closed ≡ None) × OnJob before sheet (WhatIf i k row) told.answer after sheet'
Answers before sheet (Floor path len) told after sheet' = (told.closed ≡ None) × OnJob before sheet (Floor path len) told.answer after sheet'
Answers before sheet (FloorWith j k path len) told after sheet' = (told.closed ≡ None) × OnJob before sheet (FloorWith j k path len) told.answer after sheet'
Answers before sheet (Start x) told after sheet' = (told.closed ≡ None) × OnJob before sheet (Start x) told.answer after sheet'
Answers before sheet (Ahead x) told after sheet' = (told.closed ≡ None) × OnJob before sheet (Ahead x) told.answer after sheet'
Answers before sheet (Sit n t) told after sheet' = (told.closed ≡ None) × OnJob before sheet (Sit n t) told.answer after sheet'
Answers before sheet (Close t) told after sheet' = (told.closed ≡ None) × OnJob before sheet (Close t) told.answer after sheet'
