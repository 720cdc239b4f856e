-- A script of the building vocabulary opens no walk.
use Rattle.std.proofs.Common.{◌≡◌, ℕ, Bool, true, false, List, Some, None, Option, sym, refl, subst, ap, ◌∙◌, MatchOption}
use Rattle.std.specs.Bool.{MatchBool}
use Rattle.std.proofs.lemmas.Bool.{both_ways}
use Rattle.charges.specs.Kinds.{Kind}
use Rattle.charges.specs.Ranked.{ranks}
use Rattle.charges.specs.Count.{counts}
use Rattle.charges.specs.Sum.{sums}
use Rattle.charges.specs.Worst.{worsts}
use Rattle.tables.specs.declared.modules.Modules.{Modules}
use Rattle.walks.specs.declared.state.Search.{Search}
use Rattle.jobs.specs.Searching.{is_open}
use Rattle.told.specs.declared.figure.Figure.{Figure}
use Rattle.told.specs.declared.closing.Closing.{Closing}
use Rattle.answers.specs.declared.answer.Answer.{Answer}
use Rattle.calls.specs.Calls.{has, allowed}
use Rattle.calls.specs.declared.call.Call.{Call}
use Rattle.calls.specs.declared.call.Call.TheVariants.{Open, Add, Charge, Narrow, Weigh, WhatIf, Floor, FloorWith, Start, Ahead, Sit, Close}
use Rattle.calls.specs.declared.call.Vocabulary.TheVariants.{Building}
use Rattle.reports.specs.declared.opened.AnyJob.{AnyJob}
use Rattle.reports.specs.declared.opened.AnyJob.TheVariants.{ByCount, BySum, ByWorst, ByRank}
use Rattle.reports.specs.declared.opened.Opened.{Opened}
use Rattle.reports.specs.declared.printed.Told.{Told}
use Rattle.reports.specs.Performs.{Terms, Performs}
use Rattle.reports.specs.Walking.{Leaves}
use Rattle.reports.specs.Sessions.{terms_of, modules_in, walk_in, walking, Carries, GoesOn, Ended, OnJob, Fresh, Answers}
use Rattle.reports.specs.Scripts.{Idle}

module _ {C : Type 0} (K : Kind) (means : C → K.V) (made : K.V → C) (figure : K.V → Figure) (says : Figure → Option C) where
  performs_idle : (t : Terms) (room : ℕ) (m : Modules) (w : Option (Search C)) (sheet : List ℕ) (c : Call) (a : Answer) (m' : Modules) (w' : Option (Search C)) (sheet' : List ℕ)
      → has Building c ≡ true → Performs K means made figure says t room m w sheet c a m' w' sheet' → is_open w ≡ false → is_open w' ≡ false
  performs_idle t room m w sheet (Open n k v b) a m' w' sheet' h p e = ap is_open p.1 ∙ e
  performs_idle t room m w sheet (Add n) a m' w' sheet' h p e = ap is_open p.1 ∙ e
  performs_idle t room m w sheet (Charge i k j l clash) a m' w' sheet' h p e = ap is_open p.1 ∙ e
  performs_idle t room m w sheet (Narrow i mask) a m' w' sheet' h p e = ap is_open p.1 ∙ e
  performs_idle t room m w sheet (Weigh row) a m' w' sheet' h p e = ap is_open p.1 ∙ e
  performs_idle t room m w sheet (WhatIf i k row) a m' w' sheet' h p e = ap is_open p.1 ∙ e
  performs_idle t room m w sheet (Floor path len) a m' w' sheet' h p e = ap is_open p.2 ∙ e
  performs_idle t room m w sheet (FloorWith j k path len) a m' w' sheet' h p e = ap is_open p.2 ∙ e
  performs_idle t room m w sheet (Start x) a m' w' sheet' h p e = absurd (both_ways false refl h)
  performs_idle t room m w sheet (Ahead x) a m' w' sheet' h p e = absurd (both_ways false refl h)
  performs_idle t room m w sheet (Sit n ticket) a m' w' sheet' h p e = absurd (both_ways false refl h)
  performs_idle t room m w sheet (Close ticket) a m' w' sheet' h p e = absurd (both_ways false refl h)

  carries_idle : (room : ℕ) (before : Opened C) (sheet : List ℕ) (c : Call) (a : Answer) (after : Opened C) (sheet' : List ℕ)
      → has Building c ≡ true → Carries K means made figure says room before sheet c a after sheet' → is_open (walk_in before) ≡ false → is_open (walk_in after) ≡ false
  carries_idle room before sheet c a after sheet' h p e = performs_idle (terms_of before) room (modules_in before) (walk_in before) sheet c a (modules_in after) (walk_in after) sheet' h p.performs e

leaves_idle : {C : Type 0} (K : Kind) (means : C → K.V) (figure : K.V → Figure) (m : Modules) (w : Option (Search C)) (x : Option Closing) → Leaves K means figure m w x → is_open w ≡ false → x ≡ None
leaves_idle K means figure m w None p e = refl
leaves_idle K means figure m None (Some closing) p e = absurd p
leaves_idle K means figure m (Some s) (Some closing) p e = absurd (both_ways true e refl)

goes_on_idle : (job : AnyJob) (sheet : List ℕ) (c : Call) (a : Answer) (after : AnyJob) (sheet' : List ℕ) → has Building c ≡ true → GoesOn job sheet c a after sheet' → walking job ≡ false → walking after ≡ false
goes_on_idle (ByCount job) sheet c a after sheet' h (job', e, p) i = ap walking e ∙ carries_idle counts _ _ _ _ 192 job sheet c a job' sheet' h p i
goes_on_idle (BySum job) sheet c a after sheet' h (job', e, p) i = ap walking e ∙ carries_idle sums _ _ _ _ 192 job sheet c a job' sheet' h p i
goes_on_idle (ByWorst job) sheet c a after sheet' h (job', e, p) i = ap walking e ∙ carries_idle worsts _ _ _ _ 192 job sheet c a job' sheet' h p i
goes_on_idle (ByRank job) sheet c a after sheet' h (job', e, p) i = ap walking e ∙ carries_idle ranks _ _ _ _ 192 job sheet c a job' sheet' h p i

ended_idle : (job : Option AnyJob) (x : Option Closing) → Ended job x → Idle job → x ≡ None
ended_idle None x p i = p
ended_idle (Some (ByCount job)) x p i = leaves_idle counts _ _ _ (walk_in job) x p i
ended_idle (Some (BySum job)) x p i = leaves_idle sums _ _ _ (walk_in job) x p i
ended_idle (Some (ByWorst job)) x p i = leaves_idle worsts _ _ _ (walk_in job) x p i
ended_idle (Some (ByRank job)) x p i = leaves_idle ranks _ _ _ (walk_in job) x p i

on_job_idle : (job : Option AnyJob) (sheet : List ℕ) (c : Call) (a : Answer) (after : Option AnyJob) (sheet' : List ℕ) → has Building c ≡ true → OnJob job sheet c a after sheet' → Idle job → Idle after
on_job_idle None sheet c a after sheet' h p i = subst Idle (sym p.1) tt
on_job_idle (Some job) sheet c a None sheet' h p i = absurd p
on_job_idle (Some job) sheet c a (Some after) sheet' h p i = goes_on_idle job sheet c a after sheet' h p i

fresh_idle : (after : Option AnyJob) (P : AnyJob → Type 0) → ((job : AnyJob) → P job → walking job ≡ false) → MatchOption after ⊥ P → Idle after
fresh_idle None P idle p = absurd p
fresh_idle (Some job) P idle p = idle job p

opens_idle : (b : Bool) (A B : Type 0) (Q : Type 0) → MatchBool b A B → (A → Q) → (B → Q) → Q
opens_idle true A B Q p f g = f p
opens_idle false A B Q p f g = g p

pub answers_idle : (job : Option AnyJob) (sheet : List ℕ) (c : Call) (told : Told) (after : Option AnyJob) (sheet' : List ℕ) → has Building c ≡ true → Answers job sheet c told after sheet' → Idle job → Idle after × (told.closed ≡ None)
answers_idle job sheet (Open n k v b) told after sheet' h p i = opens_idle (allowed v b) _ _ _ p
    (λ q. (fresh_idle after (Fresh n k v b) (λ job fresh. fresh.idle) q.2, ended_idle job told.closed q.1 i))
    (λ q. (subst Idle (sym q.2) i, q.1))
answers_idle job sheet (Add n) told after sheet' h p i = (on_job_idle job sheet (Add n) told.answer after sheet' h p.1 i, p.0)
answers_idle job sheet (Charge x k j l clash) told after sheet' h p i = (on_job_idle job sheet (Charge x k j l clash) told.answer after sheet' h p.1 i, p.0)
answers_idle job sheet (Narrow x mask) told after sheet' h p i = (on_job_idle job sheet (Narrow x mask) told.answer after sheet' h p.1 i, p.0)
answers_idle job sheet (Weigh row) told after sheet' h p i = (on_job_idle job sheet (Weigh row) told.answer after sheet' h p.1 i, p.0)
answers_idle job sheet (WhatIf x k row) told after sheet' h p i = (on_job_idle job sheet (WhatIf x k row) told.answer after sheet' h p.1 i, p.0)
answers_idle job sheet (Floor path len) told after sheet' h p i = (on_job_idle job sheet (Floor path len) told.answer after sheet' h p.1 i, p.0)
answers_idle job sheet (FloorWith j k path len) told after sheet' h p i = (on_job_idle job sheet (FloorWith j k path len) told.answer after sheet' h p.1 i, p.0)
answers_idle job sheet (Start x) told after sheet' h p i = absurd (both_ways false refl h)
answers_idle job sheet (Ahead x) told after sheet' h p i = absurd (both_ways false refl h)
answers_idle job sheet (Sit n t) told after sheet' h p i = absurd (both_ways false refl h)
answers_idle job sheet (Close t) told after sheet' h p i = absurd (both_ways false refl h)
