-- From what a call on a job decides to what a script is told.
use Rattle.std.proofs.Common.{◌≡◌, Bool, List, Some, None, Option, sym, ◌∙◌, subst, MatchOption}
use Rattle.jobs.specs.declared.refusal.Refusal.{Refusal}
use Rattle.jobs.specs.Refusals.{first}
use Rattle.told.specs.declared.figure.Figure.{Figure}
use Rattle.answers.specs.declared.answer.Answer.{Answer}
use Rattle.answers.specs.declared.answer.Answer.TheVariants.{Refused}
use Rattle.reports.specs.Building.{Tells}

-- where no check fits, the call is accepted
pub accepted : (checks : List (Refusal × Bool)) (r : Answer) (Done Same : Type 0) → first checks ≡ None → Done → Tells checks r Done Same
accepted checks r Done Same none done = subst (λ (o : Option Refusal). MatchOption o Done (λ e. (r ≡ Refused e) × Same)) (sym none) done

-- where one fits, it is told
pub refused : (checks : List (Refusal × Bool)) (r : Answer) (Done Same : Type 0) (e : Refusal) → first checks ≡ Some e → r ≡ Refused e → Same → Tells checks r Done Same
refused checks r Done Same e fits said same = subst (λ (o : Option Refusal). MatchOption o Done (λ e. (r ≡ Refused e) × Same)) (sym fits) (said, same)

-- Where the answer is a charge: values that stand for one charge are printed alike.
module _ {C V : Type 0} (means : C → V) (made : V → C) (shows : C → Figure)
    (stands : (v : V) → means (made v) ≡ v) (alike : (x y : C) → means x ≡ means y → shows x ≡ shows y) where
  -- a value that stands for x is printed as x is
  pub shown : (v : C) (x : V) → means v ≡ x → shows v ≡ shows (made x)
  shown v x is = alike v (made x) (is ∙ sym (stands x))
