use Rattle.std.proofs.Common.{◌≡◌, true, subst}
use Rattle.calls.specs.Calls.{has}
use Rattle.calls.specs.declared.call.Vocabulary.{Vocabulary}
use Rattle.reports.proofs.Idle.{answers_idle}
use Rattle.reports.proofs.script.follow_in_place.Goals as goal

pub returns-in-Call-clause-idle : goal.returns-in-Call-clause-idle
returns-in-Call-clause-idle c = λ building idle.
    let call = c.in-Call.call in
    answers_idle c.args.job.now c.args.sheet.now call c.answer_in_place.result c.answer_in_place.new.job c.answer_in_place.new.sheet
    (subst (λ (v : Vocabulary). has v call ≡ true) building c.in-Call.ensures.2) c.answer_in_place.ensures idle
