use Rattle.floors.proofs.CountedSettingBound.answer_of.Goals as goal

pub returns : goal.returns
returns g c = c.prepared_answer.ensures _ c.prepare.ensures.answers
