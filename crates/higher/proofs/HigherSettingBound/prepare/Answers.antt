use Rattle.std.proofs.Common.{rules}
use Rattle.higher.proofs.HigherSettingBound.prepare.Goals as goal

pub returns-clause-answers : goal.returns-clause-answers
returns-clause-answers g c = λ j from below k small allowed z.
    let first = c.prepare-one.ensures.answers j from below k small allowed z in
    let second = c.prepare-other.ensures.answers j from below k small allowed in
    let told = c.change_rows.ensures.changed j from below k small allowed z in
    search rules
