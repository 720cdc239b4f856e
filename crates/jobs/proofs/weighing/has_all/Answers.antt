use Rattle.std.proofs.Common.{◌<◌, ◌≤◌, get_or, arith, rules}
use Rattle.std.proofs.lemmas.Iterator.{cases_from_all, YieldsList-from_range}
use borrow.Author.Tests.{tests}
use Rattle.tables.specs.Modules.{settings_of}
use Rattle.jobs.proofs.Rows.{has_all_tested}
use Rattle.jobs.proofs.weighing.has_all.Goals as goal

pub returns : goal.returns
returns c =
    let m = c.args.modules.now in
    let row = c.args.row.now in
    has_all_tested m row m.count c.all.result
    (cases_from_all _ _ _ (λ i. get_or row i 0 < settings_of m i) (λ i. settings_of m i ≤ get_or row i 0) c.all.ensures.ran
    (YieldsList-from_range 0 m.count m.count (search rules) (omega arith))
    (λ x q k. search (rules, tests)) (λ x q k. search (rules, tests)))
