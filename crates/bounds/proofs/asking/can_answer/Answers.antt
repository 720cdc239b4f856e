use Rattle.std.proofs.Common.{◌≡◌, true, false, get_or, sym, refl, ◌∙◌, rules, arith}
use Rattle.std.proofs.lemmas.Iterator.{cases_from_all, YieldsList-from_range}
use Rattle.tables.specs.Modules.{allows}
use Rattle.bounds.proofs.Answerable.{answers_all, asked_each}
use Rattle.bounds.proofs.asking.can_answer.Goals as goal
use borrow.Author.Tests.{tests}

pub returns : goal.returns
returns c =
    let m = c.args.modules.now in
    let path = c.args.path in
    let len = c.args.len in
    asked_each m path len c.all.result
    (cases_from_all _ _ _ (λ i. allows m i (get_or path i 0) ≡ true) (λ i. allows m i (get_or path i 0) ≡ false) c.all.ensures.ran
    (YieldsList-from_range 0 len len refl (omega arith)) (λ x q k. search (rules, tests)) (λ x q k. search (rules, tests)))
    ∙ sym (answers_all m c.args.sheet.now path len c.args.room (omega arith) (omega arith) (omega arith) (omega arith))
