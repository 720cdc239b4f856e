use Rattle.std.proofs.Common.{not, take, sym, ap, subst, rules}
use Rattle.std.proofs.lemmas.Bool.{eq-eqb, ne_eqb}
use Rattle.count_table.specs.Table.{Prepared}
use Rattle.counts.specs.Floors.{both, forward, counted}
use Rattle.count_table.proofs.prepare_counted.Goals as goal

pub returns-then-this-ne0 : goal.returns-then-this-ne0
returns-then-this-ne0 g c =
    let K = g.C.Charge.kind in
    let b = c.args.begun.now in
    let m = b.modules.now in
    let sheet = b.sheet.now in
    let p = take b.len b.path.now in
    let prepared =
    subst (λ is. Prepared K g.C.Charge.means m sheet p (counted K m sheet is p) b.len (g.C.Charge.means c.prepare_by.result) c.prepare_by.new.scratch) (sym (ap not (ne_eqb _ _ c.if-this-ne0.true)))
    (c.prepare_by.ensures (both K m sheet p) (λ j k from below small r gave. search rules)) in
    record { answers = prepared.answers; value = prepared.value }

pub returns-else-this-ne0 : goal.returns-else-this-ne0
returns-else-this-ne0 g c =
    let K = g.C.Charge.kind in
    let b = c.args.begun.now in
    let m = b.modules.now in
    let sheet = b.sheet.now in
    let p = take b.len b.path.now in
    let called = c.prepare_by-else-this-ne0 in
    let prepared =
    subst (λ is. Prepared K g.C.Charge.means m sheet p (counted K m sheet is p) b.len (g.C.Charge.means called.result) called.new.scratch) (sym (ap not (eq-eqb _ _ c.if-this-ne0.false)))
    (called.ensures (forward K sheet p) (λ j k from below small r gave. search rules)) in
    record { answers = prepared.answers; value = prepared.value }
