use Rattle.std.proofs.Common.{not, take, sym, ap, ◌∙◌, rules}
use Rattle.std.proofs.lemmas.Bool.{eq-eqb, ne_eqb}
use Rattle.tables.specs.Modules.{allows}
use Rattle.counts.specs.Floors.{both, forward, counted, floor_over}
use Rattle.counts.proofs.begun.Begun.counted_floor.Goals as goal

pub returns-then-this-ne0 : goal.returns-then-this-ne0
returns-then-this-ne0 g c =
    let K = g.C.Charge.kind in
    let b = c.args.self.now in
    let m = b.modules.now in
    let sheet = b.sheet.now in
    let p = take b.len b.path.now in
    c.floor_by.ensures (both K m sheet p) (λ j k from below small r gave. search rules)
    ∙ sym (ap (λ is. floor_over K m sheet (allows m) (counted K m sheet is p) p) (ap not (ne_eqb _ _ c.if-this-ne0.true)))

pub returns-else-this-ne0 : goal.returns-else-this-ne0
returns-else-this-ne0 g c =
    let K = g.C.Charge.kind in
    let b = c.args.self.now in
    let m = b.modules.now in
    let sheet = b.sheet.now in
    let p = take b.len b.path.now in
    c.floor_by-else-this-ne0.ensures (forward K sheet p) (λ j k from below small r gave. search rules)
    ∙ sym (ap (λ is. floor_over K m sheet (allows m) (counted K m sheet is p) p) (ap not (eq-eqb _ _ c.if-this-ne0.false)))
