use Rattle.std.proofs.Common.{◌≡◌, ℕ, take, sym, ap, ◌∙◌, arith}
use Rattle.tables.specs.Joins.{joined_from}
use Rattle.tables.specs.Modules.{allows}
use Rattle.counts.specs.Floors.{past_charge}
use Rattle.counts.specs.Least.{least}
use Rattle.counts.proofs.Joining.{from_step}
use Rattle.counts.proofs.Taking.{taken}
use Rattle.counts.proofs.begun.Begun.floor_by.Goals as goal

pub loop-j-preserved : goal.loop-j-preserved
loop-j-preserved g c = λ value counts.
    let K = g.C.Charge.kind in
    let b = c.args.self.now in
    let mins : ℕ → K.V = λ j. least K (allows b.modules.now j) (value j) in
    from_step K g.met.C.Charge.lawful (past_charge K b.sheet.now (take b.len b.path.now)) mins b.len c.loop-j.j (omega arith)
    (c.loop-j.invariant value counts) c.joined-total.ensures
    (c.least.ensures (value c.loop-j.j) (λ k small allowed r gave. counts c.loop-j.j k (omega arith) (omega arith) small r gave))

pub returns : goal.returns
returns g c = λ value counts.
    let K = g.C.Charge.kind in
    let b = c.args.self.now in
    let m = b.modules.now in
    let p = take b.len b.path.now in
    let mins : ℕ → K.V = λ j. least K (allows m j) (value j) in
    let all : c.loop-j.j ≡ m.count = omega arith in
    c.loop-j.invariant value counts
    ∙ ap (λ n. K.join (past_charge K b.sheet.now p) (joined_from K mins b.len n)) all
    ∙ ap (λ e. K.join (past_charge K b.sheet.now p) (joined_from K mins e m.count)) (sym (taken K g.met.C.Charge.lawful b.sheet.now b.path.now b.len b.held.long))
