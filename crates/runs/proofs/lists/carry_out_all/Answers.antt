use Rattle.std.proofs.Common.{◌<◌, length, ◌∙◌, arith}
use Rattle.runs.specs.Does.{answered}
use Rattle.runs.specs.Stands.{stand_of}
use Rattle.runs.proofs.Carried.{carried_more}
use Rattle.runs.proofs.lists.carry_out_all.Goals as goal

pub loop-i-preserved : goal.loop-i-preserved
loop-i-preserved g c =
    let d = c.loop-i.desk in
    let inv = c.loop-i.invariant in
    let now = stand_of d c.loop-i.sheet c.loop-i.memory in
    let after = stand_of c.carry_out.new.desk c.carry_out.new.sheet c.carry_out.new.memory in
    let call = c.index-calls-i.result in
    let a = answered c.carry_out.result in
    let as_both = g.X.CallOn.as_both in
    let does = rw (inv.walks, inv.number, inv.space) at c.carry_out.ensures.does in
    let in_calls : c.loop-i.i < length c.args.calls.now = omega (arith, c.loop-i-test.true, c.min-n.ensures) in
    let in_answers : c.loop-i.i < length c.loop-i.answers = omega (arith, c.loop-i-test.true, c.min-n.ensures, inv.carried.long) in
    record {
      number = c.carry_out.ensures.same_number ∙ inv.number;
      walks = c.carry_out.ensures.same_walks ∙ inv.walks;
      space = c.carry_out.auto.scratch ∙ inv.space;
      carried = rw c.answered.ensures (carried_more _ _ _ _ _ _ g.X.CallOn.as_both _ _ _ c.loop-i.i now after c.loop-i.answers call a in_calls in_answers c.index-calls-i.is does inv.carried);
    }
