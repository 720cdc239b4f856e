use Rattle.std.proofs.Common.{◌≤◌, sym, arith}
use Rattle.walks.proofs.Sat.{sat_more, sat_enough}
use Rattle.walks.proofs.state.Search.sit.Goals as goal

pub returns-then-is_finished : goal.returns-then-is_finished
returns-then-is_finished g c =
    let h = c.loop-made.invariant in
    let upto : c.loop-made.made ≤ c.args.steps = omega (arith, c.loop-made-test.true) in
    record { same = h.same; made = h.steps; stepped = sat_enough _ _ _ _ _ _ _ _ _ h upto (sym c.if-is_finished.ensures) }

pub loop-made-preserved : goal.loop-made-preserved
loop-made-preserved g c = sat_more _ _ _ _ _ _ _ _ _ c.loop-made.invariant c.step.ensures.same c.step.ensures.steps c.step.ensures.stepped
