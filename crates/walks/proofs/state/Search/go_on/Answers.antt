use Rattle.std.proofs.Common.{arith}
use Rattle.walks.proofs.Searches.{steps_fit, step_later}
use Rattle.walks.proofs.state.Search.go_on.Goals as goal

pub overflow_add-self : goal.overflow_add-self
overflow_add-self g c = omega (arith, steps_fit c.args.self.now)

pub invariant_of-self : goal.invariant_of-self
invariant_of-self g c =
    let s = c.args.self.now in
    let e = c.next.ensures in
    let h = e.among s.modules s.among in
    record {
      among = h;
      counted = step_later s.trail.path _ s.trail.len _ s.steps c.requires s.counted e.later;
    }
