use Rattle.std.proofs.Common.{arith}
use Rattle.walks.proofs.Searches.{steps_fit}
use Rattle.walks.proofs.state.Search.go_down.Goals as goal

pub overflow_add-self : goal.overflow_add-self
overflow_add-self g c = omega (arith, steps_fit c.args.self.now)
