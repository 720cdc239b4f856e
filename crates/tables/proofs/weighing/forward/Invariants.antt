use Rattle.std.proofs.Common.{◌≡◌}
use Rattle.tables.specs.Setups.{forward_count}
use Rattle.tables.proofs.weighing.forward.Given as goal

abbrev pub invariant-loop-i : goal.invariant-loop-i
invariant-loop-i g l = g.C.Charge.means l.sum ≡ forward_count g.C.Charge.kind l.sheet l.row l.i l.j l.k
