use Rattle.std.proofs.Common.{◌≡◌}
use Rattle.tables.specs.Setups.{charge_of}
use Rattle.tables.proofs.weighing.weigh.Given as goal

abbrev pub invariant-loop-j : goal.invariant-loop-j
invariant-loop-j g l = g.C.Charge.means l.sum ≡ charge_of g.C.Charge.kind l.sheet l.row l.j
