use Rattle.std.proofs.Common.{◌≡◌, ◌+◌, ◌*◌, false}
use Rattle.walks.specs.Opening.{answer_at}
use Rattle.walks.proofs.Struck.{Struck}
use Rattle.walks.proofs.striking.strike.Given as goal

abbrev pub invariant-loop-k : goal.invariant-loop-k
invariant-loop-k g l = (l.dead ≡ false) × Struck g.C.Charge.kind (g.C.Charge.means l.limit) (answer_at g.C.Charge.kind g.C.Charge.means g.C.Charge.made l.answers) l.row l.from l.count (8 * l.j + l.k) l.still

abbrev pub invariant-modules : goal.invariant-modules
invariant-modules g l = (l.dead ≡ false) × Struck g.C.Charge.kind (g.C.Charge.means l.limit) (answer_at g.C.Charge.kind g.C.Charge.means g.C.Charge.made l.answers) l.row l.from l.count (8 * l.j) l.still
