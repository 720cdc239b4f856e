use Rattle.walks.proofs.Sat.{Sat}
use Rattle.walks.proofs.state.Search.sit.Given as goal

abbrev pub invariant-loop-made : goal.invariant-loop-made
invariant-loop-made g l = Sat g.C.Charge.kind g.C.Charge.means l.sheet (g.W.Walk.floor l.walks) (g.W.Walk.answer l.walks) l.initial.self l.made l.self
