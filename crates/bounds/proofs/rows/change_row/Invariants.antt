use Rattle.tables.specs.Modules.{allows}
use Rattle.bounds.proofs.Changing.{Changing}
use Rattle.bounds.proofs.rows.change_row.Given as goal

abbrev pub invariant-loop-k : goal.invariant-loop-k
invariant-loop-k g l = Changing (allows l.modules l.j) (goal.F-post g l.change l.j) l.j l.initial.scratch l.k l.scratch
