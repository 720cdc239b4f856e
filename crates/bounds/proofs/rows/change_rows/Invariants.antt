use Rattle.std.proofs.Common.{ℕ, ◌<◌, ◌≤◌}
use Rattle.tables.specs.Modules.{allows}
use Rattle.bounds.specs.Answers.{RowChanged, SameButRows}
use Rattle.bounds.proofs.rows.change_rows.Given as goal

abbrev pub invariant-loop-j : goal.invariant-loop-j
invariant-loop-j g l =
    ((i : ℕ) → l.from ≤ i → i < l.j → RowChanged (allows l.modules i) (goal.F-post g l.change i) i l.initial.scratch l.scratch)
    × SameButRows l.from l.j l.initial.scratch l.scratch
