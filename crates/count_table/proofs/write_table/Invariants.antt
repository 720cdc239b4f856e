use Rattle.std.proofs.Common.{ℕ}
use Rattle.tables.specs.Modules.{allows}
use Rattle.bounds.specs.Answers.{Rows}
use Rattle.count_table.specs.Table.{Leasts}
use Rattle.counts.specs.Counting.{Counts}
use Rattle.count_table.proofs.write_table.Given as goal

abbrev pub invariant-loop-j : goal.invariant-loop-j
invariant-loop-j g l =
    let K = g.C.Charge.kind in
    let m = l.begun.modules.now in
    let d = l.begun.len in
    (f : ℕ → ℕ → K.V) → Counts g.C.Charge.means (goal.F-post g l.fn.count) f d m.count
    → Rows g.C.Charge.means (allows m) f d m.count l.scratch
    × Leasts K g.C.Charge.means (allows m) f d l.j l.scratch
