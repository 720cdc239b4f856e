use Rattle.std.proofs.Common.{◌≡◌, ◌+◌}
use Rattle.tables.specs.Joins.{joined_from}
use Rattle.counts.specs.Floors.{least_entry}
use Rattle.counts.proofs.begun.Begun.directed_count.Given as goal

abbrev pub invariant-loop-i : goal.invariant-loop-i
invariant-loop-i g l =
    let K = g.C.Charge.kind in
    g.C.Charge.means l.sum ≡ joined_from K (least_entry K l.self.modules.now l.self.sheet.now l.j l.k) (l.j + 1) l.i
