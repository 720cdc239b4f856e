use Rattle.std.proofs.Common.{◌≡◌, ℕ, take}
use Rattle.tables.specs.Joins.{joined_from}
use Rattle.tables.specs.Modules.{allows}
use Rattle.counts.specs.Counting.{Counts}
use Rattle.counts.specs.Floors.{past_charge}
use Rattle.counts.specs.Least.{least}
use Rattle.counts.proofs.begun.Begun.floor_by.Given as goal

abbrev pub invariant-loop-j : goal.invariant-loop-j
invariant-loop-j g l =
    let K = g.C.Charge.kind in
    let m = l.self.modules.now in
    (value : ℕ → ℕ → K.V) → Counts g.C.Charge.means (goal.F-post g l.fn.count) value l.self.len m.count
    → g.C.Charge.means l.total ≡ K.join (past_charge K l.self.sheet.now (take l.self.len l.self.path.now)) (joined_from K (λ j. least K (allows m j) (value j)) l.self.len l.j)
