use Rattle.std.proofs.Common.{◌≤◌, arith}
use Rattle.tables.specs.Modules.{allows}
use Rattle.bounds.proofs.Changing.{rows_more, outside_more}
use Rattle.bounds.proofs.rows.change_rows.Goals as goal

pub loop-j-preserved : goal.loop-j-preserved
loop-j-preserved g c =
    let d = c.args.from in
    let j = c.loop-j.j in
    let from : d ≤ j = omega arith in
    let before = c.args.scratch.now in
    let xs = c.loop-j.scratch in
    let ys = c.change_row.new.scratch in
    let told = c.change_row.ensures in
    let inv = c.loop-j.invariant in (
      rows_more d j from before xs ys told.others inv.1 (allows c.args.modules.now) (goal.F-post g c.args.change) inv.0 told.changed,
      outside_more d j from before xs ys told.others inv.1,
    )
