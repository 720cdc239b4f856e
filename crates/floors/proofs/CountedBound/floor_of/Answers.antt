use Rattle.std.proofs.Common.{◌≤◌, length, rules}
use Rattle.bounds.proofs.Answerable.{begun, begun_holds}
use Rattle.floors.proofs.CountedBound.floor_of.Goals as goal

pub invariant_of-begun : goal.invariant_of-begun
invariant_of-begun g c =
    let m = c.args.modules.now in
    let sheet = c.args.sheet.now in
    let room = length c.args.scratch.now in
    let b = begun m sheet c.args.path c.args.len room c.requires in
    let long : 20 ≤ length c.args.path = search rules in
    record { held = begun_holds m sheet c.args.path c.args.len room long b; within = b.within }
