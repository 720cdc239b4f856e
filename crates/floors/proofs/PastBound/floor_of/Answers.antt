use Rattle.std.proofs.Common.{◌≤◌, length, rules, arith}
use Rattle.tables.specs.Setups.{Holds}
use Rattle.bounds.proofs.Answerable.{begun, begun_holds}
use Rattle.floors.proofs.PastBound.floor_of.Goals as goal

pub past-requires : goal.past-requires
past-requires g c =
    let m = c.args.modules.now in
    let sheet = c.args.sheet.now in
    let room = length c.args.scratch.now in
    let long : 20 ≤ length c.args.path = search rules in
    let h : Holds sheet c.args.path c.args.len = begun_holds m sheet c.args.path c.args.len room long (begun m sheet c.args.path c.args.len room c.requires) in
    record {
      whole = h.whole;
      long = omega (arith, h.long);
      few = omega (arith, h.few);
      fit = λ i l. h.fit i (omega (arith, l));
    }
