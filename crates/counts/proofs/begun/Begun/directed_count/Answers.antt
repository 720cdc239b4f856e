use Rattle.std.proofs.Common.{◌+◌, arith}
use Rattle.counts.specs.Floors.{least_entry}
use Rattle.counts.proofs.Joining.{from_more}
use Rattle.counts.proofs.begun.Begun.directed_count.Goals as goal

pub loop-i-preserved : goal.loop-i-preserved
loop-i-preserved g c =
    let K = g.C.Charge.kind in
    let more = from_more K g.met.C.Charge.lawful (least_entry K c.args.self.now.modules.now c.args.self.now.sheet.now c.args.j c.args.k) (c.args.j + 1) c.loop-i.i (omega arith) in
    cc
