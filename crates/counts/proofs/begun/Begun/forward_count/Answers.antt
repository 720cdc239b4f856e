use Rattle.std.proofs.Common.{◌∙◌}
use Rattle.counts.proofs.Taking.{forward_taken}
use Rattle.counts.proofs.begun.Begun.forward_count.Goals as goal

pub returns : goal.returns
returns g c =
    let b = c.args.self.now in
    c.forward.ensures ∙ forward_taken g.C.Charge.kind g.met.C.Charge.lawful b.sheet.now b.path.now b.len b.held.long c.args.j c.args.k
