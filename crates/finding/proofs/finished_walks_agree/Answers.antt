use Rattle.finding.proofs.Agreeing.{agree}
use Rattle.finding.proofs.finished_walks_agree.Goals as goal

pub returns : goal.returns
returns g c = agree _ g.met.C.Charge.lawful
