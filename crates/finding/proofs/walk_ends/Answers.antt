use Rattle.finding.proofs.Endings.{ends}
use Rattle.finding.proofs.walk_ends.Goals as goal

pub returns : goal.returns
returns g c = ends _ g.met.C.Charge.lawful
