use Rattle.finding.proofs.Endings.{found_at_end}
use Rattle.finding.proofs.finished_walk_has_the_first_cheapest.Goals as goal

pub returns : goal.returns
returns g c = found_at_end _ g.met.C.Charge.lawful
