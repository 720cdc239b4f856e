use Rattle.finding.proofs.Endings.{found_so_far}
use Rattle.finding.proofs.walk_on_its_way_has_the_first_cheapest_so_far.Goals as goal

pub returns : goal.returns
returns g c = found_so_far _ g.met.C.Charge.lawful
