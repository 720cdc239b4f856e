use mathlib.Core.Path.{refl}
use Rattle.charges.specs.Ranked.{soft_part}
use Rattle.charges.specs.RankedLaws.{same_rank}
use Rattle.figures.proofs.first_setup_ranks_0_50.Goals as goal

pub returns : goal.returns
unfolding soft_part
returns c = same_rank _ _ refl refl
