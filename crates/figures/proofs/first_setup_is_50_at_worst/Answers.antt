use mathlib.Core.Path.{refl}
use Rattle.charges.specs.CappedLaws.{same_capped}
use Rattle.figures.proofs.first_setup_is_50_at_worst.Goals as goal

pub returns : goal.returns
returns c = same_capped _ _ refl
