use Rattle.finding.proofs.Allowed.{setups_fit}
use Rattle.finding.proofs.allowed_setups_fit_the_domains.Goals as goal

pub returns : goal.returns
returns c = setups_fit
