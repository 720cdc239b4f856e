use Rattle.std.proofs.Common.{arith}
use Rattle.charges.specs.CappedLaws.{same_capped}
use Rattle.charges.proofs.worst.WorstCharge.joined.Goals as goal

pub returns : goal.returns
returns c = same_capped _ _ (omega arith)
