use Rattle.std.proofs.Common.{arith}
use Rattle.std.proofs.lemmas.Grind.{common_steps}
use Rattle.words.proofs.Filling.{no_row}
use Rattle.arguments.proofs.floors.read_floor_with.Goals as goal

pub returns-in_err-path : goal.returns-in_err-path
returns-in_err-path c = let none = no_row _ c.in_err-path.ensures in grind (arith, common_steps)
