use Rattle.words.proofs.Filling.{no_row}
use Rattle.words.proofs.rows.read_row.Goals as goal

pub returns-in_err-row : goal.returns-in_err-row
returns-in_err-row c = rw c.from_residual.ensures (no_row _ c.in_err-row.ensures)
