use Rattle.std.proofs.Common.{map-id}
use Rattle.runs.proofs.perform.perform_both.Goals as goal

pub returns-clause-performed : goal.returns-clause-performed
returns-clause-performed g c = rw (c.open_both-desk.ensures.number, c.open_both-desk.ensures.bound, map-id) at c.perform.ensures.performed
