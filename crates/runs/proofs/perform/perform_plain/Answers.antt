use Rattle.runs.proofs.perform.perform_plain.Goals as goal

pub returns-clause-performed : goal.returns-clause-performed
returns-clause-performed g c = rw (c.open_plain-desk.ensures.number, c.open_plain-desk.ensures.bound) at c.perform.ensures.performed
