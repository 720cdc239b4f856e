-- The ticket that a desk holds.
use Rattle.std.specs.Prelude.{ℕ, Bool, true, false, Some, None, Option, ◌==◌}
use Rattle.walks.specs.declared.state.Search.{Search}
use Rattle.jobs.specs.declared.ticket.Ticket.{Ticket}

-- while a walk is open its ticket is held, with the job's number, and at other times none is
abbrev pub holds : {C : Type 0} → ℕ → Option (Search C) → Option Ticket → Bool
holds number None None = true
holds number None (Some t) = false
holds number (Some s) None = false
holds number (Some s) (Some t) = t.number == number
