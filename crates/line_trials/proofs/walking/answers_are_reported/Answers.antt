use Rattle.std.proofs.Common.{rules}
use Rattle.line_trials.proofs.walking.answers_are_reported.Goals as goal

-- the bytes of each text of the table are UTF-8: the table is past the usual number of facts that a search looks through
pub fact_in-assert_eq : goal.fact_in-assert_eq
fact_in-assert_eq g c = search rules fits 4000
