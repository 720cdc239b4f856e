use Rattle.std.proofs.Common.{◌≡◌}
use Rattle.calls.specs.declared.call.Vocabulary.TheVariants.{Building}
use Rattle.reports.specs.Scripts.{Idle}
use Rattle.reports.proofs.program.follow_lines.Given as goal

abbrev pub invariant-loop-line : goal.invariant-loop-line
invariant-loop-line l = l.vocabulary ≡ Building → Idle l.job
