use Rattle.std.proofs.Common.{◌≡◌}
use Rattle.walks.proofs.Trails.{Passes}
use Rattle.walks.proofs.trail.Trail.next.Given as goal

-- nothing is live after the settings from i on
abbrev pub invariant-loop-i : goal.invariant-loop-i
invariant-loop-i l = (l.self ≡ l.initial.self) × Passes l.initial.self.path l.initial.self.live l.initial.self.len l.i
