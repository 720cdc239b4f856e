use Rattle.std.proofs.Common.{sym, subst}
use Rattle.reports.specs.Scripts.{Idle}
use Rattle.reports.proofs.program.follow_lines.Goals as goal
use Rattle.reports.proofs.program.follow_lines.Goals.{in-None, in-Some+then-is_err, in-Ok, in-Err}

pub loop-line-preserved : goal.loop-line-preserved
loop-line-preserved c = λ building.
    let before = c.loop-line.invariant building in
    elim c.match-line.branch [
      | in-Ok w ↦ subst Idle (sym w.job-is) (w.follow_in_place-told.ensures.idle building before).0
      | in-Err w ↦ subst Idle (sym w.job-is) before
    ]

pub returns : goal.returns
returns c = λ building.
    let before = c.loop-line.invariant building in
    elim c.match-next.branch [
      | in-None w ↦ subst Idle (sym w.job-is) before
      | in-Some+then-is_err w ↦
          elim w.match-line.branch [
            | in-Ok v ↦ subst Idle (sym w.job-is) (subst Idle (sym v.job-is) (v.follow_in_place-told.ensures.idle building before).0)
            | in-Err v ↦ subst Idle (sym w.job-is) (subst Idle (sym v.job-is) before)
          ]
    ]
