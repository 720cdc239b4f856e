use Rattle.std.proofs.Common.{sym, subst}
use Rattle.charges.specs.Capped.{Capped, capped}
use Rattle.charges.specs.Count.{counts}
use Rattle.charges.specs.Ranked.{Rank, rank, ranks}
use Rattle.charges.specs.Sum.{sums}
use Rattle.charges.specs.Worst.{worsts}
use Rattle.charges.specs.declared.count.Count.{Count}
use Rattle.charges.specs.declared.sum.Sum.{Sum}
use Rattle.charges.specs.declared.worst.Worst.{Worst}
use Rattle.charges.specs.declared.ranked.Ranked.{Ranked}
use Rattle.told.specs.declared.figure.Figure.{Figure}
use Rattle.reports.specs.declared.opened.AnyJob.{AnyJob}
use Rattle.reports.specs.Sessions.{modules_in, walk_in, Left}
use Rattle.reports.specs.Walking.{Leaves}
use Rattle.reports.proofs.Alike.{numbers_alike, ranks_alike}
use Rattle.reports.proofs.opened.AnyJob.let_go.Goals as goal

pub returns-in-ByRank : goal.returns-in-ByRank
returns-in-ByRank c =
    let told = c.let_go-in-ByRank in
    let job = c.in-ByRank.job in
    subst (λ (j : AnyJob). Left j told.result) (sym c.in-ByRank.is)
    (subst (λ (f : Rank → Figure). Leaves ranks (λ (s : Ranked). rank s.forbidden s.soft) f (modules_in job) (walk_in job) told.result) ranks_alike told.ensures)
