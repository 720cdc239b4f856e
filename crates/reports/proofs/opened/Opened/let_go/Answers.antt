use Rattle.std.proofs.Common.{sym, subst}
use Rattle.reports.specs.declared.opened.Opened.{Opened}
use Rattle.reports.specs.Sessions.{modules_in, walk_in}
use Rattle.reports.specs.Walking.{Leaves}
use Rattle.reports.proofs.opened.Opened.let_go.Goals as goal

pub returns-in-ForPlain : goal.returns-in-ForPlain
returns-in-ForPlain g c =
    subst
    (λ (o : Opened g.row.C.Denot). Leaves g.C.Charge.kind g.C.Charge.means (λ v. g.C.Figured.shows (g.C.Charge.made v)) (modules_in o) (walk_in o) c.leave.result)
    (sym c.in-ForPlain.is) c.leave.ensures

pub returns-in-ForBoth : goal.returns-in-ForBoth
returns-in-ForBoth g c =
    subst
    (λ (o : Opened g.row.C.Denot). Leaves g.C.Charge.kind g.C.Charge.means (λ v. g.C.Figured.shows (g.C.Charge.made v)) (modules_in o) (walk_in o) c.leave-in-ForBoth.result)
    (sym c.in-ForBoth.is) c.leave-in-ForBoth.ensures
