use Rattle.std.proofs.Common.{◌≡◌, ap, ◌∙◌}
use Rattle.walks.specs.Outcomes.{fixed}
use Rattle.reports.specs.Walking.{setup_told}
use Rattle.reports.proofs.Endings.{ends}
use Rattle.reports.proofs.walking.leave.Goals as goal

pub returns : goal.returns
returns g c =
    let job = c.args.desk.job in
    let row = c.leave.new.row in
    let closed = c.in_ok-closed.closed in
    let x = c.closing.result in
    let setup : x.setup ≡ setup_told (fixed closed.outcome).with_setup row job.modules.count = c.closing.ensures.setup ∙ ap (setup_told (fixed closed.outcome).with_setup row) c.count-modules.ensures in
    ends g.C.Charge.kind g.C.Charge.means g.C.Charge.made g.C.Figured.shows g.met.C.Charge.stands g.met.C.Figured.alike
    job.modules job.current closed row x c.closing.ensures.outcome c.closing.ensures.charge c.closing.ensures.steps setup c.in_ok-closed.ensures
