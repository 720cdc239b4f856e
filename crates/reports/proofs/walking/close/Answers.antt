use Rattle.std.proofs.Common.{◌≡◌, ℕ, None, refl, ap, ◌∙◌, subst}
use Rattle.walks.specs.Outcomes.{fixed}
use Rattle.jobs.specs.Checks.{close_checks}
use Rattle.jobs.specs.Refusals.{first}
use Rattle.jobs.specs.Searching.{is_open}
use Rattle.answers.specs.declared.answer.Answer.TheVariants as answer
use Rattle.reports.specs.Walking.{brought, blank_row, setup_told}
use Rattle.reports.proofs.Tellings.{accepted}
use Rattle.reports.proofs.Endings.{ends}
use Rattle.reports.proofs.walking.close.Goals as goal

pub returns-in-Ok : goal.returns-in-Ok
returns-in-Ok g c =
    let job = c.args.desk.now.job in
    let told = c.in-Ok.ensures in
    let row = c.close.new.row in
    let closed = c.in-Ok.closed in
    let x = c.closing.result in
    let checks = λ (t : ℕ). close_checks (is_open job.current) job.number blank_row t in
    let bring : c.bring-number.result ≡ brought job.number c.args.ticket = c.bring-number.ensures ∙ ap (λ n. brought n c.args.ticket) c.number.ensures in
    let setup : x.setup ≡ setup_told (fixed closed.outcome).with_setup row job.modules.count = c.closing.ensures.setup ∙ ap (setup_told (fixed closed.outcome).with_setup row) c.count-modules.ensures in
    record {
      closes = accepted (checks (brought job.number c.args.ticket)) (answer.Closed x) _ _
          (subst (λ (t : ℕ). first (checks t) ≡ None) bring told.decides.0) (
            (
              x,
              refl,
              ends g.C.Charge.kind g.C.Charge.means g.C.Charge.made g.C.Figured.shows g.met.C.Charge.stands g.met.C.Figured.alike
                  job.modules job.current closed row x c.closing.ensures.outcome c.closing.ensures.charge c.closing.ensures.steps setup told.decides.1.0,
            ),
            told.decides.1.1,
          );
      same_modules = told.same_modules;
      same_number = told.same_number;
      same_walks = told.same_walks;
    }
