use Rattle.std.proofs.Common.{length, sym, subst}
use Rattle.reports.specs.declared.opened.Opened.{Opened}
use Rattle.reports.specs.declared.opened.Opened.TheVariants.{ForPlain, ForBoth}
use Rattle.reports.specs.Performs.{for_plain, for_both}
use Rattle.reports.specs.Sessions.{Carries}
use Rattle.reports.proofs.opened.Opened.carry_out.Goals as goal

pub returns-in-ForPlain : goal.returns-in-ForPlain
returns-in-ForPlain g c =
    let told = c.perform_call in
    subst
    (λ (o : Opened g.row.C.Denot). Carries g.C.Charge.kind g.C.Charge.means g.C.Charge.made (λ v. g.C.Figured.shows (g.C.Charge.made v)) g.C.Figured.says (length c.args.scratch.now) o c.args.sheet.now c.args.call told.result (ForPlain told.new.desk) told.new.sheet)
    (sym c.in-ForPlain.is)
    (record {
      same_terms = λ i. record { number = told.ensures.same_number i; opening = for_plain (told.ensures.same_walks i).bound.bound };
      performs = told.ensures.performs;
    })

pub returns-in-ForBoth : goal.returns-in-ForBoth
returns-in-ForBoth g c =
    let told = c.perform_call-in-ForBoth in
    subst
    (λ (o : Opened g.row.C.Denot). Carries g.C.Charge.kind g.C.Charge.means g.C.Charge.made (λ v. g.C.Figured.shows (g.C.Charge.made v)) g.C.Figured.says (length c.args.scratch.now) o c.args.sheet.now c.args.call told.result (ForBoth told.new.desk) told.new.sheet)
    (sym c.in-ForBoth.is)
    (record {
      same_terms = λ i. record { number = told.ensures.same_number i; opening = for_both (told.ensures.same_walks i).bound };
      performs = told.ensures.performs;
    })
