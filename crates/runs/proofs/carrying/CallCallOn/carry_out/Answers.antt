use Rattle.std.proofs.Common.{◌≡◌, ◌-◌, List, ℕ, length, None, sym, refl, subst}
use borrow.Rule.Slice.PartMut.{put_mid}
use Rattle.jobs.specs.Checks.{close_checks}
use Rattle.jobs.specs.Refusals.{first}
use Rattle.jobs.specs.Searching.{is_open, ClosesOpen}
use Rattle.runs.specs.declared.answer.Answer.TheVariants as answer
use Rattle.runs.specs.declared.call.Call.{Call}
use Rattle.runs.specs.Does.{Does}
use Rattle.runs.specs.Stands.{stand_of}
use Rattle.runs.proofs.Memory.{bytes_are, put_is}
use Rattle.runs.proofs.Telling.{closes_told}
use Rattle.runs.proofs.carrying.CallCallOn.carry_out.Goals as goal

pub returns-in_ok-closed-in-Close-clause-does : goal.returns-in_ok-closed-in-Close-clause-does
returns-in_ok-closed-in-Close-clause-does g c =
    let K = g.C.Charge.kind in
    let means = g.C.Charge.means in
    let d = c.args.desk.now in
    let out = c.close.new.self in
    let memory = c.args.memory.now in
    let row = c.in-Close.row in
    let told = c.in_ok-closed-in-Close.closed in
    let e = c.in_ok-closed-in-Close.ensures in
    let from = c.place-from-in-Close.result.0 in
    let end = c.place-from-in-Close.result.1 in
    let from_is = c.place-from-in-Close.ensures.from in
    let end_is = c.place-from-in-Close.ensures.end in
    let before = stand_of d c.args.sheet.now memory in
    let after = stand_of out c.args.sheet.now (put_mid from (end - from) memory c.close.new.row) in
    let bytes = bytes_are memory row from end from_is end_is in
    subst (λ (x : Call g.row.C.Denot). Does K means (g.W.Walk.floor d.job.walks) (g.W.Walk.answer d.job.walks) d.job.number (length c.args.scratch.now) before x (answer.Closed told) after)
    (sym c.in-Close.is)
    (closes_told K means (g.W.Walk.floor d.job.walks) (g.W.Walk.answer d.job.walks) d.job.number (length c.args.scratch.now) before after c.in-Close.ticket row told
    (subst (λ (b : List ℕ). first (close_checks (is_open d.job.current) d.job.number b c.in-Close.ticket) ≡ None) bytes e.decides.0)
    (c.close.new.row, subst (λ (b : List ℕ). ClosesOpen K means d.job.current b told c.close.new.row out.job.current) bytes e.decides.1, put_is memory row from end from_is end_is c.close.new.row)
    e.same_modules refl)
