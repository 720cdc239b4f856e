use Rattle.std.proofs.Common.{◌≡◌, ℕ, length, Some, Option, sym, refl, ap, ◌∙◌, subst, rules}
use Rattle.charges.specs.Capped.{Capped, capped}
use Rattle.charges.specs.Count.{counts}
use Rattle.charges.specs.Ranked.{Rank, rank, ranks}
use Rattle.charges.specs.Sum.{sums}
use Rattle.charges.specs.Worst.{worsts}
use Rattle.charges.specs.declared.count.Count.{Count}
use Rattle.charges.specs.declared.sum.Sum.{Sum}
use Rattle.charges.specs.declared.worst.Worst.{Worst}
use Rattle.charges.specs.declared.ranked.Ranked.{Ranked}
use Rattle.told.specs.declared.figure.Figure.{Figure}
use Rattle.reports.specs.declared.opened.AnyJob.{AnyJob}
use Rattle.reports.specs.declared.opened.AnyJob.TheVariants.{ByCount, BySum, ByWorst, ByRank}
use Rattle.reports.specs.Figures.{number_figure, rank_figure, count_said, sum_said, worst_said, rank_said}
use Rattle.reports.specs.Sessions.{Carries, OnJob}
use Rattle.reports.proofs.Alike.{numbers_alike, ranks_alike}
use Rattle.reports.proofs.session.on_job.Goals as goal

pub returns-in-ByCount : goal.returns-in-ByCount
returns-in-ByCount c =
    let sheet = c.args.sheet.now in
    let call = c.args.call in
    let told = c.carry_out-answer in
    let job = c.in-ByCount.open in
    let after = told.new.self in
    let was : c.args.job.now ≡ Some (ByCount job) = sym c.in-Some.ensures.value ∙ ap Some c.in-ByCount.is in
    let room : length c.args.rooms.now.counts ≡ 192 = search rules in
    subst (λ (o : Option AnyJob). OnJob o sheet call told.result (Some (ByCount after)) told.new.sheet) (sym was)
    (after, refl, subst (λ (f : Capped 65535 → Figure). Carries counts (λ s. capped 65535 s.number) (λ v. record { number = v.number }) f count_said 192 job sheet call told.result after told.new.sheet) (numbers_alike 65535) (subst (λ (n : ℕ). Carries counts (λ (s : Count). capped 65535 s.number) (λ v. record { number = v.number }) (λ x. number_figure (capped 65535 x.number)) count_said n job sheet call told.result after told.new.sheet) room told.ensures))

pub returns-in-BySum : goal.returns-in-BySum
returns-in-BySum c =
    let sheet = c.args.sheet.now in
    let call = c.args.call in
    let told = c.carry_out-answer-in-BySum in
    let job = c.in-BySum.open in
    let after = told.new.self in
    let was : c.args.job.now ≡ Some (BySum job) = sym c.in-Some.ensures.value ∙ ap Some c.in-BySum.is in
    let room : length c.args.rooms.now.sums ≡ 192 = search rules in
    subst (λ (o : Option AnyJob). OnJob o sheet call told.result (Some (BySum after)) told.new.sheet) (sym was)
    (after, refl, subst (λ (f : Capped 4294967295 → Figure). Carries sums (λ s. capped 4294967295 s.number) (λ v. record { number = v.number }) f sum_said 192 job sheet call told.result after told.new.sheet) (numbers_alike 4294967295) (subst (λ (n : ℕ). Carries sums (λ (s : Sum). capped 4294967295 s.number) (λ v. record { number = v.number }) (λ x. number_figure (capped 4294967295 x.number)) sum_said n job sheet call told.result after told.new.sheet) room told.ensures))

pub returns-in-ByWorst : goal.returns-in-ByWorst
returns-in-ByWorst c =
    let sheet = c.args.sheet.now in
    let call = c.args.call in
    let told = c.carry_out-answer-in-ByWorst in
    let job = c.in-ByWorst.open in
    let after = told.new.self in
    let was : c.args.job.now ≡ Some (ByWorst job) = sym c.in-Some.ensures.value ∙ ap Some c.in-ByWorst.is in
    let room : length c.args.rooms.now.worsts ≡ 192 = search rules in
    subst (λ (o : Option AnyJob). OnJob o sheet call told.result (Some (ByWorst after)) told.new.sheet) (sym was)
    (after, refl, subst (λ (f : Capped 65535 → Figure). Carries worsts (λ s. capped 65535 s.number) (λ v. record { number = v.number }) f worst_said 192 job sheet call told.result after told.new.sheet) (numbers_alike 65535) (subst (λ (n : ℕ). Carries worsts (λ (s : Worst). capped 65535 s.number) (λ v. record { number = v.number }) (λ x. number_figure (capped 65535 x.number)) worst_said n job sheet call told.result after told.new.sheet) room told.ensures))

pub returns-in-ByRank : goal.returns-in-ByRank
returns-in-ByRank c =
    let sheet = c.args.sheet.now in
    let call = c.args.call in
    let told = c.carry_out-answer-in-ByRank in
    let job = c.in-ByRank.open in
    let after = told.new.self in
    let was : c.args.job.now ≡ Some (ByRank job) = sym c.in-Some.ensures.value ∙ ap Some c.in-ByRank.is in
    let room : length c.args.rooms.now.ranks ≡ 192 = search rules in
    subst (λ (o : Option AnyJob). OnJob o sheet call told.result (Some (ByRank after)) told.new.sheet) (sym was)
    (after, refl, subst (λ (f : Rank → Figure). Carries ranks (λ s. rank s.forbidden s.soft) (λ v. record { forbidden = v.forbidden; soft = v.soft }) f rank_said 192 job sheet call told.result after told.new.sheet) ranks_alike (subst (λ (n : ℕ). Carries ranks (λ (s : Ranked). rank s.forbidden s.soft) (λ v. record { forbidden = v.forbidden; soft = v.soft }) (λ x. rank_figure (rank x.forbidden x.soft)) rank_said n job sheet call told.result after told.new.sheet) room told.ensures))
