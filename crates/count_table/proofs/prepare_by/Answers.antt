use Rattle.std.proofs.Common.{◌≡◌, ℕ, length, take, sym, ap, ◌∙◌, rules}
use Rattle.tables.specs.Joins.{joined_from}
use Rattle.tables.specs.Modules.{allows}
use Rattle.count_table.specs.Table.{chosen}
use Rattle.counts.specs.Floors.{past_charge}
use Rattle.counts.specs.Least.{least}
use Rattle.count_table.proofs.Choosing.{floor_with_is}
use Rattle.counts.proofs.Taking.{taken}
use Rattle.count_table.proofs.prepare_by.Goals as goal

pub returns : goal.returns
returns g c =
    let K = g.C.Charge.kind in
    let L = g.met.C.Charge.lawful in
    let b = c.args.begun.now in
    let m = b.modules.now in
    let sheet = b.sheet.now in
    let path = b.path.now in
    let d = b.len in
    let p = take d path in
    let past = past_charge K sheet p in
    let long : length p ≡ d = taken K L sheet path d b.held.long in
    λ f counts.
    let told = c.write_answers.ensures f (c.write_table.ensures f (λ j k from below small r gave. counts j k from below small r (search rules))) in
    let mins : ℕ → K.V = λ i. least K (allows m i) (f i) in
    record {
      value =
          told.value
          ∙ ap (λ x. K.join x (joined_from K mins d m.count)) c.past.ensures
          ∙ ap (λ e. K.join past (joined_from K mins e m.count)) (sym long);
      answers = λ j from below k small allowed z.
          told.answers j from below k small allowed z
          ∙ ap (λ x. chosen K m f x d j k) c.past.ensures
          ∙ floor_with_is K L m sheet p f j k d long from below small;
    }
