use Rattle.std.proofs.Common.{◌≡◌, ℕ, ◌+◌, ◌<◌, ◌≤◌, length, get_or, ap, ◌∙◌, subst, arith, rules}
use Rattle.std.proofs.lemmas.List.{get_or_read}
use Rattle.tables.specs.Joins.{joined_from}
use Rattle.tables.specs.Modules.{allows}
use Rattle.bounds.specs.Answers.{Rows}
use Rattle.count_table.specs.Table.{chosen}
use Rattle.counts.specs.Least.{least}
use Rattle.counts.proofs.Joining.{from_step}
use Rattle.bounds.proofs.Changing.{rows_left, rows_changed}
use Rattle.count_table.proofs.Tabling.{leasts_kept, others_are, row_answered}
use Rattle.count_table.proofs.write_answers.Goals as goal

pub loop-j-preserved : goal.loop-j-preserved
loop-j-preserved g c =
    let K = g.C.Charge.kind in
    let L = g.met.C.Charge.lawful in
    let means = g.C.Charge.means in
    let m = c.args.modules.now in
    let d = c.args.d in
    let j = c.loop-j.j in
    let start = means c.args.start in
    let xs = c.loop-j.scratch in
    let ys = c.change_row.new.scratch in
    let from_d : d ≤ j = omega arith in
    let to_n : j < m.count = omega arith in
    let same = c.change_row.ensures.others in
    let within : 160 + j < length ys = omega (arith, m.few) in
    λ f tabled.
    let inv = c.loop-j.invariant f tabled in
    let mins : ℕ → K.V = λ i. least K (allows m i) (f i) in
    let others = means c.join_leasts-others.result in
    let told =
    c.join_leasts-others.ensures c.args.start
    ∙ ap (λ n. K.join (means c.loop-j.before) (joined_from K (λ i. means (get_or xs (160 + i) c.args.start)) (j + 1) n)) c.count.ensures in
    let kept = leasts_kept K L means m f start d j from_d to_n xs ys same inv.3 in
    let others_is = others_are K L means m f start d j from_d to_n xs ys same (means c.loop-j.before) others c.args.start inv.0 told inv.3 in
    let read = get_or_read ys (160 + j) c.index-scratch-j.result within c.index-scratch-j.is c.args.start in (
      from_step K L start mins d j from_d inv.0 c.joined-before.ensures (ap means read ∙ kept j from_d to_n c.args.start),
      rows_changed means (allows m) j xs ys same (chosen K m f start d) d (row_answered K L means m f start d j from_d to_n xs ys same others others_is (λ k small allowed z. let told = c.change_row.ensures.changed k small allowed z in search rules) inv.2) inv.1,
      rows_left means (allows m) j xs ys same f m.count inv.2,
      kept,
    )

pub returns : goal.returns
returns g c = λ f tabled.
    let K = g.C.Charge.kind in
    let means = g.C.Charge.means in
    let m = c.args.modules.now in
    let d = c.args.d in
    let start = means c.args.start in
    let all : c.loop-j.j ≡ m.count = omega arith in
    let inv = c.loop-j.invariant f tabled in
    record {
      value = inv.0 ∙ ap (λ n. K.join start (joined_from K (λ i. least K (allows m i) (f i)) d n)) all;
      answers = subst (λ n. Rows means (allows m) (chosen K m f start d) d n c.loop-j.scratch) all inv.1;
    }
