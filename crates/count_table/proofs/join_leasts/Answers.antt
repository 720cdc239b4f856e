use Rattle.std.proofs.Common.{◌≡◌, ℕ, ◌+◌, ◌<◌, length, get_or, ap, ◌∙◌, arith}
use Rattle.std.proofs.lemmas.List.{get_or_read}
use Rattle.tables.specs.Joins.{joined_from}
use Rattle.counts.proofs.Joining.{from_step}
use Rattle.count_table.proofs.join_leasts.Goals as goal

pub loop-i-preserved : goal.loop-i-preserved
loop-i-preserved g c = λ z.
    let K = g.C.Charge.kind in
    let means = g.C.Charge.means in
    let xs = c.args.scratch.now in
    let i = c.loop-i.i in
    let within : 160 + i < length xs = omega arith in
    let read = get_or_read xs (160 + i) c.index-scratch-i.result within c.index-scratch-i.is z in
    from_step K g.met.C.Charge.lawful (means c.args.start) (λ n. means (get_or xs (160 + n) z)) c.args.from i (omega arith)
    (c.loop-i.invariant z) c.joined-sum.ensures (ap means read)

pub returns : goal.returns
returns g c = λ z.
    let K = g.C.Charge.kind in
    let means = g.C.Charge.means in
    let f : ℕ → K.V = λ n. means (get_or c.args.scratch.now (160 + n) z) in
    let all : c.loop-i.i ≡ c.args.to = omega arith in
    c.loop-i.invariant z ∙ ap (λ n. K.join (means c.args.start) (joined_from K f c.args.from n)) all
