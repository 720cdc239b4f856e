use Rattle.std.proofs.Common.{◌<◌, inl, sym, refl, ◌∙◌, arith}
use Rattle.words.proofs.Spaces.{words_fit}
use Rattle.words.proofs.Filling.{too_many, one_more, all_read}
use Rattle.words.proofs.rows.read_path.Goals as goal

pub loop-i-init-derived : goal.loop-i-init-derived
loop-i-init-derived c =
    rw (c.into_iter-i-iterator.ensures.into_iter_gives, c.enumerate-i-items.ensures.source, c.enumerate-i-items.ensures.count) ((tt, tt, inl (omega (arith, words_fit c.args.text.now))), tt)

pub returns-then-i-eq20 : goal.returns-then-i-eq20
returns-then-i-eq20 c =
    let steps = c.in-Some.ensures.steps in
    λ p h. too_many c.loop-i.invariant.0 steps.0 (sym steps.1 ∙ c.if-i-eq20.true) p.0 h.0

pub loop-i-preserved : goal.loop-i-preserved
loop-i-preserved c =
    let steps = c.in-Some.ensures.steps in
    let room : c.loop-i.i-iterator.count < 20 = omega (arith, c.loop-i.invariant.0.few, steps.1) in
    rw (steps.1, steps.2) (one_more c.loop-i.invariant.0 steps.0 _ room c.in_ok-row.ensures, refl)

pub returns : goal.returns
returns c =
    let all = all_read c.loop-i.invariant.0 c.in-None.ensures.steps.0.0 in
    (all.0, all.1 ∙ sym c.loop-i.invariant.1)
