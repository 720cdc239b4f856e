use Rattle.std.proofs.Common.{get_or, ap, ◌∙◌, arith}
use Rattle.bounds.specs.Allowing.{allows_few}
use Rattle.bounds.proofs.Answerable.{later_parts, setting_within}
use Rattle.bounds.proofs.setting.prepared_answer.Goals as goal

pub answer_place-requires : goal.answer_place-requires
answer_place-requires g c =
    let m = c.args.modules.now in
    let parts = later_parts m c.args.len c.args.j c.args.k c.requires.later in
    (omega (arith, parts.1, m.few), omega (arith, allows_few m c.args.j c.args.k parts.2))

pub offset_bounds-scratch-answer_place : goal.offset_bounds-scratch-answer_place
offset_bounds-scratch-answer_place g c =
    omega (arith, setting_within c.args.modules.now c.args.len c.args.j c.args.k c.requires.later)

pub bounds-scratch-answer_place : goal.bounds-scratch-answer_place
bounds-scratch-answer_place g c =
    omega (arith, setting_within c.args.modules.now c.args.len c.args.j c.args.k c.requires.later)

pub returns : goal.returns
returns g c value rows =
    let m = c.args.modules.now in
    let old = c.index-scratch-answer_place.result in
    let parts = later_parts m c.args.len c.args.j c.args.k c.requires.later in
    ap g.C.Charge.means (c.index-scratch-answer_place.is ∙ ap (λ q. get_or c.args.scratch.now q old) c.answer_place.ensures)
    ∙ rows c.args.j parts.0 parts.1 c.args.k (allows_few m c.args.j c.args.k parts.2) parts.2 old
