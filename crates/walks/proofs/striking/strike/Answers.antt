use Rattle.std.proofs.Common.{◌≡◌, ◌+◌, ◌*◌, ◌<◌, length, sym, ◌∙◌, subst, arith, rules}
use Rattle.std.proofs.lemmas.Nat.{one_shl}
use Rattle.std.proofs.lemmas.Bool.{both_ways}
use Rattle.walks.specs.Opening.{under, answer_at}
use Rattle.walks.proofs.Struck.{Struck, struck_on, struck_off, passes_dead, passes_under, not_over, is_over}
use Rattle.walks.proofs.striking.strike.Goals as goal
use Rattle.walks.proofs.striking.strike.Goals.{then-has+then-is_over+else-still-j-eq0, else-has, else-has-via-then-has+else-is_over, else-has-via-else-has}
use Rattle.walks.proofs.striking.strike.Goals.{else-modules-test, then-modules-test+then-loop-k-test+then-has+then-is_over+then-still-j-eq0}

pub loop-k-preserved : goal.loop-k-preserved
loop-k-preserved g c =
    let K = g.C.Charge.kind in
    let limit = g.C.Charge.means c.args.limit in
    let answer = answer_at K g.C.Charge.means g.C.Charge.made c.args.answers.now in
    let still = c.loop-k.still in
    let j = c.modules.j in
    let k = c.loop-k.k in
    let from = c.modules.auto.j in
    let upto = c.modules-test.true in
    let few = c.loop-k-test.true in
    let h = c.loop-k.invariant.1 in
    let wide : length c.args.row ≡ 20 = search rules in
    let long : j < length still = omega (arith, h.long, c.requires.space.1) in (
      c.loop-k.invariant.0,
      elim c.if-has.branch [
        | then-has+then-is_over+else-still-j-eq0 w ↦
            struck_on K limit answer c.args.row c.args.from c.args.count still j k from upto few h long (sym w.if-has.ensures) (is_over (under K limit (answer j k)) w.if-is_over.ensures)
            _ _ (one_shl k 8 few) w.still-is w.if-still-j-eq0.false
        | else-has w ↦ subst (Struck K limit answer c.args.row c.args.from c.args.count (8 * j + (k + 1))) (sym w.still-is) (elim w.else-has.branch [
          | else-has-via-then-has+else-is_over w' ↦ passes_under K limit answer c.args.row c.args.from c.args.count still j k from upto few h (not_over (under K limit (answer j k)) w'.if-is_over.ensures)
          | else-has-via-else-has w' ↦ passes_dead K limit answer c.args.row c.args.from c.args.count still j k from upto few h (sym w'.if-has.ensures)
        ])
      ],
    )

pub returns-then-dead : goal.returns-then-dead
returns-then-dead g c = elim c.modules-test.branch [
  | else-modules-test w ↦ absurd (both_ways c.modules-test.dead (w.dead-is ∙ c.modules.invariant.0) c.if-dead.true)
  | then-modules-test+then-loop-k-test+then-has+then-is_over+then-still-j-eq0 w ↦
      let K = g.C.Charge.kind in
      let limit = g.C.Charge.means c.args.limit in
      let answer = answer_at K g.C.Charge.means g.C.Charge.made c.args.answers.now in
      let wide : length c.args.row ≡ 20 = search rules in
      let long : c.modules.j < length w.loop-k.still = omega (arith, w.loop-k.invariant.1.long, c.requires.space.1, w.modules-test.true) in
      struck_off K limit answer c.args.row c.args.from c.args.count w.loop-k.still c.modules.j w.loop-k.k c.modules.auto.j w.modules-test.true w.loop-k-test.true w.loop-k.invariant.1
      long (sym w.if-has.ensures) (is_over (under K limit (answer c.modules.j w.loop-k.k)) w.if-is_over.ensures) _ (one_shl w.loop-k.k 8 w.loop-k-test.true) w.if-still-j-eq0.true
]
