use Rattle.std.proofs.Common.{◌≡◌, true, sym, refl, ◌∙◌, arith}
use Rattle.tables.specs.Modules.{allows}
use Rattle.counts.specs.Least.{least_of}
use Rattle.counts.proofs.Leasts.{least_takes, least_skips}
use Rattle.counts.proofs.least.least.Goals as goal
use Rattle.counts.proofs.least.least.Goals.{then-allows, else-allows}

pub loop-k-init : goal.loop-k-init
unfolding least_of
loop-k-init g c = λ value is. refl

pub loop-k-preserved : goal.loop-k-preserved
loop-k-preserved g c = λ value is.
    let K = g.C.Charge.kind in
    let passes = allows c.args.modules.now c.args.i in
    let before = c.loop-k.invariant value is in
    elim c.if-allows.branch [
      | then-allows w ↦
          let allowed : passes c.loop-k.k ≡ true = sym c.allows.ensures ∙ w.if-allows.true in
          let more = least_takes K passes value c.loop-k.k allowed in
          let here = is c.loop-k.k (omega arith) allowed w.charge.result w.charge.ensures in
          cc
      | else-allows w ↦ let more = least_skips K passes value c.loop-k.k (sym c.allows.ensures ∙ w.if-allows.false) in cc
    ]
