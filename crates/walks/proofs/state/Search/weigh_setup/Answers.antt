use Rattle.std.proofs.Common.{◌≡◌, ℕ, ◌+◌, ◌≤◌, List, length, ap, ◌∙◌, arith, rules}
use Rattle.theory.specs.Machine.{Walk, step}
use Rattle.charges.specs.Kinds.{Kind}
use Rattle.tables.specs.Setups.{charge_of}
use Rattle.walks.specs.declared.state.Search.{Search}
use Rattle.walks.specs.States.{problem, state_of, SameWalk, OnlyMoved}
use Rattle.walks.specs.Trails.{GoesOn}
use Rattle.walks.proofs.Weighed.{Takes, same_through, weighs_on}
use Rattle.walks.proofs.state.Search.weigh_setup.Goals as goal

-- what a weighing step owes, of what it takes into account and how it goes on
weighed_and_on : {C : Type 0} (K : Kind) (means : C → K.V) (sheet : List ℕ) (s mid out : Search C) → OnlyMoved mid out
    → GoesOn mid.trail out.trail
    → 1 ≤ s.trail.len → s.trail.len ≡ s.modules.count → s.trail.len ≤ length s.trail.path
    → Takes K means sheet s mid out
    → (SameWalk s out) × (out.steps ≡ s.steps + 1) × ((W : Walk K.V) → state_of K means out ≡ step (problem K s.modules sheet (means s.ceiling)) W (state_of K means s))
weighed_and_on K means sheet s mid out moved on one full long takes = (
  same_through K means sheet s mid out takes.same moved.same,
  moved.steps ∙ ap (λ x. x + 1) takes.steps,
  λ W. weighs_on K means sheet s mid out W takes moved on one full long,
)

pub returns : goal.returns
returns g c =
    let K = g.C.Charge.kind in
    let means = g.C.Charge.means in
    let s = c.args.self.now in
    let out = c.go_on.new.self in
    let sheet = c.args.sheet.now in
    let long : length s.trail.path ≡ 20 = search rules in
    let cost : means c.weigh-charge.result ≡ charge_of K sheet s.trail.path s.modules.count =
    c.weigh-charge.ensures ∙ ap (charge_of K sheet s.trail.path) c.requires.1.1 in
    let r = weighed_and_on K means sheet s _ out c.go_on.ensures.moved c.go_on.ensures.goes_on c.requires.1.0 c.requires.1.1 (omega (arith, s.among.within, s.modules.few, long))
    (grind (arith, cost)) in
    record { same = r.0; steps = r.1; weighed = r.2 }
