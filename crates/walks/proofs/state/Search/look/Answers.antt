use Rattle.std.proofs.Common.{◌≡◌, ℕ, List, length, take, sym, refl, ◌∙◌, arith, rules}
use Rattle.walks.specs.Trails.{levels}
use Rattle.walks.proofs.Among.{can_ask}
use Rattle.walks.proofs.Looked.{goes_down, goes_past, looks}
use Rattle.walks.proofs.Searches.{live_here}
use Rattle.walks.proofs.state.Search.look.Goals as goal

pub opened-requires : goal.opened-requires
opened-requires g c =
    let s = c.args.self.now in
    record {
      begun = can_ask s.modules s.trail.path s.trail.live s.trail.len s.among c.args.sheet.now (length c.args.scratch.now) c.requires.memory.0 c.requires.memory.1 c.requires.within.0;
      live = live_here s c.requires.within.0;
    }

pub returns-in-Some : goal.returns-in-Some
returns-in-Some g c =
    let s = c.args.self.now in
    let K = g.C.Charge.kind in
    let floor : List ℕ → K.V = λ p. g.C.Charge.means (g.W.Walk.floor c.args.walks.now s.modules c.args.sheet.now p) in
    let answer : List ℕ → ℕ → ℕ → K.V = λ p j k. g.C.Charge.means (g.W.Walk.answer c.args.walks.now s.modules c.args.sheet.now p j k) in
    let p = take s.trail.len s.trail.path in
    let out = c.go_down.new.self in
    let long : length s.trail.path ≡ 20 = search rules in
    record {
      same = c.go_down.ensures.moved.same;
      steps = c.go_down.ensures.moved.steps;
      looked = looks K g.C.Charge.means s out c.args.sheet.now floor answer c.go_down.ensures.moved c.requires.within.0 c.requires.within.1 (omega (arith, s.among.within, s.modules.few, long))
          (c.go_down.ensures.goes_down.first_one s.modules.count c.requires.within.1
          ∙ sym (goes_down K _ (floor p) (answer p) _ s.trail.len s.modules.count c.requires.within.1 s.modules refl (live_here s c.requires.within.0) s.ahead c.in-Some.left (rw c.limit.ensures at c.in-Some.ensures)
          (levels s.trail.path s.trail.live s.modules.count s.trail.len)));
    }

pub returns-in-None : goal.returns-in-None
returns-in-None g c =
    let s = c.args.self.now in
    let K = g.C.Charge.kind in
    let floor : List ℕ → K.V = λ p. g.C.Charge.means (g.W.Walk.floor c.args.walks.now s.modules c.args.sheet.now p) in
    let answer : List ℕ → ℕ → ℕ → K.V = λ p j k. g.C.Charge.means (g.W.Walk.answer c.args.walks.now s.modules c.args.sheet.now p j k) in
    let p = take s.trail.len s.trail.path in
    let out = c.go_on.new.self in
    let long : length s.trail.path ≡ 20 = search rules in
    record {
      same = c.go_on.ensures.moved.same;
      steps = c.go_on.ensures.moved.steps;
      looked = looks K g.C.Charge.means s out c.args.sheet.now floor answer c.go_on.ensures.moved c.requires.within.0 c.requires.within.1 (omega (arith, s.among.within, s.modules.few, long))
          (c.go_on.ensures.goes_on.next_one s.modules.count
          ∙ sym (goes_past K _ (floor p) (answer p) _ s.trail.len s.modules.count c.requires.within.1 s.ahead (rw c.limit.ensures at c.in-None.ensures) (levels s.trail.path s.trail.live s.modules.count s.trail.len)));
    }
