-- What holds of every search.
use Rattle.std.proofs.Common.{◌≡◌, ℕ, zero, suc, ◌+◌, ◌-◌, ◌<◌, ◌≤◌, List, [], get_or, subst, arith}
use Rattle.walks.specs.declared.state.Search.{Search}
use Rattle.walks.specs.Trails.{Live, AmongLive, base, place}
use Rattle.walks.proofs.Trails.{trail}
use Rattle.walks.proofs.Among.{place_few, tree_small, live_below}

pub steps_fit : {C : Type 0} (s : Search C) → s.steps + 1 < 18446744073709551616
steps_fit s =
    let t = s.trail in
    let few = place_few t.path t.len (omega (arith, s.among.within, s.modules.few)) s.among.few in
    omega (arith, s.counted, tree_small, few)

-- a trail that stands later leaves room for a step
pub step_later : (path path' : List ℕ) (d d' steps : ℕ) → 1 ≤ d → steps < place path d → base path d < place path' d' → steps + 1 < place path' d'
step_later path path' zero d' steps l h m = absurd (omega arith)
step_later path path' (suc d) d' steps l h m = omega arith

-- what is live below the next beginning
pub live_here : {C : Type 0} (s : Search C) → 1 ≤ s.trail.len → Live s.modules (get_or s.trail.live (s.trail.len - 1) []) s.trail.len
live_here s one = go s.trail.len one s.among
  where
    go : (d : ℕ) → 1 ≤ d → AmongLive s.modules (trail s.trail.path s.trail.live d) → Live s.modules (get_or s.trail.live (d - 1) []) d
    go zero l h = absurd (omega arith)
    go (suc i) l h =
        let e : i ≡ suc i - 1 = omega arith in
        subst (λ x. Live s.modules (get_or s.trail.live x []) (suc i)) e (live_below s.modules s.trail.path s.trail.live i h)
