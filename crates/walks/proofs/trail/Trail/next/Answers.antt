use Rattle.std.proofs.Common.{◌≡◌, ℕ, suc, ◌+◌, ◌-◌, ◌<◌, ◌≤◌, true, [], ◌∷◌, length, get_or, set, sym, refl, subst, arith, rules}
use Rattle.walks.specs.declared.trail.Trail.{Trail}
use Rattle.walks.specs.Settings.{has, settings_from}
use Rattle.walks.specs.Trails.{mask_at, GoesOn}
use Rattle.walks.proofs.Trails.{trail, Passes, passes_none, passes_up, goes_here, settings_after}
use Rattle.walks.proofs.trail.Trail.next.Goals as goal

-- Of the trail t, which is still as it was: u is t.
module _ (t u : Trail) (e : u ≡ t) (few : (j : ℕ) → j < t.len → get_or t.path j 0 < 8) (within : t.len ≤ 20) (i : ℕ) (some : 0 < i) (upto : i ≤ t.len) where
  small : get_or u.path (i - 1) 0 < 8
  small = subst (λ (x : Trail). get_or x.path (i - 1) 0 < 8) (sym e) (few (i - 1) (omega arith))

  here : (k : ℕ) → length t.path ≡ 20 → Passes t.path t.live t.len i
      → (get_or u.path (i - 1) 0 + 1 ≤ k) × (k < 8) × (has (mask_at u.path u.live (i - 1) (i - 1)) k ≡ true)
      × (settings_from (has (mask_at u.path u.live (i - 1) (i - 1))) (get_or u.path (i - 1) 0 + 1) (8 - (get_or u.path (i - 1) 0 + 1)) ≡ k ∷ settings_from (has (mask_at u.path u.live (i - 1) (i - 1))) (suc k) (7 - k))
      → GoesOn t (trail (set u.path (i - 1) k) u.live (i - 1 + 1))
  here k long p h =
      let one : suc (i - 1) ≡ i - 1 + 1 = omega arith in
      let back : i ≡ suc (i - 1) = omega arith in
      let f = subst (λ (x : Trail). (get_or x.path (i - 1) 0 + 1 ≤ k) × (k < 8) × (has (mask_at x.path x.live (i - 1) (i - 1)) k ≡ true)
      × (settings_from (has (mask_at x.path x.live (i - 1) (i - 1))) (get_or x.path (i - 1) 0 + 1) (8 - (get_or x.path (i - 1) 0 + 1)) ≡ k ∷ settings_from (has (mask_at x.path x.live (i - 1) (i - 1))) (suc k) (7 - k))) e h in
      subst (λ (x : Trail). GoesOn t (trail (set x.path (i - 1) k) x.live (i - 1 + 1))) (sym e)
      (subst (λ d. GoesOn t (trail (set t.path (i - 1) k) t.live d)) one
      (goes_here t.path t.live t.len (i - 1) k (omega arith) (omega arith) within f.0 f.1 f.2 f.3 (subst (Passes t.path t.live t.len) back p)))

  again : Passes t.path t.live t.len i
      → settings_from (has (mask_at u.path u.live (i - 1) (i - 1))) (get_or u.path (i - 1) 0 + 1) (8 - (get_or u.path (i - 1) 0 + 1)) ≡ []
      → Passes t.path t.live t.len (i - 1)
  again p h =
      let back : i ≡ suc (i - 1) = omega arith in
      let f = subst (λ (x : Trail). settings_from (has (mask_at x.path x.live (i - 1) (i - 1))) (get_or x.path (i - 1) 0 + 1) (8 - (get_or x.path (i - 1) 0 + 1)) ≡ []) e h in
      passes_up t.path t.live t.len (i - 1) (omega arith) (few (i - 1) (omega arith)) (settings_after _ _ _ f) (subst (Passes t.path t.live t.len) back p)

pub loop-i-init : goal.loop-i-init
loop-i-init c = (refl, passes_none _ _ _)

pub returns-in-Some : goal.returns-in-Some
returns-in-Some c = here c.args.self.now c.loop-i.self c.loop-i.invariant.0 c.requires.few c.requires.within c.loop-i.i c.loop-i-test.true c.loop-i.auto.i c.in-Some.k (search rules) c.loop-i.invariant.1 c.in-Some.ensures

pub loop-i-preserved : goal.loop-i-preserved
loop-i-preserved c = (c.loop-i.invariant.0, again c.args.self.now c.loop-i.self c.loop-i.invariant.0 c.requires.few c.requires.within c.loop-i.i c.loop-i-test.true c.loop-i.auto.i c.loop-i.invariant.1 c.in_default.ensures)
