-- Trails among live settings.
use Rattle.std.proofs.Common.{◌≡◌, ℕ, zero, suc, ◌+◌, ◌-◌, ◌*◌, ◌<◌, ◌≤◌, true, ◌&&◌, ltb, leb, List, [], length, get_or, sym, refl, subst, arith}
use Rattle.std.proofs.lemmas.Bool.{and_from, le-leb, lt-ltb}
use Rattle.tables.specs.declared.modules.Modules.{Modules}
use Rattle.tables.specs.Modules.{allows}
use Rattle.tables.specs.Sheet.{Whole}
use Rattle.bounds.specs.Beginnings.{allows_all, begins, answerable}
use Rattle.walks.specs.Trails.{Live, AmongLive, tree, base, place}
use Rattle.walks.proofs.Trails.{trail, tree_more, times_more}

module _ (m : Modules) (path : List ℕ) (live : List (List ℕ)) (d : ℕ) (h : AmongLive m (trail path live d)) where
  -- each setting is allowed
  pub allowed_at : (i : ℕ) → i < d → allows m i (get_or path i 0) ≡ true
  allowed_at i l = (h.lives i l).allowed i (get_or path i 0) (omega arith) (let w = h.within in omega arith) (h.few i l) (h.taken i l)

  all_allowed : (e : ℕ) → e ≤ d → allows_all m path e ≡ true
  all_allowed zero l = refl
  all_allowed (suc e) l = and_from (allows_all m path e) (allows m e (get_or path e 0)) (all_allowed e (omega arith)) (allowed_at e (omega arith))

  -- a bound can answer at it
  pub can_ask : (sheet : List ℕ) (room : ℕ) → Whole sheet → 192 ≤ room → 1 ≤ d → answerable m sheet path d room ≡ true
  can_ask sheet room whole roomy some =
      and_from (leb 12160 (length sheet) && leb 192 room) (begins m path d)
      (and_from (leb 12160 (length sheet)) (leb 192 room) (le-leb 12160 (length sheet) whole) (le-leb 192 room roomy))
      (and_from (ltb 0 d && leb d m.count) (allows_all m path d) (and_from (ltb 0 d) (leb d m.count) (lt-ltb 0 d some) (le-leb d m.count h.within)) (all_allowed d (omega arith)))

-- what is live below a beginning
pub live_below : (m : Modules) (path : List ℕ) (live : List (List ℕ)) (i : ℕ) → AmongLive m (trail path live (suc i)) → Live m (get_or live i []) (suc i)
live_below m path live i h =
    let l = h.lives i (omega arith) in
    record { some = λ j a b. l.some j (omega arith) b; byte = λ j a b. l.byte j (omega arith) b; allowed = λ j k a b c e. l.allowed j k (omega arith) b c e }

-- the places are few

below_all : (path : List ℕ) (d : ℕ) → d ≤ 20 → ((i : ℕ) → i < d → get_or path i 0 < 8) → base path d + tree (20 - d) ≤ tree 20
below_all path zero l few = omega arith
below_all path (suc i) l few =
    let more = times_more (get_or path i 0) 8 (tree (19 - i)) (few i (omega arith)) in
    let s : suc (19 - i) ≡ 20 - i = omega arith in
    let one = subst (λ x. tree x ≡ 1 + 8 * tree (19 - i)) s (tree_more (19 - i)) in
    let t : 20 - suc i ≡ 19 - i = omega arith in
    let r = below_all path i (omega arith) (λ j b. few j (omega arith)) in
    subst (λ x. base path i + 1 + get_or path i 0 * tree (19 - i) + tree x ≤ tree 20) (sym t) (omega arith)

pub place_few : (path : List ℕ) (d : ℕ) → d ≤ 20 → ((i : ℕ) → i < d → get_or path i 0 < 8) → place path d ≤ tree 20
place_few path zero l few = omega arith
place_few path (suc i) l few = let h = below_all path (suc i) l few in omega arith

pub tree_small : tree 20 < 18446744073709551615
unfolding tree
tree_small = omega arith
