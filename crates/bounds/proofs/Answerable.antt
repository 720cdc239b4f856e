-- What it says that a bound can answer.
use Rattle.std.proofs.Common.{◌≡◌, ℕ, ◌+◌, ◌*◌, ◌<◌, ◌≤◌, Bool, true, false, ◌&&◌, ltb, leb, List, length, get_or, sym, refl, ◌∙◌, subst, zero-add, arith}
use Rattle.std.proofs.lemmas.Bool.{and_parts, leb-true, ltb-true, le-leb, lt-ltb}
use Rattle.std.proofs.lemmas.List.FromFn.{get_or-range_with_len, length-range_with_len}
use Rattle.std.specs.Bool.{MatchBool}
use Rattle.std.specs.List.{AllWithin, HoldsAt, range_with_len}
use Rattle.tables.specs.declared.modules.Modules.{Modules}
use Rattle.tables.specs.Modules.{allows}
use Rattle.tables.specs.Sheet.{Whole}
use Rattle.tables.specs.Setups.{Holds}
use Rattle.bounds.specs.Beginnings.{allows_all, begins, answerable, later_setting}
use Rattle.bounds.specs.Allowing.{allows_all_from, allows_all_fails, allows_each, allows_few}

pub record Begun (m : Modules) (sheet path : List ℕ) (len room : ℕ) : Type 0 where
  pub whole : Whole sheet
  pub roomy : 192 ≤ room
  pub some : 0 < len
  pub within : len ≤ m.count
  pub allowed : allows_all m path len ≡ true

pub begun : (m : Modules) (sheet path : List ℕ) (len room : ℕ) → answerable m sheet path len room ≡ true → Begun m sheet path len room
begun m sheet path len room h =
    let outer = and_parts (leb 12160 (length sheet) && leb 192 room) (begins m path len) h in
    let memory = and_parts (leb 12160 (length sheet)) (leb 192 room) outer.0 in
    let inner = and_parts (ltb 0 len && leb len m.count) (allows_all m path len) outer.1 in
    let sizes = and_parts (ltb 0 len) (leb len m.count) inner.0 in
    record {
      whole = leb-true 12160 (length sheet) memory.0;
      roomy = leb-true 192 room memory.1;
      some = ltb-true 0 len sizes.0;
      within = leb-true len m.count sizes.1;
      allowed = inner.1;
    }

-- what is asked of each setting of a path, where the rest is as it has to be
pub answers_all : (m : Modules) (sheet path : List ℕ) (len room : ℕ) → Whole sheet → 192 ≤ room → 0 < len → len ≤ m.count → answerable m sheet path len room ≡ allows_all m path len
answers_all m sheet path len room whole roomy some within =
    rw (le-leb 12160 (length sheet) whole, le-leb 192 room roomy, lt-ltb 0 len some, le-leb len m.count within) refl

pub asked_each : (m : Modules) (path : List ℕ) (len : ℕ) (r : Bool)
    → MatchBool r (AllWithin (λ i. allows m i (get_or path i 0) ≡ true) (range_with_len 0 len) 0 (length (range_with_len 0 len)))
    ((k : ℕ) × (k < length (range_with_len 0 len)) × HoldsAt (λ i. allows m i (get_or path i 0) ≡ false) (range_with_len 0 len) k)
    → r ≡ allows_all m path len
asked_each m path len true all =
    sym (allows_all_from m path len (λ i l. subst (λ n. allows m n (get_or path n 0) ≡ true) (get_or-range_with_len 0 len i 0 l ∙ zero-add i) (all i 0 (omega arith) (omega (arith, length-range_with_len 0 len)))))
asked_each m path len false (k, l, not) =
    let below : k < len = omega (arith, length-range_with_len 0 len) in
    sym (allows_all_fails m path len k below (subst (λ n. allows m n (get_or path n 0) ≡ false) (get_or-range_with_len 0 len k 0 below ∙ zero-add k) (not 0)))

pub begun_holds : (m : Modules) (sheet path : List ℕ) (len room : ℕ) → 20 ≤ length path → Begun m sheet path len room → Holds sheet path len
begun_holds m sheet path len room long b = record {
  whole = b.whole;
  long = omega (arith, b.within, m.few);
  few = omega (arith, b.within, m.few);
  fit = λ i l. allows_few m i (get_or path i 0) (allows_each m path len i l b.allowed);
}

-- what a later setting is
pub later_parts : (m : Modules) (d j k : ℕ) → later_setting m d j k ≡ true → (d ≤ j) × (j < m.count) × (allows m j k ≡ true)
later_parts m d j k h =
    let outer = and_parts (leb d j && ltb j m.count) (allows m j k) h in
    let inner = and_parts (leb d j) (ltb j m.count) outer.0 in
    (leb-true d j inner.0, ltb-true j m.count inner.1, outer.1)

-- its place in the scratch
pub setting_within : (m : Modules) (d j k : ℕ) → later_setting m d j k ≡ true → 8 * j + k < 160
setting_within m d j k h =
    let parts = later_parts m d j k h in
    omega (arith, parts.1, m.few, allows_few m j k parts.2)
