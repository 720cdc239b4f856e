-- A floor for one setting, taken apart at its module.
use Rattle.std.proofs.Common.{◌≡◌, ℕ, zero, suc, ◌+◌, ◌-◌, ◌<◌, ◌≤◌, eqb, List, length, sym, refl, ap, ◌∙◌, arith}
use Rattle.std.proofs.lemmas.Bool.{cond-true, cond-false, eq-eqb, ne_eqb}
use Rattle.charges.specs.Kinds.{Kind, Lawful}
use Rattle.tables.specs.declared.modules.Modules.{Modules}
use Rattle.tables.specs.Joins.{joined_from}
use Rattle.tables.specs.Modules.{allows}
use Rattle.counts.specs.Floors.{past_charge, floor_over, only}
use Rattle.counts.specs.Least.{least}
use Rattle.counts.proofs.Joining.{from_none, from_more, from_same, join_from_none}
use Rattle.counts.proofs.Leasts.{least_of_one}

module _ (K : Kind) (L : Lawful K) where
  from_split_to : (f : ℕ → K.V) (d j e : ℕ) → d ≤ j → joined_from K f d (j + e) ≡ K.join (joined_from K f d j) (joined_from K f j (j + e))
  from_split_to f d j zero h =
      let at : j + zero ≡ j = omega arith in
      ap (joined_from K f d) at ∙ sym (join_from_none K L (joined_from K f d j) f j) ∙ ap (λ n. K.join (joined_from K f d j) (joined_from K f j n)) (sym at)
  from_split_to f d j (suc e) h =
      let n = j + e in
      let at : j + suc e ≡ n + 1 = omega arith in
      ap (joined_from K f d) at ∙ from_more K L f d n (omega arith)
      ∙ ap (λ x. K.join x (f n)) (from_split_to f d j e h)
      ∙ L.associative (joined_from K f d j) (joined_from K f j n) (f n)
      ∙ ap (K.join (joined_from K f d j)) (sym (from_more K L f j n (omega arith)) ∙ ap (joined_from K f j) (sym at))

  from_split : (f : ℕ → K.V) (d j n : ℕ) → d ≤ j → j ≤ n → joined_from K f d n ≡ K.join (joined_from K f d j) (joined_from K f j n)
  from_split f d j n h l =
      let e : n ≡ j + (n - j) = omega arith in
      ap (joined_from K f d) e ∙ from_split_to f d j (n - j) h ∙ ap (λ x. K.join (joined_from K f d j) (joined_from K f j x)) (sym e)

  from_one : (f : ℕ → K.V) (j : ℕ) → joined_from K f j (j + 1) ≡ f j
  from_one f j = from_more K L f j j (omega arith) ∙ ap (λ x. K.join x (f j)) (from_none K L f j) ∙ L.neutral (f j)

  -- f j taken out
  from_without : (f : ℕ → K.V) (d j n : ℕ) → d ≤ j → j < n → joined_from K f d n ≡ K.join (K.join (joined_from K f d j) (joined_from K f (j + 1) n)) (f j)
  from_without f d j n h l =
      let a = joined_from K f d j in
      let b = joined_from K f (j + 1) n in
      from_split f d j n h (omega arith)
      ∙ ap (K.join a) (from_split f j (j + 1) n (omega arith) (omega arith) ∙ ap (λ x. K.join x b) (from_one f j) ∙ L.commutative (f j) b)
      ∙ sym (L.associative a b (f j))

  module _ (m : Modules) (sheet p : List ℕ) (count : ℕ → ℕ → K.V) where
    mins : ℕ → K.V
    mins i = least K (allows m i) (count i)

    only_here : (j k : ℕ) → k < 8 → least K (only m j k j) (count j) ≡ count j k
    only_here j k small =
        let same : only m j k j ≡ (λ l. eqb l k) = λ i l. cond-true (eqb j j) (eqb l k) (allows m j l) (eq-eqb j j refl) i in
        ap (λ t. least K t (count j)) same ∙ least_of_one K (count j) k small

    only_elsewhere : (j k i : ℕ) → (i ≡ j → ⊥) → least K (only m j k i) (count i) ≡ mins i
    unfolding mins
    only_elsewhere j k i ne =
        let same : only m j k i ≡ allows m i = λ x l. cond-false (eqb i j) (eqb l k) (allows m i l) (ne_eqb i j ne) x in
        ap (λ t. least K t (count i)) same

    pub floor_with_is : (j k d : ℕ) → length p ≡ d → d ≤ j → j < m.count → k < 8
        → K.join (K.join (K.join (past_charge K sheet p) (joined_from K (λ i. least K (allows m i) (count i)) d j)) (joined_from K (λ i. least K (allows m i) (count i)) (j + 1) m.count)) (count j k)
        ≡ floor_over K m sheet (only m j k) count p
    unfolding mins
    floor_with_is j k d long h l small =
        let past = past_charge K sheet p in
        let n = m.count in
        let g : ℕ → K.V = λ i. least K (only m j k i) (count i) in
        let before : joined_from K g d j ≡ joined_from K mins d j = from_same K L g mins d j (λ i from below. only_elsewhere j k i (λ e. omega arith)) in
        let after : joined_from K g (j + 1) n ≡ joined_from K mins (j + 1) n = from_same K L g mins (j + 1) n (λ i from below. only_elsewhere j k i (λ e. omega arith)) in
        let whole = from_without g d j n h l in
        let one = L.associative past (joined_from K mins d j) (joined_from K mins (j + 1) n) in
        let two = L.associative past (K.join (joined_from K mins d j) (joined_from K mins (j + 1) n)) (count j k) in
        let here = only_here j k small in
        let lengthen = ap (λ e. K.join past (joined_from K g e n)) long in
        cc
