-- The floors are at most the charge of each allowed setup that starts with the beginning.
use Rattle.std.proofs.Common.{◌≡◌, ℕ, ◌+◌, ◌<◌, ◌≤◌, Bool, true, false, eqb, List, length, get_or, sym, ap, ◌∙◌, subst, ⊎_elim, arith}
use Rattle.std.proofs.lemmas.Bool.{cond-true, cond-false, cases_eq, eq-eqb, ne_eqb}
use Rattle.charges.specs.Kinds.{Kind, Lawful, AtMost}
use Rattle.tables.specs.declared.modules.Modules.{Modules}
use Rattle.tables.specs.Joins.{joined, joined_from}
use Rattle.tables.specs.Modules.{allows}
use Rattle.tables.specs.Setups.{forward_count, charge_of}
use Rattle.tables.specs.Sheet.{entry_at}
use Rattle.bounds.specs.Beginnings.{Setup, Starts}
use Rattle.counts.specs.Least.{least}
use Rattle.counts.specs.Floors.{past_charge, forward, least_entry, directed, both, counted, floor_over, only, forward_floor, directed_floor, forward_with, directed_with}
use Rattle.counts.proofs.Joining.{at_most_self, join_at_most, joined_same, joined_longer, split_at, from_at_most, from_same, from_join, exchange_to}
use Rattle.counts.proofs.Leasts.{least_at_most}
use Rattle.bounds.specs.Allowing.{allows_each, allows_few}

module _ (K : Kind) (L : Lawful K) (m : Modules) (sheet : List ℕ) (p s : List ℕ) (within : length p ≤ m.count) (starts : Starts p s) (fine : Setup m s) where
  at : ℕ → ℕ
  at j = get_or s j 0

  -- what module j adds to the modules before it
  column : ℕ → K.V
  column j = forward_count K sheet s j j (at j)

  pair : ℕ → ℕ → K.V
  pair i j = K.entry (entry_at sheet i (at i) j (at j))

  allowed : (j : ℕ) → j < m.count → allows m j (at j) ≡ true
  unfolding at
  allowed j l = allows_each m s m.count j l fine

  few : (j : ℕ) → j < m.count → at j < 8
  few j l = allows_few m j (at j) (allowed j l)

  forward_starts : (d j k : ℕ) → d ≤ length p → forward_count K sheet p d j k ≡ forward_count K sheet s d j k
  forward_starts d j k h =
      joined_same K L (λ i. K.entry (entry_at sheet i (get_or p i 0) j k)) (λ i. K.entry (entry_at sheet i (get_or s i 0) j k)) d
      (λ i l. ap (λ x. K.entry (entry_at sheet i x j k)) (starts i (omega arith)))

  past_starts : past_charge K sheet p ≡ joined K column (length p)
  unfolding column at
  past_starts =
      joined_same K L (λ j. forward_count K sheet p j j (get_or p j 0)) column (length p)
      (λ j l. forward_starts j j (get_or p j 0) (omega arith) ∙ ap (forward_count K sheet s j j) (starts j l))

  -- a floor over counts that come to no more than the columns
  floor_sound : (passes : ℕ → ℕ → Bool) (count : ℕ → ℕ → K.V)
      → ((j : ℕ) → length p ≤ j → j < m.count → passes j (at j) ≡ true)
      → AtMost K (joined_from K (λ j. count j (at j)) (length p) m.count) (joined_from K column (length p) m.count)
      → AtMost K (floor_over K m sheet passes count p) (charge_of K sheet s m.count)
  unfolding column at
  floor_sound passes count pass low =
      let d = length p in
      let n = m.count in
      let mins : (ℕ → K.V) = λ j. least K (passes j) (count j) in
      let chosen : (ℕ → K.V) = λ j. count j (at j) in
      let less = from_at_most K L mins chosen d n (λ j from below. least_at_most K L (passes j) (count j) (at j) (few j below) (pass j from below)) in
      let rest = L.transitive (joined_from K mins d n) (joined_from K chosen d n) (joined_from K column d n) less low in
      let first = subst (λ x. AtMost K (past_charge K sheet p) x) past_starts (at_most_self K L (past_charge K sheet p)) in
      subst (AtMost K (floor_over K m sheet passes count p)) (sym (split_at K L column d n within))
      (join_at_most K L (past_charge K sheet p) (joined_from K mins d n) (joined K column d) (joined_from K column d n) first rest)

  -- with the beginning, with the modules after j, and with those between the beginning and j
  first : ℕ → K.V
  first j = joined K (λ i. pair i j) (length p)

  onward : ℕ → K.V
  onward j = joined_from K (pair j) (j + 1) m.count

  between : ℕ → K.V
  between j = joined_from K (λ i. pair i j) (length p) j

  forward_is_first : (j : ℕ) → forward K sheet p j (at j) ≡ first j
  unfolding first pair at
  forward_is_first j = forward_starts (length p) j (at j) (omega arith)

  forward_counts : AtMost K (joined_from K (λ j. forward K sheet p j (at j)) (length p) m.count) (joined_from K column (length p) m.count)
  unfolding column first pair at
  forward_counts =
      from_at_most K L (λ j. forward K sheet p j (at j)) column (length p) m.count
      (λ j from below. subst (λ x. AtMost K x (column j)) (sym (forward_is_first j)) (joined_longer K L (λ i. pair i j) (length p) j from))

  both_at_most : (j : ℕ) → length p ≤ j → j < m.count → AtMost K (both K m sheet p j (at j)) (K.join (first j) (onward j))
  unfolding onward pair
  both_at_most j from below =
      join_at_most K L (forward K sheet p j (at j)) (directed K m sheet j (at j)) (first j) (onward j)
      (subst (AtMost K (forward K sheet p j (at j))) (forward_is_first j) (at_most_self K L (forward K sheet p j (at j))))
      (from_at_most K L (least_entry K m sheet j (at j)) (pair j) (j + 1) m.count (λ i after last.
      least_at_most K L (allows m i) (λ l. K.entry (entry_at sheet j (at j) i l)) (at i) (few i last) (allowed i last)))

  all_same : joined_from K (λ j. K.join (first j) (onward j)) (length p) m.count ≡ joined_from K column (length p) m.count
  unfolding pair first onward between column at
  all_same =
      let d = length p in
      let n = m.count in
      from_join K L first onward d n
      ∙ ap (K.join (joined_from K first d n)) (exchange_to K L pair d n within)
      ∙ sym (from_join K L first between d n)
      ∙ from_same K L (λ j. K.join (first j) (between j)) column d n (λ j from below. sym (split_at K L (λ i. pair i j) d j from))

  both_counts : AtMost K (joined_from K (λ j. both K m sheet p j (at j)) (length p) m.count) (joined_from K column (length p) m.count)
  both_counts =
      subst (AtMost K (joined_from K (λ j. both K m sheet p j (at j)) (length p) m.count)) all_same
      (from_at_most K L (λ j. both K m sheet p j (at j)) (λ j. K.join (first j) (onward j)) (length p) m.count both_at_most)

  passes_only : (j k : ℕ) → get_or s j 0 ≡ k → (i : ℕ) → length p ≤ i → i < m.count → only m j k i (at i) ≡ true
  unfolding at
  passes_only j k is i from below = ⊎_elim
      (λ e. cond-true (eqb i j) (eqb (at i) k) (allows m i (at i)) (eq-eqb i j e) ∙ eq-eqb (at i) k (ap at e ∙ is))
      (λ ne. cond-false (eqb i j) (eqb (at i) k) (allows m i (at i)) (ne_eqb i j ne) ∙ allowed i below)
      (cases_eq i j)

  pub past_sound : AtMost K (past_charge K sheet p) (charge_of K sheet s m.count)
  unfolding column at
  past_sound = subst (λ x. AtMost K x (charge_of K sheet s m.count)) (sym past_starts) (joined_longer K L column (length p) m.count within)

  pub forward_sound : AtMost K (forward_floor K m sheet p) (charge_of K sheet s m.count)
  forward_sound = floor_sound (allows m) (forward K sheet p) (λ j from below. allowed j below) forward_counts

  pub directed_sound : AtMost K (directed_floor K m sheet p) (charge_of K sheet s m.count)
  directed_sound = floor_sound (allows m) (both K m sheet p) (λ j from below. allowed j below) both_counts

  pub forward_with_sound : (j k : ℕ) → get_or s j 0 ≡ k → AtMost K (forward_with K m sheet p j k) (charge_of K sheet s m.count)
  forward_with_sound j k is = floor_sound (only m j k) (forward K sheet p) (passes_only j k is) forward_counts

  pub directed_with_sound : (j k : ℕ) → get_or s j 0 ≡ k → AtMost K (directed_with K m sheet p j k) (charge_of K sheet s m.count)
  directed_with_sound j k is = floor_sound (only m j k) (both K m sheet p) (passes_only j k is) both_counts

  pub counted_sound : (directed : Bool) → AtMost K (floor_over K m sheet (allows m) (counted K m sheet directed p) p) (charge_of K sheet s m.count)
  counted_sound false = forward_sound
  counted_sound true = directed_sound

  pub counted_with_sound : (directed : Bool) (j k : ℕ) → get_or s j 0 ≡ k → AtMost K (floor_over K m sheet (only m j k) (counted K m sheet directed p) p) (charge_of K sheet s m.count)
  counted_with_sound false = forward_with_sound
  counted_with_sound true = directed_with_sound
