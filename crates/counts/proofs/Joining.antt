-- What the laws of a kind give of joins of many charges.
use Rattle.std.proofs.Common.{◌≡◌, ℕ, zero, suc, ◌+◌, ◌-◌, ◌<◌, ◌≤◌, sym, refl, ap, ◌∙◌, subst, ⊎_elim, add-zero, add-suc, arith}
use Rattle.charges.specs.Kinds.{Kind, Lawful, AtMost}
use Rattle.tables.specs.Joins.{joined, joined_from}
use Rattle.tables.proofs.JoinSteps.{joined_more}

module _ (K : Kind) (L : Lawful K) where
  pub from_none : (f : ℕ → K.V) (d : ℕ) → joined_from K f d d ≡ K.zero
  from_none f d = let e : d - d ≡ 0 = omega arith in ap (joined K (λ i. f (d + i))) e

  pub from_more : (f : ℕ → K.V) (d n : ℕ) → d ≤ n → joined_from K f d (n + 1) ≡ K.join (joined_from K f d n) (f n)
  from_more f d n h =
      let e : (n + 1) - d ≡ (n - d) + 1 = omega arith in
      let at : d + (n - d) ≡ n = omega arith in
      ap (joined K (λ i. f (d + i))) e ∙ joined_more K (λ i. f (d + i)) (n - d) ∙ ap (λ x. K.join (joined_from K f d n) (f x)) at

  pub neutral_right : (x : K.V) → K.join x K.zero ≡ x
  neutral_right x = L.commutative x K.zero ∙ L.neutral x

  -- nothing joined yet
  pub join_from_none : (x : K.V) (f : ℕ → K.V) (d : ℕ) → K.join x (joined_from K f d d) ≡ x
  join_from_none x f d = ap (K.join x) (from_none f d) ∙ neutral_right x

  pub at_most_self : (x : K.V) → AtMost K x x
  at_most_self x = ⊎_elim (λ h. h) (λ h. h) (L.total x x)

  pub join_at_most : (x y u v : K.V) → AtMost K x u → AtMost K y v → AtMost K (K.join x y) (K.join u v)
  join_at_most x y u v p q =
      let right : AtMost K (K.join u y) (K.join u v) = rw (L.commutative u y, L.commutative u v) (L.monotone y v u q) in
      L.transitive (K.join x y) (K.join u y) (K.join u v) (L.monotone x u y p) right

  pub at_most_join : (x y : K.V) → AtMost K x (K.join x y)
  at_most_join x y =
      subst (λ u. AtMost K u (K.join x y)) (neutral_right x) (join_at_most x K.zero x y (at_most_self x) (L.least y))

  pub joined_at_most : (f h : ℕ → K.V) (n : ℕ) → ((i : ℕ) → i < n → AtMost K (f i) (h i)) → AtMost K (joined K f n) (joined K h n)
  joined_at_most f h zero each = at_most_self K.zero
  joined_at_most f h (suc n) each =
      join_at_most (joined K f n) (f n) (joined K h n) (h n) (joined_at_most f h n (λ i l. each i (omega arith))) (each n (omega arith))

  pub joined_same : (f h : ℕ → K.V) (n : ℕ) → ((i : ℕ) → i < n → f i ≡ h i) → joined K f n ≡ joined K h n
  joined_same f h zero each = refl
  joined_same f h (suc n) each =
      let before = joined_same f h n (λ i l. each i (omega arith)) in let here : f n ≡ h n = each n (omega arith) in cc

  pub joined_split : (f : ℕ → K.V) (d m : ℕ) → joined K f (d + m) ≡ K.join (joined K f d) (joined K (λ i. f (d + i)) m)
  joined_split f d zero = ap (joined K f) (add-zero d) ∙ sym (neutral_right (joined K f d))
  joined_split f d (suc m) =
      ap (joined K f) (add-suc d m) ∙ ap (λ x. K.join x (f (d + m))) (joined_split f d m)
      ∙ L.associative (joined K f d) (joined K (λ i. f (d + i)) m) (f (d + m))

  pub split_at : (f : ℕ → K.V) (d n : ℕ) → d ≤ n → joined K f n ≡ K.join (joined K f d) (joined_from K f d n)
  split_at f d n h = let e : n ≡ d + (n - d) = omega arith in ap (joined K f) e ∙ joined_split f d (n - d)

  pub from_at_most : (f h : ℕ → K.V) (d n : ℕ) → ((j : ℕ) → d ≤ j → j < n → AtMost K (f j) (h j)) → AtMost K (joined_from K f d n) (joined_from K h d n)
  from_at_most f h d n each =
      joined_at_most (λ i. f (d + i)) (λ i. h (d + i)) (n - d) (λ i l. each (d + i) (omega arith) (omega arith))

  pub joined_longer : (f : ℕ → K.V) (d n : ℕ) → d ≤ n → AtMost K (joined K f d) (joined K f n)
  joined_longer f d n h = subst (AtMost K (joined K f d)) (sym (split_at f d n h)) (at_most_join (joined K f d) (joined_from K f d n))

  -- a turn of a loop that joins f n to what it has
  pub joined_step : (f : ℕ → K.V) (n : ℕ) {s t x : K.V} → s ≡ joined K f n → t ≡ K.join s x → x ≡ f n → t ≡ joined K f (n + 1)
  joined_step f n has joins is = let more = joined_more K f n in cc

  pub from_step : (past : K.V) (f : ℕ → K.V) (d n : ℕ) → d ≤ n → {s t x : K.V} → s ≡ K.join past (joined_from K f d n) → t ≡ K.join s x → x ≡ f n → t ≡ K.join past (joined_from K f d (n + 1))
  from_step past f d n h has joins is =
      let more = from_more f d n h in let assoc = L.associative past (joined_from K f d n) (f n) in cc

  -- the four parts of two joins, regrouped
  pub regroup : (a b x y : K.V) → K.join (K.join a b) (K.join x y) ≡ K.join (K.join a x) (K.join b y)
  regroup a b x y =
      let p = L.associative a b (K.join x y) in
      let q = L.associative b x y in
      let r = L.commutative b x in
      let s = L.associative x b y in
      let t = L.associative a x (K.join b y) in
      cc

  pub joined_join : (f h : ℕ → K.V) (n : ℕ) → joined K (λ i. K.join (f i) (h i)) n ≡ K.join (joined K f n) (joined K h n)
  joined_join f h zero = sym (L.neutral K.zero)
  joined_join f h (suc n) =
      ap (λ x. K.join x (K.join (f n) (h n))) (joined_join f h n) ∙ regroup (joined K f n) (joined K h n) (f n) (h n)

  pub from_join : (f h : ℕ → K.V) (d n : ℕ) → joined_from K (λ i. K.join (f i) (h i)) d n ≡ K.join (joined_from K f d n) (joined_from K h d n)
  from_join f h d n = joined_join (λ i. f (d + i)) (λ i. h (d + i)) (n - d)

  pub from_same : (f h : ℕ → K.V) (d n : ℕ) → ((j : ℕ) → d ≤ j → j < n → f j ≡ h j) → joined_from K f d n ≡ joined_from K h d n
  from_same f h d n each =
      joined_same (λ i. f (d + i)) (λ i. h (d + i)) (n - d) (λ i l. each (d + i) (omega arith) (omega arith))

  -- the pairs of modules from d on, by their first or by their second
  pub exchange : (e : ℕ → ℕ → K.V) (d m : ℕ) → joined_from K (λ j. joined_from K (e j) (j + 1) (d + m)) d (d + m) ≡ joined_from K (λ j. joined_from K (λ i. e i j) d j) d (d + m)
  exchange e d zero =
      let at : d + zero ≡ d = add-zero d in
      ap (λ n. joined_from K (λ j. joined_from K (e j) (j + 1) n) d n) at ∙ from_none (λ j. joined_from K (e j) (j + 1) d) d
      ∙ sym (ap (joined_from K (λ j. joined_from K (λ i. e i j) d j) d) at ∙ from_none (λ j. joined_from K (λ i. e i j) d j) d)
  exchange e d (suc m) =
      let n = d + m in
      let at : d + suc m ≡ n + 1 = omega arith in
      let h : d ≤ n = omega arith in
      let firsts : (ℕ → K.V) = λ j. joined_from K (e j) (j + 1) n in
      let seconds : (ℕ → K.V) = λ j. joined_from K (λ i. e i j) d j in
      let longer : (ℕ → K.V) = λ j. joined_from K (e j) (j + 1) (n + 1) in
      let last : (ℕ → K.V) = λ j. e j n in
      let one = from_more longer d n h in
      let two = from_same longer (λ j. K.join (firsts j) (last j)) d n (λ j from below. from_more (e j) (j + 1) n (omega arith)) in
      let three = from_join firsts last d n in
      let four = from_none (e n) (n + 1) in
      let five = neutral_right (joined_from K longer d n) in
      let six = from_more seconds d n h in
      let seven = exchange e d m in
      ap (λ v. joined_from K (λ j. joined_from K (e j) (j + 1) v) d v) at
      ∙ one ∙ ap (K.join (joined_from K longer d n)) four ∙ five ∙ two ∙ three ∙ ap (λ x. K.join x (joined_from K last d n)) seven ∙ sym six
      ∙ sym (ap (joined_from K seconds d) at)

  pub exchange_to : (e : ℕ → ℕ → K.V) (d n : ℕ) → d ≤ n → joined_from K (λ j. joined_from K (e j) (j + 1) n) d n ≡ joined_from K (λ j. joined_from K (λ i. e i j) d j) d n
  exchange_to e d n h =
      let P : ℕ → Type 0 = λ v. joined_from K (λ j. joined_from K (e j) (j + 1) v) d v ≡ joined_from K (λ j. joined_from K (λ i. e i j) d j) d v in
      let at : d + (n - d) ≡ n = omega arith in
      subst P at (exchange e d (n - d))
