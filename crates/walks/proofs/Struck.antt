-- Settings struck one after the other.
use Rattle.std.proofs.Common.{◌≡◌, ℕ, ◌+◌, ◌*◌, ◌^◌, ◌<◌, ◌≤◌, Bool, true, false, not, ◌&&◌, List, length, get_or, set, sym, refl, ap, ◌∙◌, subst, inl, inr, arith, length-set, get_or-set_other, get_or-set_same}
use lib.Bits.{bit_xor, xor_lt}
use Rattle.std.proofs.lemmas.Nat.{pow_below}
use Rattle.std.proofs.lemmas.Bool.{cases_lt, cases_eq, and_left, and_right, false≢true}
use Rattle.charges.specs.Kinds.{Kind}
use Rattle.walks.specs.Settings.{has}
use Rattle.walks.specs.Opening.{under, stays, Dead}
use Rattle.walks.proofs.Bits.{no_bits, struck_other, struck_own}

module _ (K : Kind) (limit : K.V) (answer : ℕ → ℕ → K.V) (row : List ℕ) (d n : ℕ) where
  -- the settings of the modules from d to before n are struck up to number q, counting eight to a module
  pub record Struck (q : ℕ) (still : List ℕ) : Type 0 where
    pub done : (j k : ℕ) → d ≤ j → j < n → k < 8 → 8 * j + k < q → has (get_or still j 0) k ≡ stays K limit answer row j k
    pub todo : (j k : ℕ) → d ≤ j → j < n → k < 8 → q ≤ 8 * j + k → has (get_or still j 0) k ≡ has (get_or row j 0) k
    pub some : (j : ℕ) → d ≤ j → j < n → 1 ≤ get_or still j 0
    pub byte : (j : ℕ) → d ≤ j → j < n → get_or still j 0 < 256
    pub long : length still ≡ length row

  -- at setting k of module j
  module _ (still : List ℕ) (j k : ℕ) (from : d ≤ j) (upto : j < n) (few : k < 8) (h : Struck (8 * j + k) still) where
    at : (P : ℕ → ℕ → Type 0) → P j k → (i l : ℕ) → l < 8 → 8 * i + l < 8 * j + (k + 1) → (8 * i + l < 8 * j + k → P i l) → P i l
    at P here i l m b before = elim (cases_lt (8 * i + l) (8 * j + k)) [
      | inl c ↦ before c
      | inr c ↦
          let e : j ≡ i = omega arith in
          let f : k ≡ l = omega arith in
          subst (λ x. P x l) e (subst (P j) f here)
    ]

    -- it is not struck
    pub struck_pass : has (get_or row j 0) k ≡ stays K limit answer row j k → Struck (8 * j + (k + 1)) still
    struck_pass e = record {
      done = λ i l a b c m. at (λ i l. has (get_or still i 0) l ≡ stays K limit answer row i l) (h.todo j k from upto few (omega arith) ∙ e) i l c m (h.done i l a b c);
      todo = λ i l a b c m. h.todo i l a b c (omega arith);
      some = h.some;
      byte = h.byte;
      long = h.long;
    }

    abbrev pub mask : ℕ
    mask = bit_xor (get_or still j 0) (2 ^ k)

    module _ (long : j < length still) (live : has (get_or row j 0) k ≡ true) (over : under K limit (answer j k) ≡ false) where
      other : (i : ℕ) → (i ≡ j → ⊥) → get_or (set still j mask) i 0 ≡ get_or still i 0
      other i e = get_or-set_other still j i mask 0 e

      own : get_or (set still j mask) j 0 ≡ mask
      own = get_or-set_same still j mask 0 long

      gone : has mask k ≡ false
      gone = struck_own (get_or still j 0) k (h.todo j k from upto few (omega arith) ∙ live)

      is_struck : stays K limit answer row j k ≡ false
      is_struck = and_right (has (get_or row j 0) k) (under K limit (answer j k)) over

      -- but for the one, all bits are as they were
      same_bit : (i l : ℕ) → (8 * i + l ≡ 8 * j + k → ⊥) → has (get_or (set still j mask) i 0) l ≡ has (get_or still i 0) l
      same_bit i l e = elim (cases_eq i j) [
        | inl f ↦ subst (λ x. has (get_or (set still j mask) x 0) l ≡ has (get_or still x 0) l) (sym f) (ap (λ x. has x l) own ∙ struck_other (get_or still j 0) k l (λ g. e (omega arith)))
        | inr f ↦ ap (λ x. has x l) (other i f)
      ]

      small : mask < 256
      small = xor_lt 8 (get_or still j 0) (2 ^ k) (h.byte j from upto) (pow_below k 8 few)

      -- it is struck, and something of its module is left
      pub struck_more : (mask ≡ 0 → ⊥) → Struck (8 * j + (k + 1)) (set still j mask)
      struck_more some = record {
        done = λ i l a b c m. at (λ i l. has (get_or (set still j mask) i 0) l ≡ stays K limit answer row i l) (ap (λ x. has x k) own ∙ gone ∙ sym is_struck) i l c m
            (λ u. same_bit i l (λ e. omega arith) ∙ h.done i l a b c u);
        todo = λ i l a b c m. same_bit i l (λ e. omega arith) ∙ h.todo i l a b c (omega arith);
        some = λ i a b. elim (cases_eq i j) [
          | inl f ↦ subst (λ x. 1 ≤ get_or (set still j mask) x 0) (sym f) (subst (λ x. 1 ≤ x) (sym own) (omega arith))
          | inr f ↦ subst (λ x. 1 ≤ x) (sym (other i f)) (h.some i a b)
        ];
        byte = λ i a b. elim (cases_eq i j) [
          | inl f ↦ subst (λ x. get_or (set still j mask) x 0 < 256) (sym f) (subst (λ x. x < 256) (sym own) small)
          | inr f ↦ subst (λ x. x < 256) (sym (other i f)) (h.byte i a b)
        ];
        long = length-set still j mask ∙ h.long;
      }

      none : mask ≡ 0 → (l : ℕ) → has mask l ≡ false
      none e l = ap (λ x. has x l) e ∙ no_bits l

      -- nothing of its module is left
      pub struck_out : mask ≡ 0 → Dead K limit answer row d n
      struck_out e = (j, from, upto, λ l m. each l m)
        where
          each : (l : ℕ) → l < 8 → stays K limit answer row j l ≡ false
          each l m = elim (cases_lt l k) [
            | inl c ↦ sym (h.done j l from upto m (omega arith)) ∙ sym (struck_other (get_or still j 0) k l (λ e. omega arith)) ∙ none e l
            | inr c ↦ elim (cases_eq l k) [
              | inl f ↦ subst (λ x. stays K limit answer row j x ≡ false) (sym f) is_struck
              | inr f ↦ and_left (has (get_or row j 0) l) (under K limit (answer j l))
                  (sym (h.todo j l from upto m (omega arith)) ∙ sym (struck_other (get_or still j 0) k l f) ∙ none e l)
            ]
          ]

      -- the same of the mask that is written, which is shifted from 1
      pub struck_on : (one : ℕ) (after : List ℕ) → one ≡ 2 ^ k → after ≡ set still j (bit_xor (get_or still j 0) one) → (get_or (set still j (bit_xor (get_or still j 0) one)) j 0 ≡ 0 → ⊥) → Struck (8 * j + (k + 1)) after
      struck_on one after e is some =
          subst (Struck (8 * j + (k + 1))) (ap (λ x. set still j (bit_xor (get_or still j 0) x)) (sym e) ∙ sym is)
          (struck_more (λ z. some (ap (λ x. get_or (set still j (bit_xor (get_or still j 0) x)) j 0) e ∙ own ∙ z)))

      pub struck_off : (one : ℕ) → one ≡ 2 ^ k → get_or (set still j (bit_xor (get_or still j 0) one)) j 0 ≡ 0 → Dead K limit answer row d n
      struck_off one e z = struck_out (sym own ∙ ap (λ x. get_or (set still j (bit_xor (get_or still j 0) x)) j 0) (sym e) ∙ z)

    -- it is not live, or its answer is below the limit
    pub passes_dead : has (get_or row j 0) k ≡ false → Struck (8 * j + (k + 1)) still
    passes_dead e = struck_pass (e ∙ sym (and_left (has (get_or row j 0) k) (under K limit (answer j k)) e))

    pub passes_under : under K limit (answer j k) ≡ true → Struck (8 * j + (k + 1)) still
    passes_under e = struck_pass (sym (ap (λ b. has (get_or row j 0) k && b) e ∙ and_true (has (get_or row j 0) k)))
      where
        and_true : (b : Bool) → (b && true) ≡ b
        and_true true = refl
        and_true false = refl

pub is_over : (b : Bool) → true ≡ not b → b ≡ false
is_over true e = absurd (false≢true (sym e))
is_over false e = refl

pub not_over : (b : Bool) → false ≡ not b → b ≡ true
not_over true e = refl
not_over false e = absurd (false≢true e)
