-- What `has_all` says of each module.
use Rattle.std.proofs.Common.{◌≡◌, ℕ, zero, suc, ◌<◌, ◌≤◌, Bool, true, false, List, length, get_or, sym, refl, ap, subst, ◌∙◌, ⊎_elim, arith}
use Rattle.std.proofs.lemmas.Bool.{and_parts, and_left, and_right, and_from, ltb-true, lt-ltb, le-ltb, cases_lt}
use Rattle.std.proofs.lemmas.List.FromFn.{length-range_with_len, get_or-range_with_len}
use Rattle.std.specs.Bool.{MatchBool}
use Rattle.std.specs.List.{range_with_len, AllWithin, HoldsAt}
use Rattle.tables.specs.declared.modules.Modules.{Modules}
use Rattle.tables.specs.Modules.{settings_of, module_of}
use Rattle.tables.specs.Sheet.{Whole}
use Rattle.tables.specs.Setups.{Holds}
use Rattle.jobs.specs.Checks.{has, has_all}

pub has_all_fails : (m : Modules) (row : List ℕ) (n i : ℕ) → i < n → has m i (get_or row i 0) ≡ false → has_all m row n ≡ false
has_all_fails m row zero i l h = absurd (omega arith)
has_all_fails m row (suc n) i l h = ⊎_elim
    (λ below. and_left (has_all m row n) (has m n (get_or row n 0)) (has_all_fails m row n i below h))
    (λ above.
    let e : n ≡ i = omega arith in
    and_right (has_all m row n) (has m n (get_or row n 0)) (ap (λ x. has m x (get_or row x 0)) e ∙ h))
    (cases_lt i n)

has_each : (m : Modules) (row : List ℕ) (n i : ℕ) → i < n → has_all m row n ≡ true → get_or row i 0 < settings_of m i
has_each m row zero i l h = absurd (omega arith)
has_each m row (suc n) i l h =
    let parts = and_parts (has_all m row n) (has m n (get_or row n 0)) h in
    ⊎_elim
    (λ below. has_each m row n i below parts.0)
    (λ above.
    let e : n ≡ i = omega arith in
    ltb-true (get_or row i 0) (settings_of m i) (ap (λ x. has m x (get_or row x 0)) (sym e) ∙ parts.1))
    (cases_lt i n)

has_all_from : (m : Modules) (row : List ℕ) (n : ℕ) → ((i : ℕ) → i < n → get_or row i 0 < settings_of m i) → has_all m row n ≡ true
has_all_from m row zero each = refl
has_all_from m row (suc n) each =
    and_from (has_all m row n) (has m n (get_or row n 0)) (has_all_from m row n (λ i l. each i (omega arith)))
    (lt-ltb (get_or row n 0) (settings_of m n) (each n (omega arith)))

-- what a test of each module from 0 to before n says of all
pub has_all_tested : (m : Modules) (row : List ℕ) (n : ℕ) (r : Bool)
    → MatchBool r (AllWithin (λ i. get_or row i 0 < settings_of m i) (range_with_len 0 n) 0 (length (range_with_len 0 n)))
    ((k : ℕ) × (k < length (range_with_len 0 n)) × HoldsAt (λ i. settings_of m i ≤ get_or row i 0) (range_with_len 0 n) k)
    → r ≡ has_all m row n
has_all_tested m row n true each = sym (has_all_from m row n (λ i l.
    let e : get_or (range_with_len 0 n) i 0 ≡ i = omega (arith, get_or-range_with_len 0 n i 0 l) in
    subst (λ x. get_or row x 0 < settings_of m x) e (each i 0 (omega arith) (omega (arith, length-range_with_len 0 n)))))
has_all_tested m row n false (k, l, fails) =
    let within : k < n = omega (arith, length-range_with_len 0 n) in
    let e : get_or (range_with_len 0 n) k 0 ≡ k = omega (arith, get_or-range_with_len 0 n k 0 within) in
    let long : settings_of m k ≤ get_or row k 0 = subst (λ x. settings_of m x ≤ get_or row x 0) e (fails 0) in
    sym (has_all_fails m row n k within (le-ltb (get_or row k 0) (settings_of m k) long))

-- a row that has a setting for each module can be weighed
pub row_holds : (m : Modules) (sheet row : List ℕ) → Whole sheet → 20 ≤ length row → has_all m row m.count ≡ true → Holds sheet row m.count
row_holds m sheet row whole long h = record {
  whole = whole;
  long = omega (arith, m.few);
  few = m.few;
  fit = λ i l. omega (arith, has_each m row m.count i l h, (module_of m i).few);
}
