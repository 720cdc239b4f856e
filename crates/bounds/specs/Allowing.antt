-- What is allowed, module by module.
use Rattle.std.specs.Prelude.{◌≡◌, ℕ, zero, suc, ◌+◌, ◌<◌, true, false, ◌&&◌, List, length, nat_le, nat_lt, slice_index, refl}
use Rattle.std.proofs.Common.{⊎_elim, ap, ◌∙◌, add-one, arith}
use Rattle.std.proofs.lemmas.Bool.{and_parts, and_from, and_left, and_right, cases_lt, both_ways}
use Rattle.tables.specs.declared.modules.Modules.{Modules}
use Rattle.tables.specs.Modules.{allows, module_of}
use Rattle.tables.proofs.Masks.{none_past}
use Rattle.bounds.specs.Beginnings.{allows_all, begins, answerable}

pub allows_all_more : (m : Modules) (row : List ℕ) (n : ℕ) → allows_all m row (n + 1) ≡ allows_all m row n && allows m n (slice_index row n)
allows_all_more m row n = rw add-one refl

pub allows_all_fails : (m : Modules) (row : List ℕ) (n i : ℕ) → i < n → allows m i (slice_index row i) ≡ false → allows_all m row n ≡ false
allows_all_fails m row zero i l h = absurd (omega arith)
allows_all_fails m row (suc n) i l h = ⊎_elim
    (λ below. and_left (allows_all m row n) (allows m n (slice_index row n)) (allows_all_fails m row n i below h))
    (λ above.
    let e : n ≡ i = omega arith in
    and_right (allows_all m row n) (allows m n (slice_index row n)) (ap (λ x. allows m x (slice_index row x)) e ∙ h))
    (cases_lt i n)

pub allows_all_from : (m : Modules) (row : List ℕ) (n : ℕ) → ((i : ℕ) → i < n → allows m i (slice_index row i) ≡ true) → allows_all m row n ≡ true
allows_all_from m row zero each = refl
allows_all_from m row (suc n) each =
    and_from (allows_all m row n) (allows m n (slice_index row n)) (allows_all_from m row n (λ i l. each i (omega arith))) (each n (omega arith))

pub allows_each : (m : Modules) (row : List ℕ) (n i : ℕ) → i < n → allows_all m row n ≡ true → allows m i (slice_index row i) ≡ true
allows_each m row zero i l h = absurd (omega arith)
allows_each m row (suc n) i l h =
    let parts = and_parts (allows_all m row n) (allows m n (slice_index row n)) h in
    ⊎_elim
    (λ below. allows_each m row n i below parts.0)
    (λ above. let e : i ≡ n = omega arith in ap (λ x. allows m x (slice_index row x)) e ∙ parts.1)
    (cases_lt i n)

pub allows_few : (m : Modules) (i k : ℕ) → allows m i k ≡ true → k < 8
allows_few m i k h = ⊎_elim (λ l. l) (λ l. absurd (both_ways (allows m i k) (none_past m i k (omega (arith, (module_of m i).few))) h)) (cases_lt k 8)

pub cannot_answer : (m : Modules) (sheet path : List ℕ) (len room i : ℕ) → i < len → allows m i (slice_index path i) ≡ false → answerable m sheet path len room ≡ false
cannot_answer m sheet path len room i l h =
    and_right (nat_le 12160 (length sheet) && nat_le 192 room) (begins m path len)
    (and_right (nat_lt 0 len && nat_le len m.count) (allows_all m path len) (allows_all_fails m path len i l h))
