-- A row that is filled word by word.
use Rattle.std.proofs.Common.{◌≡◌, ℕ, ◌+◌, ◌<◌, ◌≤◌, List, [], ◌∷◌, ◌++◌, length, get_or, take, drop, set, sym, refl, ap, ◌∙◌, subst, ⊎_elim, append_assoc, arith, length-set}
use Rattle.std.proofs.lemmas.List.{drop_more, drop_all, take_more_set, drop-set-lt, take-append-drop}
use Rattle.std.proofs.lemmas.Bool.{cases_lt}
use Rattle.words.specs.Words.{Word}
use Rattle.words.specs.Numbers.{Number}
use Rattle.words.specs.Rows.{Fills, Row}

-- the first n words of ws are in the row, the others are rest, and the row goes on with zeros
pub record Sofar (ws rest : List Word) (row : List ℕ) (n : ℕ) : Type 0 where
  pub few : n ≤ 20
  pub count : length ws ≡ n + length rest
  pub long : length row ≡ 20
  pub zeros : Fills [] (drop n row)
  pub front : (tail : List ℕ) → Fills rest tail → Fills ws (take n row ++ tail)
  pub back : (r : List ℕ) → Fills ws r → Fills rest (drop n r)

-- words with no row and number of words fill no row
pub no_row : (ws : List Word) → ((p : List ℕ × ℕ) → Row ws p.0 × (length ws ≡ p.1) → ⊥) → (row : List ℕ) → Row ws row → ⊥
no_row ws none row h = none (row, length ws) (h, refl)

module _ {all rest : List Word} {w : Word} {more : List Word} {row : List ℕ} {n : ℕ} (old : Sofar all rest row n) (next : rest ≡ w ∷ more) where
  left : (r : List ℕ) → Fills all r → Fills (w ∷ more) (drop n r)
  left r h = subst (λ l. Fills l (drop n r)) next (old.back r h)

  pub too_many : n ≡ 20 → (r : List ℕ) → Row all r → ⊥
  too_many full r h =
      let none : drop n r ≡ [] = drop_all n r (omega (arith, h.0)) in
      subst (Fills (w ∷ more)) none (left r h.1)

  split : (r : List ℕ) → Fills all r → n < length r → Number 255 w (get_or r n 0) × Fills more (drop (n + 1) r)
  split r h inside = subst (Fills (w ∷ more)) (drop_more r n 0 inside) (left r h)

  pub one_more : (x : ℕ) → n < 20 → Number 255 w x → Sofar all more (set row n x) (n + 1)
  one_more x room said =
      let inside : n < length row = omega (arith, old.long) in
      record {
        few = omega arith;
        count = omega (arith, old.count, ap length next);
        long = length-set row n x ∙ old.long;
        zeros = subst (Fills []) (sym (drop-set-lt (n + 1) row n x (omega arith))) (subst (Fills []) (drop_more row n 0 inside) old.zeros).1;
        front = λ tail h. subst (Fills all) (sym (ap (λ l. l ++ tail) (take_more_set row n x inside) ∙ append_assoc (take n row) (x ∷ []) tail)) (old.front (x ∷ tail) (subst (λ l. Fills l (x ∷ tail)) (sym next) (said, h)));
        back = λ r h. ⊎_elim (λ within. (split r h within).1) (λ past. absurd (subst (Fills (w ∷ more)) (drop_all n r past) (left r h))) (cases_lt n (length r));
      }

pub all_read : {all rest : List Word} {row : List ℕ} {n : ℕ} → Sofar all rest row n → rest ≡ [] → Row all row × (length all ≡ n)
all_read {all} {rest} {row} {n} h none = (
  (h.long, subst (Fills all) (take-append-drop n row) (h.front (drop n row) (subst (λ l. Fills l (drop n row)) (sym none) h.zeros))),
  omega (arith, h.count, ap length none),
)
