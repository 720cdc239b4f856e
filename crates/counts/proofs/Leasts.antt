-- What the least of some charges is.
use Rattle.std.proofs.Common.{◌≡◌, ℕ, zero, suc, ◌+◌, ◌<◌, ◌≤◌, Bool, true, false, eqb, ◌≢◌, Some, None, Option, sym, refl, ap, ◌∙◌, subst, ⊎_elim, add-one, arith}
use Rattle.std.proofs.lemmas.Bool.{cond-true, cond-false, cond_both, both_ways, cases_lt, cases_eq, eq-eqb, ne_eqb}
use Rattle.charges.specs.Kinds.{Kind, Lawful, AtMost}
use Rattle.counts.specs.Least.{least_of, lesser, least, or_zero}
use Rattle.counts.proofs.Joining.{at_most_self}

pub least_none : (K : Kind) (passes : ℕ → Bool) (f : ℕ → K.V) → least_of K passes f 0 ≡ None
unfolding least_of
least_none K passes f = refl

pub least_takes : (K : Kind) (passes : ℕ → Bool) (f : ℕ → K.V) (k : ℕ) → passes k ≡ true → least_of K passes f (k + 1) ≡ lesser K (least_of K passes f k) (f k)
unfolding least_of
least_takes K passes f k h = rw add-one (cond-true (passes k) (lesser K (least_of K passes f k) (f k)) (least_of K passes f k) h)

pub least_skips : (K : Kind) (passes : ℕ → Bool) (f : ℕ → K.V) (k : ℕ) → passes k ≡ false → least_of K passes f (k + 1) ≡ least_of K passes f k
unfolding least_of
least_skips K passes f k h = rw add-one (cond-false (passes k) (lesser K (least_of K passes f k) (f k)) (least_of K passes f k) h)

-- something at most y was found
abbrev pub Reach : (K : Kind) → Option K.V → K.V → Type 0
Reach K None y = ⊥
Reach K (Some v) y = AtMost K v y

reach_new : (K : Kind) (L : Lawful K) (o : Option K.V) (x : K.V) → Reach K (lesser K o x) x
reach_new K L None x = at_most_self K L x
reach_new K L (Some v) x = cond_both (K.at_most v x) v x (λ u. AtMost K u x) (λ e. e) (λ _. at_most_self K L x)

reach_old : (K : Kind) (L : Lawful K) (o : Option K.V) (x y : K.V) → Reach K o y → Reach K (lesser K o x) y
reach_old K L None x y h = absurd h
reach_old K L (Some v) x y h =
    cond_both (K.at_most v x) v x (λ u. AtMost K u y) (λ _. h)
    (λ e. L.transitive x v y (⊎_elim (λ t. absurd (both_ways (K.at_most v x) e t)) (λ t. t) (L.total v x)) h)

least_reaches : (K : Kind) (L : Lawful K) (passes : ℕ → Bool) (f : ℕ → K.V) (n k : ℕ) → k < n → passes k ≡ true → Reach K (least_of K passes f n) (f k)
unfolding least_of
least_reaches K L passes f zero k l h = absurd (omega arith)
least_reaches K L passes f (suc n) k l h = ⊎_elim
    (λ lower. cond_both (passes n) (lesser K (least_of K passes f n) (f n)) (least_of K passes f n) (λ o. Reach K o (f k))
    (λ _. reach_old K L (least_of K passes f n) (f n) (f k) (least_reaches K L passes f n k lower h))
    (λ _. least_reaches K L passes f n k lower h))
    (λ upper.
    let e : n ≡ k = omega arith in
    let taken = cond-true (passes n) (lesser K (least_of K passes f n) (f n)) (least_of K passes f n) (ap passes e ∙ h) in
    subst (λ o. Reach K o (f k)) (sym taken) (subst (λ i. Reach K (lesser K (least_of K passes f n) (f n)) (f i)) e (reach_new K L (least_of K passes f n) (f n))))
    (cases_lt k n)

reach_or_zero : (K : Kind) (o : Option K.V) (y : K.V) → Reach K o y → AtMost K (or_zero K o) y
reach_or_zero K None y h = absurd h
reach_or_zero K (Some v) y h = h

pub least_at_most : (K : Kind) (L : Lawful K) (passes : ℕ → Bool) (f : ℕ → K.V) (k : ℕ) → k < 8 → passes k ≡ true → AtMost K (least K passes f) (f k)
least_at_most K L passes f k l h = reach_or_zero K (least_of K passes f 8) (f k) (least_reaches K L passes f 8 k l h)

-- where one setting k passes, the least is that of k
none_before : (K : Kind) (f : ℕ → K.V) (k n : ℕ) → n ≤ k → least_of K (λ l. eqb l k) f n ≡ None
unfolding least_of
none_before K f k zero h = refl
none_before K f k (suc n) h =
    cond-false (eqb n k) (lesser K (least_of K (λ l. eqb l k) f n) (f n)) (least_of K (λ l. eqb l k) f n) (ne_eqb n k (λ e. omega arith))
    ∙ none_before K f k n (omega arith)

least_only : (K : Kind) (f : ℕ → K.V) (k n : ℕ) → k < n → least_of K (λ l. eqb l k) f n ≡ Some (f k)
unfolding least_of
least_only K f k zero h = absurd (omega arith)
least_only K f k (suc n) h = ⊎_elim
    (λ e.
    cond-true (eqb n k) (lesser K (least_of K (λ l. eqb l k) f n) (f n)) (least_of K (λ l. eqb l k) f n) (eq-eqb n k e)
    ∙ ap (λ o. lesser K o (f n)) (none_before K f k n (omega arith)) ∙ ap (λ i. Some (f i)) e)
    (λ ne.
    cond-false (eqb n k) (lesser K (least_of K (λ l. eqb l k) f n) (f n)) (least_of K (λ l. eqb l k) f n) (ne_eqb n k ne)
    ∙ least_only K f k n (let d : n ≢ k = ne in omega arith))
    (cases_eq n k)

pub least_of_one : (K : Kind) (f : ℕ → K.V) (k : ℕ) → k < 8 → least K (λ l. eqb l k) f ≡ f k
least_of_one K f k h = ap (or_zero K) (least_only K f k 8 h)
