-- Ranked charges keep the laws of a kind.
use Rattle.std.specs.Prelude.{◌≡◌, ℕ, ◌+◌, ◌-◌, ◌*◌, ◌≤◌, min, true, ◌&&◌, ltb, leb, ◌==◌, nat_le, nat_lt, refl}
use Rattle.std.proofs.Common.{subst, ◌∙◌, inl, inr, ⊎_elim, arith}
use Rattle.std.proofs.Math.Bridge.{le_prop}
use Rattle.std.proofs.lemmas.Bool.{le-leb, leb-true, cases_lt, cases_order, or_cases, or_left, or_right, and_parts, and_from, lt-ltb, ltb-true, eq-eqb, eqb-true}
use Rattle.charges.specs.Kinds.{Lawful}
use Rattle.charges.specs.Ranked.{Rank, rank, soft_part, soft_below_top, soft_at_top, soft_within, add_ranks, rank_at_most, ranks}

make : (h s : ℕ) → h ≤ 65535 → s ≤ 4294967295 → 4294967295 ≤ s + 4294967295 * (65535 - h) → Rank
make h s a b c = record { forbidden = h; soft = s; forbidden_within = a; soft_within = b; full = c }

same_made : (h s : ℕ) (a : h ≤ 65535) (b : s ≤ 4294967295) (c : 4294967295 ≤ s + 4294967295 * (65535 - h)) (h' : ℕ) → h ≡ h' → (s' : ℕ) → s ≡ s' → (a' : h' ≤ 65535) (b' : s' ≤ 4294967295) (c' : 4294967295 ≤ s' + 4294967295 * (65535 - h')) → make h s a b c ≡ make h' s' a' b' c'
same_made h s a b c h' e s' d =
    let P : ℕ → Type 0 = λ u. (a' : u ≤ 65535) (b' : s' ≤ 4294967295) (c' : 4294967295 ≤ s' + 4294967295 * (65535 - u)) → make h s a b c ≡ make u s' a' b' c' in
    let Q : ℕ → Type 0 = λ v. (a' : h ≤ 65535) (b' : v ≤ 4294967295) (c' : 4294967295 ≤ v + 4294967295 * (65535 - h)) → make h s a b c ≡ make h v a' b' c' in
    subst P e (subst Q d (λ a' b' c'. λ i. make h s (le_prop a a' i) (le_prop b b' i) (le_prop c c' i)))

pub same_rank : (x y : Rank) → x.forbidden ≡ y.forbidden → x.soft ≡ y.soft → x ≡ y
unfolding make
same_rank x y e d =
    same_made x.forbidden x.soft x.forbidden_within x.soft_within x.full y.forbidden e y.soft d y.forbidden_within y.soft_within y.full

-- the order as one of numbers
unfoldable pub weight : Rank → ℕ
weight x = x.forbidden * 4294967296 + x.soft

at_most_to : (x y : Rank) → rank_at_most x y ≡ true → weight x ≤ weight y
unfolding weight
at_most_to x y t = ⊎_elim
    (λ l. omega (arith, ltb-true x.forbidden y.forbidden l))
    (λ both.
    let parts = and_parts (x.forbidden == y.forbidden) (nat_le x.soft y.soft) both in
    omega (arith, eqb-true x.forbidden y.forbidden parts.0, leb-true x.soft y.soft parts.1))
    (or_cases (nat_lt x.forbidden y.forbidden) (x.forbidden == y.forbidden && nat_le x.soft y.soft) t)

pub at_most_from : (x y : Rank) → weight x ≤ weight y → rank_at_most x y ≡ true
unfolding weight
at_most_from x y h =
    let less = ltb x.forbidden y.forbidden in
    let rest = x.forbidden == y.forbidden && leb x.soft y.soft in
    ⊎_elim
    (λ e. or_right less rest (and_from (x.forbidden == y.forbidden) (nat_le x.soft y.soft) (eq-eqb x.forbidden y.forbidden e) (le-leb x.soft y.soft (omega arith))))
    (⊎_elim (λ l. or_left less rest (lt-ltb x.forbidden y.forbidden l)) (λ l. absurd (omega arith)))
    (cases_order x.forbidden y.forbidden)

add_soft : (x y z : Rank) → (add_ranks (add_ranks x y) z).soft ≡ (add_ranks x (add_ranks y z)).soft
add_soft x y z =
    let a = x.forbidden in let b = y.forbidden in let c = z.forbidden in
    let s = x.soft in let t = y.soft in let u = z.soft in
    ⊎_elim
    (λ l. omega (arith, soft_below_top (min (a + b) 65535 + c) (soft_part (a + b) (s + t) + u) (omega arith), soft_below_top (a + min (b + c) 65535) (s + soft_part (b + c) (t + u)) (omega arith), soft_below_top (a + b) (s + t) (omega arith), soft_below_top (b + c) (t + u) (omega arith)))
    (λ l. omega (arith, soft_at_top (min (a + b) 65535 + c) (soft_part (a + b) (s + t) + u) (omega arith), soft_at_top (a + min (b + c) 65535) (s + soft_part (b + c) (t + u)) (omega arith)))
    (cases_lt (a + b + c) 65535)

pub soft_stays : (x : Rank) → soft_part x.forbidden x.soft ≡ x.soft
soft_stays x = ⊎_elim
    (λ l. omega (arith, soft_below_top x.forbidden x.soft l))
    (λ l. omega (arith, soft_at_top x.forbidden x.soft l))
    (cases_lt x.forbidden 65535)

add_mono : (x y z : Rank) → weight x ≤ weight y → weight (add_ranks x z) ≤ weight (add_ranks y z)
unfolding weight
add_mono x y z h =
    let a = x.forbidden + z.forbidden in let b = y.forbidden + z.forbidden in
    let s = x.soft + z.soft in let t = y.soft + z.soft in
    ⊎_elim
    (λ l. omega (arith, soft_below_top b t l, soft_below_top a s (omega arith)))
    (λ l. omega (arith, soft_at_top b t l, soft_within a s))
    (cases_lt b 65535)

soft_same : (h s h' s' : ℕ) → h ≡ h' → s ≡ s' → soft_part h s ≡ soft_part h' s'
soft_same h s h' s' e d = cc

pub ranked_lawful : Lawful ranks
unfolding weight
ranked_lawful = record {
  associative = λ x y z. same_rank _ _ (omega arith) (add_soft x y z);
  commutative = λ x y. same_rank _ _ (omega arith) (soft_same (x.forbidden + y.forbidden) (x.soft + y.soft) (y.forbidden + x.forbidden) (y.soft + x.soft) (omega arith) (omega arith));
  neutral = λ x. same_rank _ _ (omega arith) (soft_same ((rank 0 0).forbidden + x.forbidden) ((rank 0 0).soft + x.soft) x.forbidden x.soft (omega arith) (omega (arith, soft_below_top 0 0 (omega arith))) ∙ soft_stays x);
  total = λ x y. ⊎_elim (λ h. inl (at_most_from x y (omega arith))) (λ h. inr (at_most_from y x h)) (cases_lt (weight x) (weight y));
  transitive = λ x y z p q. at_most_from x z (omega (arith, at_most_to x y p, at_most_to y z q));
  antisymmetric = λ x y p q. same_rank _ _ (omega (arith, at_most_to x y p, at_most_to y x q)) (omega (arith, at_most_to x y p, at_most_to y x q));
  least = λ x. at_most_from (rank 0 0) x (omega (arith, soft_below_top 0 0 (omega arith)));
  monotone = λ x y z p. at_most_from (add_ranks x z) (add_ranks y z) (add_mono x y z (at_most_to x y p));
  free = refl;
}
