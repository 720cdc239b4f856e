-- Numbers up to a greatest one, with a sum that stops or with the greater of two, keep the laws of a kind.
use Rattle.std.specs.Prelude.{◌≡◌, ℕ, ◌≤◌, true, ◌⊎◌}
use Rattle.std.proofs.Common.{ap, subst, inl, inr, ⊎_elim, arith}
use Rattle.std.proofs.Math.Bridge.{le_prop}
use Rattle.std.proofs.lemmas.Bool.{le-leb, leb-true, cases_lt}
use Rattle.charges.specs.Kinds.{Kind, Lawful}
use Rattle.charges.specs.Capped.{Capped, capped, add, greater, no_more}

make : (most n : ℕ) → n ≤ most → Capped most
make most n h = record { number = n; within = h }

same_made : (most n m : ℕ) → n ≡ m → (h : n ≤ most) (k : m ≤ most) → make most n h ≡ make most m k
same_made most n m e h =
    let P : ℕ → Type 0 = λ v. (k : v ≤ most) → make most n h ≡ make most v k in
    subst P e (λ k. ap (make most n) (le_prop h k))

-- two with one number are one charge
pub same_capped : {most : ℕ} (x y : Capped most) → x.number ≡ y.number → x ≡ y
unfolding make
same_capped {most} x y e = same_made most x.number y.number e x.within y.within

-- the order of numbers
total : (most : ℕ) (x y : Capped most) → (no_more most x y ≡ true) ⊎ (no_more most y x ≡ true)
total most x y = ⊎_elim (λ h. inl (le-leb _ _ (omega arith))) (λ h. inr (le-leb _ _ h)) (cases_lt x.number y.number)

transitive : (most : ℕ) (x y z : Capped most) → no_more most x y ≡ true → no_more most y z ≡ true → no_more most x z ≡ true
transitive most x y z p q = le-leb _ _ (omega (arith, leb-true _ _ p, leb-true _ _ q))

antisymmetric : (most : ℕ) (x y : Capped most) → no_more most x y ≡ true → no_more most y x ≡ true → x ≡ y
antisymmetric most x y p q = same_capped _ _ (omega (arith, leb-true _ _ p, leb-true _ _ q))

least : (most : ℕ) (x : Capped most) → no_more most (capped most 0) x ≡ true
least most x = le-leb _ _ (omega arith)

-- sums that stop, with any charges of entries that let entry 0 go free
abbrev adding : (most : ℕ) → (ℕ → Capped most) → Kind
adding most charge = record { V = Capped most; zero = capped most 0; join = add most; at_most = no_more most; entry = charge }

pub adding_lawful : (most : ℕ) (charge : ℕ → Capped most) → charge 0 ≡ capped most 0 → Lawful (adding most charge)
adding_lawful most charge none = record {
  associative = λ x y z. same_capped _ _ (omega arith);
  commutative = λ x y. same_capped _ _ (omega arith);
  neutral = λ x. same_capped _ _ (omega arith);
  total = total most;
  transitive = transitive most;
  antisymmetric = antisymmetric most;
  least = least most;
  monotone = λ x y z p. le-leb _ _ (omega (arith, leb-true _ _ p));
  free = none;
}

-- the greater of two, with such charges of entries
abbrev taking_greater : (most : ℕ) → (ℕ → Capped most) → Kind
taking_greater most charge = record { V = Capped most; zero = capped most 0; join = greater most; at_most = no_more most; entry = charge }

pub greater_lawful : (most : ℕ) (charge : ℕ → Capped most) → charge 0 ≡ capped most 0 → Lawful (taking_greater most charge)
greater_lawful most charge none = record {
  associative = λ x y z. same_capped _ _ (omega arith);
  commutative = λ x y. same_capped _ _ (omega arith);
  neutral = λ x. same_capped _ _ (omega arith);
  total = total most;
  transitive = transitive most;
  antisymmetric = antisymmetric most;
  least = least most;
  monotone = λ x y z p. le-leb _ _ (omega (arith, leb-true _ _ p));
  free = none;
}
