-- The reading order.
use mathlib.Core.Path.{◌≡◌, refl, sym, subst, ap₂, ◌∙◌}
use mathlib.Core.List.{List, [], ◌∷◌, ◌++◌, append_assoc}
use mathlib.Core.Logic.{◌⊎◌, inl, inr}
use mathlib.Core.Bool.{not, ◌&&◌}
use Prim.Native.Nat.{ℕ, ◌<◌}
use native.Mathlib.Omega.{arith}
use lib.Dec.{T, ltb, eqb, ltb→lt, lt→ltb, eqb→eq, eqb_refl, nltb→le}
use Rattle.theory.specs.Tree.{Fits, earlier}
use Rattle.theory.proofs.Tests.{and_in, and_out, or_in, or_out, either}

-- the first difference is here, or further on
pub earlier_out : (x k : ℕ) (xs ks : List ℕ) → T (earlier (x ∷ xs) (k ∷ ks)) → (x < k) ⊎ ((x ≡ k) × T (earlier xs ks))
earlier_out x k xs ks h = elim (or_out (ltb x k) (eqb x k && earlier xs ks) h) [
  | inl l ↦ inl (ltb→lt x k l)
  | inr r ↦ inr (let e = and_out (eqb x k) (earlier xs ks) r in (eqb→eq x k e.0, e.1))
]

pub earlier_here : (x k : ℕ) (xs ks : List ℕ) → x < k → T (earlier (x ∷ xs) (k ∷ ks))
earlier_here x k xs ks l = or_in (ltb x k) (eqb x k && earlier xs ks) (inl (lt→ltb x k l))

pub earlier_on : (k : ℕ) (xs ks : List ℕ) → T (earlier xs ks) → T (earlier (k ∷ xs) (k ∷ ks))
earlier_on k xs ks h = or_in (ltb k k) (eqb k k && earlier xs ks) (inr (and_in (eqb k k) (earlier xs ks) (eqb_refl k) h))

pub earlier_on_eq : (x k : ℕ) (xs ks : List ℕ) → x ≡ k → T (earlier xs ks) → T (earlier (x ∷ xs) (k ∷ ks))
earlier_on_eq x k xs ks e h = subst (λ z. T (earlier (x ∷ xs) (z ∷ ks))) e (earlier_on x xs ks h)

pub earlier_trans : (x y z : List ℕ) → T (earlier x y) → T (earlier y z) → T (earlier x z)
earlier_trans [] y z h k = absurd h
earlier_trans (a ∷ x) [] z h k = absurd h
earlier_trans (a ∷ x) (b ∷ y) [] h k = absurd k
earlier_trans (a ∷ x) (b ∷ y) (c ∷ z) h k = go (earlier_trans x y z) (earlier_out a b x y h) (earlier_out b c y z k)
  where
    go : (T (earlier x y) → T (earlier y z) → T (earlier x z)) → (a < b) ⊎ ((a ≡ b) × T (earlier x y)) → (b < c) ⊎ ((b ≡ c) × T (earlier y z)) → T (earlier (a ∷ x) (c ∷ z))
    go rest (inl l) (inl m) = earlier_here a c x z (omega arith)
    go rest (inl l) (inr m) = earlier_here a c x z (omega arith)
    go rest (inr l) (inl m) = earlier_here a c x z (omega arith)
    go rest (inr l) (inr m) = earlier_on_eq a c x z (l.0 ∙ m.0) (rest l.1 m.1)

pub earlier_not_self : (x : List ℕ) → T (earlier x x) → ⊥
earlier_not_self [] h = h
earlier_not_self (a ∷ x) h = elim (earlier_out a a x x h) [ inl l ↦ omega arith | inr r ↦ earlier_not_self x r.1 ]

-- after the same beginning p
pub earlier_under : (p s t : List ℕ) → T (earlier s t) → T (earlier (p ++ s) (p ++ t))
earlier_under [] s t h = h
earlier_under (a ∷ p) s t h = earlier_on a (p ++ s) (p ++ t) (earlier_under p s t h)

pub not_under : (a : ℕ) → a < a → ⊥
not_under a l = omega arith

pub earlier_cancel : (p s t : List ℕ) → T (earlier (p ++ s) (p ++ t)) → T (earlier s t)
earlier_cancel [] s t h = h
earlier_cancel (a ∷ p) s t h = elim (earlier_out a a (p ++ s) (p ++ t) h) [ inl l ↦ absurd (not_under a l) | inr r ↦ earlier_cancel p s t r.1 ]

-- earlier than p, so earlier than what goes on from p
pub earlier_longer : (y p s : List ℕ) → T (earlier y p) → T (earlier y (p ++ s))
earlier_longer [] p s h = absurd h
earlier_longer (x ∷ y) [] s h = absurd h
earlier_longer (x ∷ y) (a ∷ p) s h = elim (earlier_out x a y p h) [
  | inl l ↦ earlier_here x a y (p ++ s) l
  | inr r ↦ earlier_on_eq x a y (p ++ s) r.0 (earlier_longer y p s r.1)
]

-- of two setups one reads earlier, or they are one
pub three_ways : (ds : List (List ℕ)) (x y : List ℕ) → Fits x ds → Fits y ds → (T (earlier x y) ⊎ T (earlier y x)) ⊎ (x ≡ y)
three_ways [] [] [] f g = inr refl
three_ways [] [] (b ∷ y) f g = absurd g
three_ways [] (a ∷ x) y f g = absurd f
three_ways (d ∷ ds) [] y f g = absurd f
three_ways (d ∷ ds) (a ∷ x) [] f g = absurd g
three_ways (d ∷ ds) (a ∷ x) (b ∷ y) f g = go (three_ways ds x y f.1 g.1) (either (ltb a b)) (either (ltb b a))
  where
    go : (T (earlier x y) ⊎ T (earlier y x)) ⊎ (x ≡ y) → T (ltb a b) ⊎ T (not (ltb a b)) → T (ltb b a) ⊎ T (not (ltb b a))
        → (T (earlier (a ∷ x) (b ∷ y)) ⊎ T (earlier (b ∷ y) (a ∷ x))) ⊎ (Path (List ℕ) (a ∷ x) (b ∷ y))
    go r (inl l) k = inl (inl (earlier_here a b x y (ltb→lt a b l)))
    go r (inr l) (inl k) = inl (inr (earlier_here b a y x (ltb→lt b a k)))
    go (inl (inl r)) (inr l) (inr k) = inl (inl (earlier_on_eq a b x y (omega (arith, nltb→le a b l, nltb→le b a k)) r))
    go (inl (inr r)) (inr l) (inr k) = inl (inr (earlier_on_eq b a y x (omega (arith, nltb→le a b l, nltb→le b a k)) r))
    go (inr r) (inr l) (inr k) = let e : a ≡ b = omega (arith, nltb→le a b l, nltb→le b a k) in inr (cc)

-- not later than what starts with p
abbrev pub Upto : List ℕ → List ℕ → Type 0
Upto p y = T (earlier y p) ⊎ ((s : List ℕ) × (y ≡ p ++ s))

-- a beginning of less
pub upto_cut : (y p s : List ℕ) → T (earlier y (p ++ s)) → Upto p y
upto_cut y [] s h = inr (y, refl)
upto_cut [] (a ∷ p) s h = absurd h
upto_cut (x ∷ y) (a ∷ p) s h = go (upto_cut y p s) (earlier_out x a y (p ++ s) h)
  where
    go : (T (earlier y (p ++ s)) → Upto p y) → (x < a) ⊎ ((x ≡ a) × T (earlier y (p ++ s))) → Upto (a ∷ p) (x ∷ y)
    go rest (inl l) = inl (earlier_here x a y p l)
    go rest (inr r) = elim (rest r.1) [
      | inl e ↦ inl (earlier_on_eq x a y p r.0 e)
      | inr t ↦ inr (t.0, ap₂ ◌∷◌ r.0 t.1)
    ]

pub snoc_on : (p : List ℕ) (a : ℕ) (s : List ℕ) → (p ++ (a ∷ [])) ++ s ≡ p ++ (a ∷ s)
snoc_on p a s = append_assoc p (a ∷ []) s

pub upto_up : (y p : List ℕ) (a : ℕ) → Upto (p ++ (a ∷ [])) y → Upto p y
upto_up y p a (inl e) = upto_cut y p (a ∷ []) e
upto_up y p a (inr t) = inr (a ∷ t.0, t.1 ∙ snoc_on p a t.0)

pub upto_sibling : (y p : List ℕ) (a k : ℕ) → a < k → Upto (p ++ (a ∷ [])) y → T (earlier y (p ++ (k ∷ [])))
upto_sibling y p a k l (inl e) = sideways y p e
  where
    sideways : (y p : List ℕ) → T (earlier y (p ++ (a ∷ []))) → T (earlier y (p ++ (k ∷ [])))
    sideways [] p e = absurd e
    sideways (x ∷ y) [] e = elim (earlier_out x a y [] e) [ inl m ↦ earlier_here x k y [] (omega arith) | inr r ↦ absurd (none y r.1) ]
      where
        none : (y : List ℕ) → T (earlier y []) → ⊥
        none [] h = h
        none (b ∷ y) h = h
    sideways (x ∷ y) (b ∷ p) e = elim (earlier_out x b y (p ++ (a ∷ [])) e) [
      | inl m ↦ earlier_here x b y (p ++ (k ∷ [])) m
      | inr r ↦ earlier_on_eq x b y (p ++ (k ∷ [])) r.0 (sideways y p r.1)
    ]
upto_sibling y p a k l (inr t) =
    subst (λ z. T (earlier z (p ++ (k ∷ [])))) (sym (t.1 ∙ snoc_on p a t.0)) (earlier_under p (a ∷ t.0) (k ∷ []) (earlier_here a k t.0 [] l))

-- what reads earlier than something up to w is up to w
pub upto_down : (w x y : List ℕ) → Upto w x → T (earlier y x) → Upto w y
upto_down w x y (inl e) h = inl (earlier_trans y x w h e)
upto_down w x y (inr t) h = upto_cut y w t.0 (subst (λ z. T (earlier y z)) t.1 h)

-- an allowed setup does not go on
pub fits_end : (ds : List (List ℕ)) (w s : List ℕ) → Fits w ds → Fits (w ++ s) ds → s ≡ []
fits_end [] [] [] f g = refl
fits_end [] [] (x ∷ s) f g = absurd g
fits_end [] (a ∷ w) s f g = absurd f
fits_end (d ∷ ds) [] s f g = absurd f
fits_end (d ∷ ds) (a ∷ w) s f g = fits_end ds w s f.1 g.1
