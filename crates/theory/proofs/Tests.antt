-- Tests and orders.
use mathlib.Core.Path.{◌≡◌, refl, sym, subst}
use mathlib.Core.Logic.{◌⊎◌, inl, inr}
use mathlib.Core.Bool.{Bool, true, false, not, ◌&&◌, ◌||◌}
use lib.Dec.{T, T_not, not_T}
use Rattle.theory.specs.Order.{Order, below}

pub either : (b : Bool) → T b ⊎ T (not b)
either true = inl tt
either false = inr tt

pub known : (b : Bool) → (b ≡ true) ⊎ (b ≡ false)
known true = inl refl
known false = inr refl

pub T_true : (b : Bool) → T b → b ≡ true
T_true true h = refl
T_true false h = absurd h

pub T_false : (b : Bool) → T (not b) → b ≡ false
T_false true h = absurd h
T_false false h = refl

pub T_of : (b : Bool) → b ≡ true → T b
T_of b e = subst T (sym e) tt

pub and_in : (a b : Bool) → T a → T b → T (a && b)
and_in true b h k = k
and_in false b h k = h

pub and_out : (a b : Bool) → T (a && b) → T a × T b
and_out true b h = (tt, h)
and_out false b h = absurd h

pub or_in : (a b : Bool) → T a ⊎ T b → T (a || b)
or_in true b h = tt
or_in false b (inl h) = absurd h
or_in false b (inr h) = h

pub or_out : (a b : Bool) → T (a || b) → T a ⊎ T b
or_out true b h = inl tt
or_out false b h = inr h

-- two tests that pass together are one
pub same_test : (a b : Bool) → (T a → T b) → (T b → T a) → a ≡ b
same_test true true f g = refl
same_test true false f g = absurd (f tt)
same_test false true f g = absurd (g tt)
same_test false false f g = refl

pub not_not : (b : Bool) → T (not (not b)) → T b
not_not true h = tt
not_not false h = h

module _ {V : Type 0} (at_most : V → V → Bool) (O : Order at_most) where
  pub reflexive : (a : V) → T (at_most a a)
  reflexive a = elim (O.total a a) [ inl h ↦ h | inr h ↦ h ]

  -- below, and then at most
  pub below_at_most : (a b c : V) → T (below at_most a b) → T (at_most b c) → T (below at_most a c)
  below_at_most a b c h k = not_T (at_most c a) (λ g. T_not (at_most b a) h (O.trans b c a k g))

  pub at_most_below : (a b c : V) → T (at_most a b) → T (below at_most b c) → T (below at_most a c)
  at_most_below a b c h k = not_T (at_most c a) (λ g. T_not (at_most c b) k (O.trans c a b g h))

  pub weaken : (a b : V) → T (below at_most a b) → T (at_most a b)
  weaken a b h = elim (O.total a b) [ inl k ↦ k | inr k ↦ absurd (T_not (at_most b a) h k) ]

  pub not_below : (a b : V) → T (not (below at_most a b)) → T (at_most b a)
  not_below a b h = not_not (at_most b a) h
