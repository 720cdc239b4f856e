-- How the best so far changes as more setups are taken in.
use mathlib.Core.Path.{◌≡◌, refl, sym, subst, ap, ◌∙◌}
use mathlib.Core.List.{List, [], ◌++◌, append-nil}
use mathlib.Core.Logic.{◌⊎◌, inl, inr}
use mathlib.Core.Bool.{Bool, not, ◌||◌}
use mathlib.Core.Option.{Option, some, none}
use Prim.Native.Nat.{ℕ}
use lib.Dec.{T, T_not}
use Rattle.theory.specs.Order.{Order, below}
use Rattle.theory.specs.Tree.{Fits, earlier, setups, all_of}
use Rattle.theory.specs.Machine.{Problem}
use Rattle.theory.specs.Finding.{Cheapest, clears}
use Rattle.theory.proofs.Tests.{and_in, and_out, or_in, or_out, same_test, either, reflexive, below_at_most, weaken}
use Rattle.theory.proofs.Reading.{Upto, fits_end, three_ways}
use Rattle.theory.proofs.Lists.{all_setups, setups_all}

module _ {V : Type 0} (P : Problem V) (O : Order P.at_most) where
  -- no setup that was taken in is cheaper than the limit
  pub no_cheaper : (S : List ℕ → Type 0) (best : Option (List ℕ)) (limit : V) → Cheapest P S best limit
      → (y : List ℕ) → Fits y P.doms → S y → T (P.at_most limit (P.cost y))
  no_cheaper S none limit c y f h = subst (λ v. T (P.at_most v (P.cost y))) (sym c.0) (c.1 y f h)
  no_cheaper S (some x) limit c y f h = c.4 y f h

  pub under_ceiling : (S : List ℕ → Type 0) (best : Option (List ℕ)) (limit : V) → Cheapest P S best limit → T (P.at_most limit P.ceiling)
  under_ceiling S none limit c = subst (λ v. T (P.at_most limit v)) c.0 (reflexive P.at_most O limit)
  under_ceiling S (some x) limit c = weaken P.at_most O limit P.ceiling c.3

  -- what is taken in besides costs no less than the limit
  pub grow : (S S' : List ℕ → Type 0) (best : Option (List ℕ)) (limit : V) → Cheapest P S best limit
      → ((x y : List ℕ) → S x → T (earlier y x) → S y)
      → ((y : List ℕ) → S y → S' y)
      → ((y : List ℕ) → Fits y P.doms → S' y → S y ⊎ T (P.at_most limit (P.cost y)))
      → Cheapest P S' best limit
  grow S S' none limit c closed more costly = (
    c.0,
    λ y f h. elim (costly y f h) [
      | inl k ↦ c.1 y f k
      | inr k ↦ subst (λ v. T (P.at_most v (P.cost y))) c.0 k
    ],
  )
  grow S S' (some x) limit c closed more costly = (
    c.0,
    more x c.1,
    c.2,
    c.3,
    (λ y f h. elim (costly y f h) [ inl k ↦ c.4 y f k | inr k ↦ k ]),
    (λ y f h e. c.5 y f (closed x y c.1 e) e),
  )

  -- a setup that is cheaper than all before it
  pub improve : (w : List ℕ) (best : Option (List ℕ)) (limit : V) → Cheapest P (λ y. T (earlier y w)) best limit
      → Fits w P.doms → T (below P.at_most (P.cost w) limit) → Cheapest P (Upto w) (some w) (P.cost w)
  improve w best limit c f l = (
    f,
    inr ([], sym (append-nil w)),
    refl,
    below_at_most P.at_most O (P.cost w) limit P.ceiling l (under_ceiling (λ y. T (earlier y w)) best limit c),
    (λ y g u. least y g u),
    (λ y g u e. before y g e),
  )
    where
      before : (y : List ℕ) → Fits y P.doms → T (earlier y w) → T (below P.at_most (P.cost w) (P.cost y))
      before y g e = below_at_most P.at_most O (P.cost w) limit (P.cost y) l (no_cheaper (λ y. T (earlier y w)) best limit c y g e)

      least : (y : List ℕ) → Fits y P.doms → Upto w y → T (P.at_most (P.cost w) (P.cost y))
      least y g (inl e) = weaken P.at_most O (P.cost w) (P.cost y) (before y g e)
      least y g (inr t) =
          let s_nil : t.0 ≡ [] = fits_end P.doms w t.0 f (subst (λ z. Fits z P.doms) t.1 g) in
          let same : y ≡ w = t.1 ∙ ap (λ s. w ++ s) s_nil ∙ append-nil w in
          subst (λ z. T (P.at_most (P.cost w) (P.cost z))) (sym same) (reflexive P.at_most O (P.cost w))

  -- to be below the limit is to be below the ceiling and below all charges so far
  pub clears_is : (w : List ℕ) (best : Option (List ℕ)) (limit : V) → Cheapest P (λ y. T (earlier y w)) best limit
      → (v : V) → below P.at_most v limit ≡ clears P w v
  clears_is w best limit c v = same_test (below P.at_most v limit) (clears P w v) there (back best c)
    where
      passes : List ℕ → Bool
      passes y = not (earlier y w) || below P.at_most v (P.cost y)

      there : T (below P.at_most v limit) → T (clears P w v)
      there h = and_in (below P.at_most v P.ceiling) (all_of passes (setups P.doms))
          (below_at_most P.at_most O v limit P.ceiling h (under_ceiling (λ y. T (earlier y w)) best limit c))
          (setups_all passes P.doms (λ y f. or_in (not (earlier y w)) (below P.at_most v (P.cost y)) (elim (either (earlier y w)) [
            | inl e ↦ inr (below_at_most P.at_most O v limit (P.cost y) h (no_cheaper (λ y. T (earlier y w)) best limit c y f e))
            | inr e ↦ inl e
          ])))

      back : (best : Option (List ℕ)) → Cheapest P (λ y. T (earlier y w)) best limit → T (clears P w v) → T (below P.at_most v limit)
      back none c h = subst (λ u. T (below P.at_most v u)) (sym c.0) (and_out (below P.at_most v P.ceiling) (all_of passes (setups P.doms)) h).0
      back (some x) c h =
          let all_pass = (and_out (below P.at_most v P.ceiling) (all_of passes (setups P.doms)) h).1 in
          elim (or_out (not (earlier x w)) (below P.at_most v (P.cost x)) (all_setups passes P.doms all_pass x c.0)) [
            | inl e ↦ absurd (T_not (earlier x w) e c.1)
            | inr e ↦ subst (λ u. T (below P.at_most v u)) c.2 e
          ]

  -- over all setups there is one answer
  pub one_answer : (best best' : Option (List ℕ)) (limit limit' : V) → Cheapest P (λ y. Unit {0}) best limit → Cheapest P (λ y. Unit {0}) best' limit'
      → (best ≡ best') × (limit ≡ limit')
  one_answer none none l l' c c' = (refl, c.0 ∙ sym c'.0)
  one_answer none (some x) l l' c c' =
      absurd (T_not (P.at_most P.ceiling l') c'.3 (subst (λ v. T (P.at_most P.ceiling v)) c'.2 (c.1 x c'.0 tt)))
  one_answer (some x) none l l' c c' =
      absurd (T_not (P.at_most P.ceiling l) c.3 (subst (λ v. T (P.at_most P.ceiling v)) c.2 (c'.1 x c.0 tt)))
  one_answer (some x) (some x') l l' c c' = go (three_ways P.doms x x' c.0 c'.0)
    where
      equal : l ≡ l'
      equal = PSame
        where
          PSame : l ≡ l'
          PSame = O.same l l' (subst (λ v. T (P.at_most l v)) c'.2 (c.4 x' c'.0 tt)) (subst (λ v. T (P.at_most l' v)) c.2 (c'.4 x c.0 tt))

      clash : (y : List ℕ) (v u : V) → P.cost y ≡ u → v ≡ u → T (below P.at_most v (P.cost y)) → ⊥
      clash y v u e d h = T_not (P.at_most (P.cost y) v) h (subst (λ z. T (P.at_most (P.cost y) z)) (e ∙ sym d) (reflexive P.at_most O (P.cost y)))

      go : (T (earlier x x') ⊎ T (earlier x' x)) ⊎ (x ≡ x') → (Path (Option (List ℕ)) (some x) (some x')) × (l ≡ l')
      go (inl (inl e)) = absurd (clash x l' l c.2 (sym equal) (c'.5 x c.0 tt e))
      go (inl (inr e)) = absurd (clash x' l l' c'.2 equal (c.5 x' c'.0 tt e))
      go (inr e) = (ap {B = Option (List ℕ)} some e, equal)
