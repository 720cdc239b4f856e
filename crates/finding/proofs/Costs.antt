-- Problems whose costs agree on every allowed setup.
use Rattle.std.proofs.Common.{◌≡◌, ℕ, Bool, not, ◌&&◌, ◌||◌, T, List, [], ◌∷◌, ◌++◌, length, drop, sym, refl, ap, ◌∙◌, subst, ap₂}
use mathlib.Core.Option.{Option, some, none}
use Rattle.theory.specs.Order.{below}
use Rattle.theory.specs.Tree.{Fits, earlier, setups, beginnings, prefixes, all_of}
use Rattle.theory.specs.Machine.{Problem, Walk}
use Rattle.theory.specs.Finding.{Cheapest, clears, each_has, alive, goes, goes_on, looked_at, looks}
use Rattle.theory.proofs.Tests.{same_test}
use Rattle.theory.proofs.Lists.{all_setups, setups_all, count_same}

all_same : (t t' : List ℕ → Bool) (ds : List (List ℕ)) → ((y : List ℕ) → Fits y ds → t y ≡ t' y) → all_of t (setups ds) ≡ all_of t' (setups ds)
all_same t t' ds h = same_test (all_of t (setups ds)) (all_of t' (setups ds))
    (λ a. setups_all t' ds (λ y f. subst T (h y f) (all_setups t ds a y f)))
    (λ a. setups_all t ds (λ y f. subst T (sym (h y f)) (all_setups t' ds a y f)))

module _ {V : Type 0} (at_most : V → V → Bool) (doms : List (List ℕ)) (ceiling : V) (cost cost' : List ℕ → V) (same : (y : List ℕ) → Fits y doms → cost' y ≡ cost y) where
  abbrev P : Problem V
  P = record { at_most = at_most; doms = doms; cost = cost; ceiling = ceiling }

  abbrev P' : Problem V
  P' = record { at_most = at_most; doms = doms; cost = cost'; ceiling = ceiling }

  pub cheapest_same : (S : List ℕ → Type 0) (best : Option (List ℕ)) (limit : V) → Cheapest P' S best limit → Cheapest P S best limit
  cheapest_same S none limit c = (c.0, λ y f h. subst (λ v. T (at_most ceiling v)) (same y f) (c.1 y f h))
  cheapest_same S (some x) limit c = (
    c.0,
    c.1,
    sym (same x c.0) ∙ c.2,
    c.3,
    (λ y f h. subst (λ v. T (at_most limit v)) (same y f) (c.4 y f h)),
    (λ y f h e. subst (λ v. T (below at_most limit v)) (same y f) (c.5 y f h e)),
  )

  clears_same : clears P' ≡ clears P
  clears_same i p v = below at_most v ceiling && all_same (λ y. not (earlier y p) || below at_most v (cost' y)) (λ y. not (earlier y p) || below at_most v (cost y)) doms
      (λ y f. ap (λ c. not (earlier y p) || below at_most v c) (same y f)) i

  module _ (W : Walk V) where
    alive_same : alive P' W ≡ alive P W
    alive_same i p j k = all_of (λ q. clears_same i q (W.answer q j k)) (prefixes p)

    goes_same : (p : List ℕ) (k : ℕ) → goes P' W p k ≡ goes P W p k
    goes_same p k i = clears_same i p (W.floor p) && (not W.ahead || (each_has (alive_same i p) (length p) (drop (length p) doms) && alive_same i p (length p) k))

    goes_on_same : (p s : List ℕ) → goes_on P' W p s ≡ goes_on P W p s
    goes_on_same p [] = refl
    goes_on_same p (k ∷ s) = ap₂ ◌&&◌ (goes_same p k) (goes_on_same (p ++ (k ∷ [])) s)

    looked_same : (b : List ℕ) → looked_at P' W b ≡ looked_at P W b
    looked_same [] = refl
    looked_same (k ∷ s) = goes_on_same (k ∷ []) s

    pub looks_same : looks P' W ≡ looks P W
    looks_same = count_same (looked_at P' W) (looked_at P W) looked_same (beginnings doms)
