-- How many beginnings are looked at below one.
use mathlib.Core.Path.{◌≡◌, refl, ap, ◌∙◌}
use mathlib.Core.List.{List, [], ◌∷◌, ◌++◌, map}
use mathlib.Core.Bool.{Bool, true, false, not, ◌&&◌, ◌||◌, cond}
use Prim.Native.Nat.{ℕ, zero, suc, ◌+◌}
use native.Mathlib.Omega.{arith}
use lib.ListN.{length, drop, length-append}
use Rattle.theory.specs.Tree.{beginnings, prefixes, bit, all_of}
use Rattle.theory.specs.Machine.{Problem, Walk, keep}
use Rattle.theory.specs.Finding.{count, each_has, clears, alive, goes, goes_on, looked_at}
use Rattle.theory.proofs.Lists.{count_map, count_none, count_each, total, total_same, total_none, all_append, prefixes_snoc}
use Rattle.theory.proofs.Keeps.{total_keep}

-- one branch: nothing, or its root and what is below
branch_size : (b : Bool) (t : List ℕ → Bool) (xs : List (List ℕ)) → bit (b && true) + count (λ s. b && t s) xs ≡ cond b (suc (count t xs)) 0
branch_size true t xs = omega arith
branch_size false t xs = let r = count_none xs in omega arith

pub regroup : (o a e k : Bool) → (o && (not a || (e && k))) ≡ ((o && (not a || e)) && (not a || k))
regroup true true true k = refl
regroup true true false k = refl
regroup true false e k = refl
regroup false a e k = refl

and_true : (b : Bool) → (b && true) ≡ b
and_true true = refl
and_true false = refl

total_cond : (b : Bool) (t : ℕ → Bool) (f : ℕ → ℕ) (d : List ℕ) → total (λ k. cond (b && t k) (f k) 0) d ≡ cond b (total f (keep t d)) 0
total_cond true t f d = total_keep t f d
total_cond false t f d = total_none d

module _ {V : Type 0} (P : Problem V) (W : Walk V) where
  -- p and what is looked at below it
  abbrev pub weight : List ℕ → List (List ℕ) → ℕ
  weight p ds = suc (count (goes_on P W p) (beginnings ds))

  -- k of module j is not struck at p
  abbrev pub stays : List ℕ → ℕ → ℕ → Bool
  stays p j k = not W.ahead || alive P W p j k

  -- p is opened, and is not closed for a module that lost all its settings
  abbrev pub opens : List ℕ → Bool
  opens p = clears P p (W.floor p) && (not W.ahead || each_has (alive P W p) (length p) (drop (length p) P.doms))

  pub weight_below : (p d : List ℕ) (ds : List (List ℕ)) → count (goes_on P W p) (beginnings (d ∷ ds)) ≡ cond (opens p) (total (λ k. weight (p ++ (k ∷ [])) ds) (keep (stays p (length p)) d)) 0
  weight_below p d ds =
      count_each (goes_on P W p) (λ k. (k ∷ []) ∷ map (λ s. k ∷ s) (beginnings ds)) d
      ∙ total_same (λ k. count (goes_on P W p) ((k ∷ []) ∷ map (λ s. k ∷ s) (beginnings ds))) (λ k. cond (opens p && stays p (length p) k) (weight (p ++ (k ∷ [])) ds) 0) one d
      ∙ total_cond (opens p) (stays p (length p)) (λ k. weight (p ++ (k ∷ [])) ds) d
    where
      one : (k : ℕ) → count (goes_on P W p) ((k ∷ []) ∷ map (λ s. k ∷ s) (beginnings ds)) ≡ cond (opens p && stays p (length p) k) (weight (p ++ (k ∷ [])) ds) 0
      one k = ap (λ n. bit (goes P W p k && true) + n) (count_map (goes_on P W p) (λ s. k ∷ s) (beginnings ds))
          ∙ branch_size (goes P W p k) (goes_on P W (p ++ (k ∷ []))) (beginnings ds)
          ∙ ap (λ b. cond b (weight (p ++ (k ∷ [])) ds) 0)
          (regroup (clears P p (W.floor p)) W.ahead (each_has (alive P W p) (length p) (drop (length p) P.doms)) (alive P W p (length p) k))

  pub weight_all : (d : List ℕ) (ds : List (List ℕ)) → count (looked_at P W) (beginnings (d ∷ ds)) ≡ total (λ k. weight (k ∷ []) ds) d
  weight_all d ds =
      count_each (looked_at P W) (λ k. (k ∷ []) ∷ map (λ s. k ∷ s) (beginnings ds)) d
      ∙ total_same (λ k. count (looked_at P W) ((k ∷ []) ∷ map (λ s. k ∷ s) (beginnings ds))) (λ k. weight (k ∷ []) ds) one d
    where
      one : (k : ℕ) → count (looked_at P W) ((k ∷ []) ∷ map (λ s. k ∷ s) (beginnings ds)) ≡ weight (k ∷ []) ds
      one k = let r = count_map (looked_at P W) (λ s. k ∷ s) (beginnings ds) in omega arith

  -- one setting more strikes by one answer more
  pub alive_snoc : (p : List ℕ) (a j k : ℕ) → alive P W (p ++ (a ∷ [])) j k ≡ (alive P W p j k && clears P (p ++ (a ∷ [])) (W.answer (p ++ (a ∷ [])) j k))
  alive_snoc p a j k =
      let t : List ℕ → Bool = λ q. clears P q (W.answer q j k) in
      ap (all_of t) (prefixes_snoc p a) ∙ all_append t (prefixes p) ((p ++ (a ∷ [])) ∷ []) ∙ ap (λ b. all_of t (prefixes p) && b) (and_true (t (p ++ (a ∷ []))))

pub length_snoc : (p : List ℕ) (a : ℕ) → length (p ++ (a ∷ [])) ≡ suc (length p)
length_snoc p a = let e = length-append p (a ∷ []) in omega arith

pub drop_next : {A : Type 0} (n : ℕ) (l : List A) (d : A) (ds : List A) → drop n l ≡ d ∷ ds → drop (suc n) l ≡ ds
drop_next zero [] d ds e = cc
drop_next zero (x ∷ l) d ds e = cc
drop_next (suc n) [] d ds e = cc
drop_next (suc n) (x ∷ l) d ds e = drop_next n l d ds e
