-- Two finished searches.
use mathlib.Core.Path.{◌≡◌, sym, subst}
use mathlib.Core.List.{List, [], ◌∷◌, ◌++◌}
use mathlib.Core.Logic.{inl, inr}
use mathlib.Core.Bool.{false, not, ◌&&◌, ◌||◌}
use Prim.Native.Nat.{ℕ, ◌+◌, ◌≤◌}
use native.Mathlib.Omega.{arith}
use lib.Dec.{T}
use lib.ListN.{length, drop}
use Rattle.theory.specs.Order.{below}
use Rattle.theory.specs.Tree.{Begins, Filled, earlier, setups, all_of}
use Rattle.theory.specs.Machine.{Problem, Walk, Posed, Lawful, after}
use Rattle.theory.specs.Finding.{each_has, clears, Cheapest, alive, goes, goes_on, looked_at, looks, Finished, Agree}
use Rattle.theory.proofs.Tests.{and_in, and_out, or_in, or_out, at_most_below}
use Rattle.theory.proofs.Lists.{all_setups, setups_all, count_more}
use Rattle.theory.proofs.Best.{one_answer}
use Rattle.theory.proofs.Stack.{Past}
use Rattle.theory.proofs.Invariant.{always, snoc_filled}
use Rattle.theory.proofs.Reading.{snoc_on}
use Rattle.theory.proofs.Tally.{always_tallies, to_come}

begins_cut : (p s : List ℕ) (ds : List (List ℕ)) → Begins (p ++ s) ds → Begins p ds
begins_cut [] s ds g = tt
begins_cut (x ∷ p) s [] g = absurd g
begins_cut (x ∷ p) s (d ∷ ds) g = (g.0, begins_cut p s ds g.1)

module _ {V : Type 0} (P : Problem V) (posed : Posed P) where
  -- what is lower clears more
  clears_lower : (p : List ℕ) (v v' : V) → T (P.at_most v' v) → T (clears P p v) → T (clears P p v')
  clears_lower p v v' l h =
      let e = and_out (below P.at_most v P.ceiling) (all_of (λ y. not (earlier y p) || below P.at_most v (P.cost y)) (setups P.doms)) h in
      and_in (below P.at_most v' P.ceiling) (all_of (λ y. not (earlier y p) || below P.at_most v' (P.cost y)) (setups P.doms))
      (at_most_below P.at_most posed.order v' v P.ceiling l e.0)
      (setups_all (λ y. not (earlier y p) || below P.at_most v' (P.cost y)) P.doms (λ y f.
      or_in (not (earlier y p)) (below P.at_most v' (P.cost y))
      (elim (or_out (not (earlier y p)) (below P.at_most v (P.cost y)) (all_setups (λ y. not (earlier y p) || below P.at_most v (P.cost y)) P.doms e.1 y f)) [
        | inl a ↦ inl a
        | inr a ↦ inr (at_most_below P.at_most posed.order v' v (P.cost y) l a)
      ])))

  module _ (W W' : Walk V) (plain : W'.ahead ≡ false) (lower : (b : List ℕ) → Filled b → Begins b P.doms → T (P.at_most (W'.floor b) (W.floor b))) where
    goes_more : (p : List ℕ) (k : ℕ) → Filled p → Begins p P.doms → T (goes P W p k) → T (goes P W' p k)
    goes_more p k n g h = and_in (clears P p (W'.floor p)) (not W'.ahead || (each_has (alive P W' p) (length p) (drop (length p) P.doms) && alive P W' p (length p) k))
        (clears_lower p (W.floor p) (W'.floor p) (lower p n g) (and_out (clears P p (W.floor p)) (not W.ahead || (each_has (alive P W p) (length p) (drop (length p) P.doms) && alive P W p (length p) k)) h).0)
        (subst (λ b. T (not b || (each_has (alive P W' p) (length p) (drop (length p) P.doms) && alive P W' p (length p) k))) (sym plain) tt)

    goes_on_more : (p s : List ℕ) → Filled p → Begins (p ++ s) P.doms → T (goes_on P W p s) → T (goes_on P W' p s)
    goes_on_more p [] n g h = tt
    goes_on_more p (k ∷ s) n g h =
        let e = and_out (goes P W p k) (goes_on P W (p ++ (k ∷ [])) s) h in
        and_in (goes P W' p k) (goes_on P W' (p ++ (k ∷ [])) s) (goes_more p k n (begins_cut p (k ∷ s) P.doms g) e.0)
        (goes_on_more (p ++ (k ∷ [])) s (snoc_filled p k) (subst (λ z. Begins z P.doms) (sym (snoc_on p k s)) g) e.1)

    looked_more : (b : List ℕ) → Filled b → Begins b P.doms → T (looked_at P W b) → T (looked_at P W' b)
    looked_more [] n g h = absurd n
    looked_more (k ∷ s) n g h = goes_on_more (k ∷ []) s tt g h

    pub looks_more : looks P W ≤ looks P W'
    looks_more = count_more (looked_at P W) (looked_at P W') P.doms looked_more

pub finishes : {V : Type 0} (P : Problem V) (posed : Posed P) (W : Walk V) (L : Lawful P W) (n : ℕ) → (after P W n).path ≡ [] → Finished P W (after P W n)
finishes P posed W L n e = record {
  found = subst (λ path. Cheapest P (Past path) (after P W n).best (after P W n).limit) e (always P posed W L n).0;
  looked = let t : (after P W n).steps + to_come P W [] ≡ looks P W = subst (λ path. (after P W n).steps + to_come P W path ≡ looks P W) e (always_tallies P W posed L n).1 in omega arith;
}

pub agree : (V : Type 0) → Agree V
agree V P W W' posed L L' n n' e e' =
    let f = finishes P posed W L n e in
    let f' = finishes P posed W' L' n' e' in
    let same = one_answer P posed.order (after P W n).best (after P W' n').best (after P W n).limit (after P W' n').limit f.found f'.found in
    (same.0, same.1, λ plain lower. let m = looks_more P posed W W' plain lower in let a = f.looked in let b = f'.looked in omega arith)
