-- What the tests and lists of the finding say, in words without tests.
use Rattle.std.specs.Prelude.{List, [], ◌∷◌, ◌++◌, Bool, true, false, ◌&&◌, ◌↔◌, ◌≡◌, ℕ, T, eqb}
use Rattle.std.proofs.Math.Option.{none}
use Rattle.theory.specs.Order.{below}
use Rattle.theory.specs.Tree.{Fits, Begins, Filled, earlier, beginnings}
use Rattle.theory.specs.Machine.{Problem, Walk, Posed, Lawful, after}
use Rattle.theory.specs.Finding.{count, clears, alive, goes, looked_at, looks}

-- the same list
abbrev pub same : List ℕ → List ℕ → Bool
same [] [] = true
same [] (y ∷ ys) = false
same (x ∷ xs) [] = false
same (x ∷ xs) (y ∷ ys) = eqb x y && same xs ys

pub record Says {V : Type 0} (P : Problem V) (W : Walk V) : Type 0 where
  -- every beginning is listed, once
  pub listed : (b : List ℕ) → Filled b → Begins b P.doms → count (same b) (beginnings P.doms) ≡ 1
  -- v is below the ceiling and below every charge that reads earlier than p
  pub clear : (p : List ℕ) (v : V) → T (clears P p v) ↔
      (T (below P.at_most v P.ceiling) × ((y : List ℕ) → Fits y P.doms → T (earlier y p) → T (below P.at_most v (P.cost y))))
  -- no prefix q of p strikes k of module j
  pub unstruck : (p : List ℕ) (j k : ℕ) → T (alive P W p j k) ↔ ((q s : List ℕ) → Filled q → p ≡ q ++ s → T (clears P q (W.answer q j k)))
  -- the walk goes on from every shorter beginning p of b to the next setting k of b
  pub look : (b : List ℕ) → T (looked_at P W b) ↔ ((p s : List ℕ) (k : ℕ) → Filled p → b ≡ p ++ (k ∷ s) → T (goes P W p k))
  -- the walk ends
  pub ends : (after P W (looks P W)).path ≡ []
  -- no best just when nothing allowed lies below the ceiling
  pub no_best : (n : ℕ) → (after P W n).path ≡ [] → ((after P W n).best ≡ none) ↔ ((y : List ℕ) → Fits y P.doms → ¬ T (below P.at_most (P.cost y) P.ceiling))

abbrev pub Said : Type 0 → Type 0
Said V = (P : Problem V) (W : Walk V) → Posed P → Lawful P W → Says P W
