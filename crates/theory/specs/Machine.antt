-- The walk, one step at a time.
use Rattle.std.specs.Prelude.{List, [], ◌∷◌, ◌++◌, Bool, true, false, cond, ℕ, zero, suc, ◌≤◌, ◌<◌, T, length, get_or}
use Rattle.std.proofs.Math.Option.{Option, some, none}
use Rattle.theory.specs.Order.{Order, below}
use Rattle.theory.specs.Tree.{Fits, Filled, Sound}

-- what is sought: doms has the allowed settings of each module
pub record Problem (V : Type 0) : Type 0 where
  pub at_most : V → V → Bool
  pub doms : List (List ℕ)
  pub cost : List ℕ → V
  pub ceiling : V

-- how it is sought
pub record Walk (V : Type 0) : Type 0 where
  pub floor : List ℕ → V
  -- of a beginning, a later module and a setting of it
  pub answer : List ℕ → ℕ → ℕ → V
  pub ahead : Bool

pub record Posed {V : Type 0} (P : Problem V) : Type 0 where
  pub order : Order P.at_most
  pub sound : Sound P.doms
  pub some_module : Filled P.doms

pub record Lawful {V : Type 0} (P : Problem V) (W : Walk V) : Type 0 where
  pub floors : (b s : List ℕ) → Filled b → Fits (b ++ s) P.doms → T (P.at_most (W.floor b) (P.cost (b ++ s)))
  pub answers : (b s : List ℕ) (j : ℕ) → Filled b → Fits (b ++ s) P.doms → length b ≤ j → j < length P.doms
      → T (P.at_most (W.answer b j (get_or (b ++ s) j 0)) (P.cost (b ++ s)))

-- a setting, the live settings of its module after it, and those of each later module
pub data Level : Type 0 where
  level : ℕ → List ℕ → List (List ℕ) → Level

-- the innermost level comes first
abbrev pub beginning : List Level → List ℕ
beginning [] = []
beginning (level a more later ∷ up) = beginning up ++ (a ∷ [])

pub record State (V : Type 0) : Type 0 where
  -- the next beginning, level by level; none when finished
  pub path : List Level
  pub limit : V
  pub best : Option (List ℕ)
  pub steps : ℕ

-- the next live sibling, of the last setting or of one above it
abbrev pub next : List Level → List Level
next [] = []
next (level a [] later ∷ up) = next up
next (level a (k ∷ ks) later ∷ up) = level k ks later ∷ up

-- the settings that pass
abbrev pub keep : (ℕ → Bool) → List ℕ → List ℕ
keep t [] = []
keep t (k ∷ ks) = cond (t k) (k ∷ keep t ks) (keep t ks)

-- the settings of module j, and of each after it, that pass
abbrev pub strike : (ℕ → ℕ → Bool) → ℕ → List (List ℕ) → List (List ℕ)
strike t j [] = []
strike t j (d ∷ ds) = keep (t j) d ∷ strike t (suc j) ds

abbrev pub none_empty : List (List ℕ) → Bool
none_empty [] = true
none_empty ([] ∷ ds) = false
none_empty ((k ∷ ks) ∷ ds) = none_empty ds

-- one level down, to the first setting of the next module
abbrev pub down : List (List ℕ) → List Level → List Level
down [] path = next path
down ([] ∷ rest) path = next path
down ((k ∷ ks) ∷ rest) path = level k ks rest ∷ path

abbrev pub open_to : List (List ℕ) → List Level → List Level
open_to live path = cond (none_empty live) (down live path) (next path)

module _ {V : Type 0} (P : Problem V) (W : Walk V) where
  -- what is live below w once it is opened
  abbrev pub kept : List ℕ → V → List (List ℕ) → List (List ℕ)
  kept w limit later = cond W.ahead (strike (λ j k. below P.at_most (W.answer w j k) limit) (length w) later) later

  abbrev pub start : State V
  start = record { path = down P.doms []; limit = P.ceiling; best = none; steps = 0 }

  abbrev pub weigh : List Level → State V → State V
  weigh path s =
      let hit : Bool = below P.at_most (P.cost (beginning path)) s.limit in
      record {
        path = next path;
        limit = cond hit (P.cost (beginning path)) s.limit;
        best = cond hit (some (beginning path)) s.best;
        steps = suc s.steps;
      }

  abbrev pub look : List (List ℕ) → List Level → State V → State V
  look later path s =
      record {
        path = cond (below P.at_most (W.floor (beginning path)) s.limit) (open_to (kept (beginning path) s.limit later) path) (next path);
        limit = s.limit;
        best = s.best;
        steps = suc s.steps;
      }

  abbrev pub step_at : List Level → State V → State V
  step_at [] s = s
  step_at (level a more [] ∷ up) s = weigh (level a more [] ∷ up) s
  step_at (level a more (d ∷ ds) ∷ up) s = look (d ∷ ds) (level a more (d ∷ ds) ∷ up) s

  abbrev pub step : State V → State V
  step s = step_at s.path s

  -- the state after n steps
  abbrev pub after : ℕ → State V
  after zero = start
  after (suc n) = step (after n)
