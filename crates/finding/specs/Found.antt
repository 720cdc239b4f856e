-- What a walk of a job finds: on its modules and sheet, below a ceiling, by a bounding, looking ahead or not.
use Rattle.std.specs.Prelude.{◌≡◌, ℕ, Bool, ◌&&◌, T, ◌↔◌, List}
use Rattle.std.proofs.Math.Option.{Option, none}
use Rattle.theory.specs.Tree.{Fits, earlier, beginnings}
use Rattle.theory.specs.Machine.{State, start}
use Rattle.theory.specs.Finding.{Cheapest, count, precedes, looked_at, looks}
use Rattle.charges.specs.Kinds.{Kind, Below}
use Rattle.tables.specs.declared.modules.Modules.{Modules}
use Rattle.tables.specs.Setups.{charge_of}
use Rattle.walks.specs.Settings.{domains}
use Rattle.walks.specs.States.{problem, steps_on}
use Rattle.finding.specs.Bounding.{Bounding, walk_by}

module _ (K : Kind) (B : Bounding K) (m : Modules) (sheet : List ℕ) (ceiling : K.V) (ahead : Bool) where
  -- so many steps from the start
  abbrev pub after_steps : ℕ → State K.V
  after_steps n = steps_on (problem K m sheet ceiling) (walk_by K B m sheet ahead) n (start (problem K m sheet ceiling) (walk_by K B m sheet ahead))

  -- the number of beginnings that the walk looks at
  abbrev pub all_looks : ℕ
  all_looks = looks (problem K m sheet ceiling) (walk_by K B m sheet ahead)

  -- at the end
  pub record Found (best : Option (List ℕ)) (charge : K.V) (steps : ℕ) : Type 0 where
    -- of the allowed setups, best is the first in reading order of the cheapest, if one lies below the ceiling; charge is its charge, or else the ceiling
    pub cheapest : Cheapest (problem K m sheet ceiling) (λ y. Unit {0}) best charge
    -- there is none just when no allowed setup has a charge below the ceiling
    pub none_below : (best ≡ none) ↔ ((y : List ℕ) → Fits y (domains m) → ¬ Below K (charge_of K sheet y m.count) ceiling)
    pub counted : steps ≡ all_looks

  -- on the way, with w the next beginning to be looked at
  pub record FoundSoFar (w : List ℕ) (best : Option (List ℕ)) (charge : K.V) (steps : ℕ) : Type 0 where
    -- the same, of the allowed setups that read earlier than w
    pub cheapest : Cheapest (problem K m sheet ceiling) (λ y. T (earlier y w)) best charge
    -- the beginnings before w that the walk looks at
    pub counted : steps ≡ count (λ b. looked_at (problem K m sheet ceiling) (walk_by K B m sheet ahead) b && precedes b w) (beginnings (domains m))
