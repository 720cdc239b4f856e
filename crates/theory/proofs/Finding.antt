-- The finding.
use mathlib.Core.Path.{◌≡◌}
use mathlib.Core.List.{List, [], ◌∷◌}
use mathlib.Core.Option.{Option}
use Prim.Native.Nat.{ℕ, ◌+◌}
use native.Mathlib.Omega.{arith}
use Rattle.theory.specs.Tree.{beginnings}
use Rattle.theory.specs.Machine.{Level, beginning, State, after}
use Rattle.theory.specs.Finding.{precedes, looked_at, looks, Cheapest, WayAt, Finds}
use Rattle.theory.proofs.Precedes.{count_split}
use Rattle.theory.proofs.Stack.{Past}
use Rattle.theory.proofs.Invariant.{always}
use Rattle.theory.proofs.Tally.{to_come, always_tallies}
use Rattle.theory.proofs.Places.{Places, to_come_left, always_placed}

pub finds : (V : Type 0) → Finds V
finds V P W posed L n = go s.path s.best s.limit s.steps (always P posed W L n).0 (always_tallies P W posed L n).1 (always_placed P W posed L n)
  where
    s : State V
    s = after P W n

    go : (path : List Level) (best : Option (List ℕ)) (limit : V) (steps : ℕ) → Cheapest P (Past path) best limit → steps + to_come P W path ≡ looks P W → Places P W path
        → WayAt P W path (record { path = path; limit = limit; best = best; steps = steps })
    go [] best limit steps c t h = record { found = c; looked = omega arith }
    go (l ∷ up) best limit steps c t h = record {
      found = c;
      looked =
          let r = to_come_left P W posed l up h in
          let q = count_split (looked_at P W) (λ b. precedes b (beginning (l ∷ up))) (beginnings P.doms) in
          omega arith;
    }
