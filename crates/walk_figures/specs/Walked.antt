-- Where a walk by count stands after so many steps.
use Rattle.std.specs.Prelude.{Bool, List, [], ◌≡◌, ℕ}
use Rattle.std.proofs.Math.Option.{Option}
use Rattle.theory.specs.Machine.{State}
use Rattle.charges.specs.Capped.{capped}
use Rattle.charges.specs.Count.{counts}
use Rattle.counts.specs.Floors.{past_charge, forward_floor, forward_with, directed_floor, directed_with}
use Rattle.finding.specs.Bounding.{Bounding}
use Rattle.finding.specs.Found.{after_steps}
use Rattle.walk_figures.specs.Jobs.{Job}

-- The bounds. A walk that does not look ahead asks for no answers; for past, which has none of its own, the floor stands in.
abbrev pub past : Bounding counts
past = record { floor = λ m sheet p. past_charge counts sheet p; answer = λ m sheet p j k. past_charge counts sheet p }

abbrev pub forward : Bounding counts
forward = record { floor = forward_floor counts; answer = forward_with counts }

abbrev pub directed : Bounding counts
directed = record { floor = directed_floor counts; answer = directed_with counts }

-- the walk of a job by a bound, below a ceiling, looking ahead or not
module _ (J : Job) (B : Bounding counts) (ceiling : ℕ) (ahead : Bool) where
  abbrev pub after : ℕ → State counts.V
  after n = after_steps counts B J.modules J.sheet (capped 65535 ceiling) ahead n

  -- its n-th step is the last; best is what it found, and charge is that setup's charge, or else the ceiling
  pub record Ends (best : Option (List ℕ)) (charge n : ℕ) : Type 0 where
    pub finished : (after n).path ≡ []
    pub found : (after n).best ≡ best
    pub charged : (after n).limit.number ≡ charge
    -- a finished walk counts no more steps, so it was not finished before
    pub counted : (after n).steps ≡ n

  -- its n-th step is not the last; best and charge are what it has so far
  pub record GoesOn (best : Option (List ℕ)) (charge n : ℕ) : Type 0 where
    pub unfinished : ¬ ((after n).path ≡ [])
    pub found : (after n).best ≡ best
    pub charged : (after n).limit.number ≡ charge
    pub counted : (after n).steps ≡ n
