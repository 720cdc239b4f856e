-- How a walk ends.
use Rattle.std.specs.Prelude.{◌≡◌, ℕ, Bool, true, false, cond, List, [], ◌∷◌, ◌++◌, length, drop}
use Rattle.std.proofs.Math.Option.{Option, some, none}
use Rattle.theory.specs.Machine.{Level, State}
use Rattle.charges.specs.Kinds.{Kind}
use Rattle.walks.specs.declared.outcome.Outcome.{Outcome}
use Rattle.walks.specs.declared.outcome.Outcome.TheVariants.{Unfinished, UnfinishedWithSetup, Finished, NoneBelow}
use Rattle.walks.specs.declared.outcome.Closed.{Closed}
use Rattle.walks.specs.declared.state.Search.{Search}
use Rattle.walks.specs.States.{state_of, limit_of}

-- What an outcome fixes. With a setup, the row takes it and the charge is its own; without, the row stays and the charge is the ceiling.
pub record Fixed : Type 0 where
  pub number : ℕ
  pub finished : Bool
  pub with_setup : Bool

abbrev pub fixed : Outcome → Fixed
fixed Unfinished = record { number = 0; finished = false; with_setup = false }
fixed UnfinishedWithSetup = record { number = 1; finished = false; with_setup = true }
fixed Finished = record { number = 2; finished = true; with_setup = true }
fixed NoneBelow = record { number = 3; finished = true; with_setup = false }

abbrev pub none_left : List Level → Bool
none_left [] = true
none_left (l ∷ up) = false

-- no beginning is left
abbrev pub finished : {V : Type 0} → State V → Bool
finished s = none_left s.path

abbrev pub is_some : {A : Type 0} → Option A → Bool
is_some none = false
is_some (some x) = true

-- the row with the setup, if there is one, in the place of its first bytes
abbrev pub written : Option (List ℕ) → List ℕ → List ℕ
written none row = row
written (some setup) row = setup ++ drop (length setup) row

-- what a close of the walk tells, and makes of the row
pub record Closes {C : Type 0} (K : Kind) (means : C → K.V) (s : Search C) (before : List ℕ) (told : Closed C) (after : List ℕ) : Type 0 where
  pub finished : (fixed told.outcome).finished ≡ finished (state_of K means s)
  pub with_setup : (fixed told.outcome).with_setup ≡ is_some (state_of K means s).best
  pub row : after ≡ written (state_of K means s).best before
  pub charge : means told.charge ≡ cond (fixed told.outcome).with_setup (means (limit_of s)) (means s.ceiling)
  pub steps : told.steps ≡ s.steps
