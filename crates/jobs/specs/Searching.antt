-- Whether a walk is open, and what the calls of walking do to it.
use Rattle.std.specs.Prelude.{◌≡◌, ℕ, ◌+◌, Bool, true, false, List, Some, None, Option, MatchOption}
use Rattle.theory.specs.Machine.{start}
use Rattle.theory.specs.Machine as machine
use Rattle.charges.specs.Kinds.{Kind}
use Rattle.tables.specs.declared.modules.Modules.{Modules}
use Rattle.walks.specs.declared.state.Search.{Search}
use Rattle.walks.specs.declared.outcome.Closed.{Closed}
use Rattle.walks.specs.Outcomes.{finished, Closes}
use Rattle.walks.specs.States.{problem, by, state_of, steps_on, SameWalk}
use Rattle.jobs.specs.declared.sat.Sat.{Sat}

abbrev pub is_open : {C : Type 0} → Option (Search C) → Bool
is_open None = false
is_open (Some s) = true

module _ {C : Type 0} (K : Kind) (means : C → K.V) where
  -- a walk of the modules below the ceiling, looking ahead or not, that has yet to make its first step
  pub record Starts (m : Modules) (ahead : Bool) (ceiling : C) (s : Search C) : Type 0 where
    pub modules : s.modules ≡ m
    pub looks : s.ahead ≡ ahead
    pub below : s.ceiling ≡ ceiling
    pub first : (sheet : List ℕ) (W : machine.Walk K.V) → state_of K means s ≡ start (problem K m sheet (means ceiling)) W

  -- so many steps on, on this sheet: what is told of them, and the walk after them
  pub record Sits (floor : Modules → List ℕ → List ℕ → C) (answer : Modules → List ℕ → List ℕ → ℕ → ℕ → C) (sheet : List ℕ) (steps : ℕ) (before after : Search C) (told : Sat) : Type 0 where
    pub same : SameWalk before after
    pub moved : state_of K means after
        ≡ steps_on (problem K before.modules sheet (means before.ceiling))
        (by (λ p. means (floor before.modules sheet p)) (λ p j k. means (answer before.modules sheet p j k)) before.ahead)
        steps (state_of K means before)
    pub made : after.steps ≡ before.steps + told.made
    pub finished : told.finished ≡ finished (state_of K means after)

  -- the same of a walk that is open
  abbrev pub SitsOpen : (Modules → List ℕ → List ℕ → C) → (Modules → List ℕ → List ℕ → ℕ → ℕ → C) → List ℕ → ℕ → Option (Search C) → Option (Search C) → Sat → Type 0
  SitsOpen floor answer sheet steps before after told = MatchOption before ⊥ (λ s. MatchOption after ⊥ (λ s'. Sits floor answer sheet steps s s' told))

  -- the walk that was open ends
  abbrev pub ClosesOpen : Option (Search C) → List ℕ → Closed C → List ℕ → Option (Search C) → Type 0
  ClosesOpen before row told row' after = MatchOption before ⊥ (λ s. Closes K means s row told row') × (after ≡ None)
