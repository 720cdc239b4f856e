-- A walk, as the theory of the walks sees it.
use Rattle.std.specs.Prelude.{◌≡◌, ℕ, zero, suc, ◌+◌, Bool, List, take}
use Rattle.std.proofs.Math.Option.{Option, some, none}
use Rattle.std.specs.declared.option.Option.TheVariants as opt
use Rattle.std.specs.declared.option.Option as std
use Rattle.theory.specs.Machine as machine
use Rattle.theory.specs.Machine.{Problem, State, step}
use Rattle.charges.specs.Kinds.{Kind}
use Rattle.tables.specs.declared.modules.Modules.{Modules}
use Rattle.tables.specs.Setups.{charge_of}
use Rattle.walks.specs.declared.state.Best.{Best}
use Rattle.walks.specs.declared.state.Search.{Search}
use Rattle.walks.specs.Settings.{domains}
use Rattle.walks.specs.Trails.{levels_of}

-- what is sought on a sheet: the cheapest setup of allowed settings, below the ceiling
abbrev pub problem : (K : Kind) → Modules → List ℕ → K.V → Problem K.V
problem K m sheet ceiling = record { at_most = K.at_most; doms = domains m; cost = λ setup. charge_of K sheet setup m.count; ceiling = ceiling }

-- how it is sought: by floors, by answers for one setting, and looking ahead or not
abbrev pub by : {V : Type 0} → (List ℕ → V) → (List ℕ → ℕ → ℕ → V) → Bool → machine.Walk V
by floor answer ahead = record { floor = floor; answer = answer; ahead = ahead }

-- the best setup among n modules
abbrev pub setup_of : {C : Type 0} → ℕ → std.Option (Best C) → Option (List ℕ)
setup_of n opt.None = none
setup_of n (opt.Some best) = some (take n best.setup)

-- what the next setup is to be below: the charge of the best one, or else the ceiling
abbrev pub charge_or : {C : Type 0} → C → std.Option (Best C) → C
charge_or ceiling opt.None = ceiling
charge_or ceiling (opt.Some best) = best.charge

abbrev pub limit_of : {C : Type 0} → Search C → C
limit_of s = charge_or s.ceiling s.best

abbrev pub state_of : {C : Type 0} (K : Kind) → (C → K.V) → Search C → State K.V
state_of K means s = record {
  path = levels_of s.trail s.modules.count;
  limit = means (limit_of s);
  best = setup_of s.modules.count s.best;
  steps = s.steps;
}

-- so many steps on; at the end a step changes nothing
abbrev pub steps_on : {V : Type 0} → Problem V → machine.Walk V → ℕ → State V → State V
steps_on P W zero s = s
steps_on P W (suc n) s = step P W (steps_on P W n s)

-- so many steps on over this sheet, by these floors and answers
abbrev pub Advances : {C : Type 0} (K : Kind) → (C → K.V) → (Modules → List ℕ → List ℕ → C) → (Modules → List ℕ → List ℕ → ℕ → ℕ → C) → List ℕ → ℕ → Search C → Search C → Type 0
Advances K means floor answer sheet n before after =
    state_of K means after
    ≡ steps_on (problem K before.modules sheet (means before.ceiling))
    (by (λ p. means (floor before.modules sheet p)) (λ p j k. means (answer before.modules sheet p j k)) before.ahead)
    n (state_of K means before)

-- the same walk: on these modules, looking ahead or not, below that ceiling
pub record SameWalk {C : Type 0} (before after : Search C) : Type 0 where
  pub modules : after.modules ≡ before.modules
  pub ahead : after.ahead ≡ before.ahead
  pub ceiling : after.ceiling ≡ before.ceiling

-- one step more, and nothing else but where it stands
pub record OnlyMoved {C : Type 0} (before after : Search C) : Type 0 where
  pub same : SameWalk before after
  pub best : after.best ≡ before.best
  pub steps : after.steps ≡ before.steps + 1
