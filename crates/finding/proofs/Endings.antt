-- What a search has found, at its end and on its way.
use Rattle.std.proofs.Common.{◌≡◌, ℕ, zero, suc, ◌≤◌, Bool, ◌↔◌, List, [], ◌∷◌, sym, refl, ap, ◌∙◌, subst, arith}
use mathlib.Core.Option.{Option, some, none}
use Rattle.std.proofs.lemmas.Bool.{both_ways}
use Rattle.theory.specs.Tree.{Fits}
use Rattle.theory.specs.Machine as machine
use Rattle.theory.specs.Machine.{Problem, Walk, Posed, Level, State, start, step, after}
use Rattle.theory.specs.Finding.{Cheapest, Finished, Underway, WayAt, Way}
use Rattle.theory.proofs.Tests.{T_true, T_false}
use Rattle.theory.proofs.Finding.{finds}
use Rattle.theory.proofs.Words.{said}
use Rattle.charges.specs.Kinds.{Kind, Below, Lawful}
use Rattle.tables.specs.declared.modules.Modules.{Modules}
use Rattle.tables.specs.Setups.{charge_of}
use Rattle.walks.specs.Settings.{domains}
use Rattle.walks.specs.States.{problem, steps_on}
use Rattle.finding.specs.Bounding.{Bounding, LawfulBounding, walk_by}
use Rattle.finding.specs.Found.{after_steps, all_looks}
use Rattle.finding.specs.Findings.{FindsAtEnd, FindsSoFar, Ends}
use Rattle.finding.proofs.Posing.{posed}
use Rattle.finding.proofs.Walks.{lawful_walk}

module _ {V : Type 0} (P : Problem V) (W : Walk V) where
  -- steps from the start are the steps of the theory
  after_is : (n : ℕ) → steps_on P W n (start P W) ≡ after P W n
  after_is zero = refl
  after_is (suc n) = ap (step P W) (after_is n)

  way : Posed P → machine.Lawful P W → (n : ℕ) → Way P W (steps_on P W n (start P W))
  way posed lawful n = subst (Way P W) (sym (after_is n)) (finds V P W posed lawful n)

  at_end : (s : State V) (path : List Level) → path ≡ [] → WayAt P W path s → Finished P W s
  at_end s path e w = subst (λ p. WayAt P W p s) e w

  on_its_way : (s : State V) (path : List Level) → ¬ (path ≡ []) → WayAt P W path s → Underway P W s
  on_its_way s [] h w = absurd (h refl)
  on_its_way s (l ∷ up) h w = w

none_below : (K : Kind) (m : Modules) (sheet : List ℕ) (ceiling : K.V) (best : Option (List ℕ)) (charge : K.V) → Cheapest (problem K m sheet ceiling) (λ y. Unit {0}) best charge
    → (best ≡ none) ↔ ((y : List ℕ) → Fits y (domains m) → ¬ Below K (charge_of K sheet y m.count) ceiling)
none_below K m sheet ceiling none charge c =
    ((λ e y f l. both_ways (K.at_most ceiling (charge_of K sheet y m.count)) l (T_true _ (c.1 y f tt))), (λ h. refl))
none_below K m sheet ceiling (some x) charge c = ((λ e. absurd (some_none e)), (λ h. absurd (h x c.0 (ap (K.at_most ceiling) c.2 ∙ T_false _ c.3))))
  where
    some_none : Path (Option (List ℕ)) (some x) none → ⊥
    some_none e = let z : ◌≡◌ {A = ℕ} 0 1 = cc in omega arith

module _ (K : Kind) (lawful : Lawful K) where
  search_way : (B : Bounding K) → LawfulBounding K B → (m : Modules) (sheet : List ℕ) (ceiling : K.V) (ahead : Bool) → 1 ≤ m.count → (n : ℕ)
      → Way (problem K m sheet ceiling) (walk_by K B m sheet ahead) (after_steps K B m sheet ceiling ahead n)
  search_way B L m sheet ceiling ahead one = way (problem K m sheet ceiling) (walk_by K B m sheet ahead) (posed K lawful m sheet ceiling one) (lawful_walk K B L m sheet ceiling ahead)

  pub found_at_end : FindsAtEnd K
  found_at_end B L m sheet ceiling ahead one n e =
      let s = after_steps K B m sheet ceiling ahead n in
      let f = at_end (problem K m sheet ceiling) (walk_by K B m sheet ahead) s s.path e (search_way B L m sheet ceiling ahead one n) in
      record { cheapest = f.found; none_below = none_below K m sheet ceiling s.best s.limit f.found; counted = f.looked }

  pub found_so_far : FindsSoFar K
  found_so_far B L m sheet ceiling ahead one n h =
      let s = after_steps K B m sheet ceiling ahead n in
      let f = on_its_way (problem K m sheet ceiling) (walk_by K B m sheet ahead) s s.path h (search_way B L m sheet ceiling ahead one n) in
      record { cheapest = f.found; counted = f.looked }

  pub ends : Ends K
  ends B L m sheet ceiling ahead one =
      ap (λ (s : State K.V). s.path) (after_is (problem K m sheet ceiling) (walk_by K B m sheet ahead) (all_looks K B m sheet ceiling ahead))
      ∙ (said K.V (problem K m sheet ceiling) (walk_by K B m sheet ahead) (posed K lawful m sheet ceiling one) (lawful_walk K B L m sheet ceiling ahead)).ends
