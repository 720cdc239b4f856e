-- Some steps of a search.
use Rattle.std.proofs.Common.{◌≡◌, ℕ, zero, suc, ◌+◌, ◌-◌, ◌≤◌, true, List, [], ◌∷◌, sym, refl, ap, ◌∙◌, add-one, arith}
use Rattle.std.proofs.lemmas.Bool.{false≢true}
use Rattle.theory.specs.Machine.{Problem, Walk, Level, State, step, step_at}
use Rattle.charges.specs.Kinds.{Kind}
use Rattle.tables.specs.declared.modules.Modules.{Modules}
use Rattle.walks.specs.declared.state.Search.{Search}
use Rattle.walks.specs.Outcomes.{none_left, finished}
use Rattle.walks.specs.States.{problem, by, state_of, steps_on, SameWalk, Advances}

module _ {V : Type 0} (P : Problem V) (W : Walk V) where
  -- at the end a step changes nothing
  step_end : (s : State V) → s.path ≡ [] → step P W s ≡ s
  step_end s e = ap (λ p. step_at P W p s) e

  pub steps_end : (a b : ℕ) (s : State V) → (steps_on P W a s).path ≡ [] → steps_on P W (a + b) s ≡ steps_on P W a s
  steps_end a zero s e = ap (λ n. steps_on P W n s) (let z : a + zero ≡ a = omega arith in z)
  steps_end a (suc b) s e =
      ap (λ n. steps_on P W n s) (let z : a + suc b ≡ suc (a + b) = omega arith in z)
      ∙ ap (step P W) (steps_end a b s e) ∙ step_end (steps_on P W a s) e

  pub steps_enough : (a n : ℕ) (s : State V) → a ≤ n → (steps_on P W a s).path ≡ [] → steps_on P W n s ≡ steps_on P W a s
  steps_enough a n s l e = ap (λ x. steps_on P W x s) (let z : n ≡ a + (n - a) = omega arith in z) ∙ steps_end a (n - a) s e

  pub steps_more : (n : ℕ) (s : State V) → steps_on P W (n + 1) s ≡ step P W (steps_on P W n s)
  steps_more n s = rw add-one refl

-- a sitting so far
module _ {C : Type 0} (K : Kind) (means : C → K.V) (sheet : List ℕ) (floor : Modules → List ℕ → List ℕ → C) (answer : Modules → List ℕ → List ℕ → ℕ → ℕ → C) where
  abbrev pub sought : Search C → Problem K.V
  sought s = problem K s.modules sheet (means s.ceiling)

  abbrev pub walked : Search C → Walk K.V
  walked s = by (λ p. means (floor s.modules sheet p)) (λ p j k. means (answer s.modules sheet p j k)) s.ahead

  pub record Sat (start : Search C) (made : ℕ) (now : Search C) : Type 0 where
    pub same : SameWalk start now
    pub steps : now.steps ≡ start.steps + made
    pub state : Advances K means floor answer sheet made start now

  pub sat_more : (s now after : Search C) (made : ℕ) → Sat s made now → SameWalk now after → after.steps ≡ now.steps + 1 → Advances K means floor answer sheet 1 now after → Sat s (made + 1) after
  sat_more s now after made h same steps stepped = record {
    same = record { modules = same.modules ∙ h.same.modules; ahead = same.ahead ∙ h.same.ahead; ceiling = same.ceiling ∙ h.same.ceiling };
    steps = let a = h.steps in omega arith;
    state =
        stepped
        ∙ (λ i. step (problem K (h.same.modules i) sheet (means (h.same.ceiling i))) (by (λ p. means (floor (h.same.modules i) sheet p)) (λ p j k. means (answer (h.same.modules i) sheet p j k)) (h.same.ahead i)) (h.state i))
        ∙ sym (steps_more (sought s) (walked s) made (state_of K means s));
  }

  -- nothing is left to do
  pub sat_enough : (s now : Search C) (made n : ℕ) → Sat s made now → made ≤ n → finished (state_of K means now) ≡ true → Advances K means floor answer sheet n s now
  sat_enough s now made n h l e =
      h.state ∙ sym (steps_enough (sought s) (walked s) made n (state_of K means s) l (ap (λ (x : State K.V). x.path) (sym h.state) ∙ no_path (state_of K means now).path e))
    where
      no_path : (p : List Level) → none_left p ≡ true → p ≡ []
      no_path [] e = refl
      no_path (l ∷ up) e = absurd (false≢true e)
