-- The steps of a walk, by cases.
use Rattle.std.proofs.Common.{◌≡◌, ℕ, zero, suc, ◌≤◌, List, [], ◌∷◌, ◌++◌, length, get_or, take, sym, refl, ap, ◌∙◌, subst, arith, take-suc}
use mathlib.Core.Option.{Option}
use Rattle.theory.specs.Machine.{Problem, Walk, Level, level, State, beginning, weigh, look, step_at}
use Rattle.walks.specs.Trails.{levels}

pub same_state : {V : Type 0} (p p' : List Level) (l l' : V) (b b' : Option (List ℕ)) (n n' : ℕ) → p ≡ p' → l ≡ l' → b ≡ b' → n ≡ n'
    → Path (State V) (record { path = p; limit = l; best = b; steps = n }) (record { path = p'; limit = l'; best = b'; steps = n' })
same_state p p' l l' b b' n n' e f g h = λ i. record { path = e i; limit = f i; best = g i; steps = h i }

module _ {V : Type 0} (P : Problem V) (W : Walk V) (a : ℕ) (more : List ℕ) (later : List (List ℕ)) (up : List Level) (s : State V) where
  pub step_weighs : later ≡ [] → step_at P W (level a more later ∷ up) s ≡ weigh P W (level a more later ∷ up) s
  step_weighs e = subst (λ x. step_at P W (level a more x ∷ up) s ≡ weigh P W (level a more x ∷ up) s) (sym e) refl

  pub step_looks : (d : List ℕ) (ds : List (List ℕ)) → later ≡ d ∷ ds → step_at P W (level a more later ∷ up) s ≡ look P W later (level a more later ∷ up) s
  step_looks d ds e = subst (λ x. step_at P W (level a more x ∷ up) s ≡ look P W x (level a more x ∷ up) s) (sym e) refl

-- the settings of a trail are its beginning
pub beginning_is : (path : List ℕ) (live : List (List ℕ)) (n d : ℕ) → d ≤ length path → beginning (levels path live n d) ≡ take d path
beginning_is path live n zero l = refl
beginning_is path live n (suc i) l = ap (λ p. p ++ (get_or path i 0 ∷ [])) (beginning_is path live n i (omega arith)) ∙ sym (take-suc path i 0 l)
