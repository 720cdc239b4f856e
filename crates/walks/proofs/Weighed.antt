-- A step that weighs a setup.
use Rattle.std.proofs.Common.{◌≡◌, ℕ, zero, suc, ◌+◌, ◌-◌, ◌<◌, ◌≤◌, Bool, cond, not, List, [], length, get_or, take, sym, refl, ap, ◌∙◌, ap₂, add-one, arith, get_or-take}
use mathlib.Core.Option.{Option, some}
use Rattle.theory.specs.Machine.{Problem, Walk, Level, State, beginning, next, weigh, look, step_at, step}
use Rattle.charges.specs.Kinds.{Kind}
use Rattle.tables.specs.declared.modules.Modules.{Modules}
use Rattle.tables.specs.Joins.{joined}
use Rattle.tables.specs.Setups.{forward_count, charge_of}
use Rattle.tables.specs.Sheet.{entry_at}
use Rattle.walks.specs.declared.state.Search.{Search}
use Rattle.walks.specs.Settings.{has, domains_from, row_domains}
use Rattle.walks.specs.declared.trail.Trail.{Trail}
use Rattle.walks.specs.States.{problem, state_of, setup_of, charge_or, limit_of, SameWalk, OnlyMoved}
use Rattle.walks.specs.Trails.{levels, GoesOn}
use Rattle.walks.proofs.Steps.{same_state, step_weighs, step_looks, beginning_is}
use Rattle.walks.proofs.Trails.{domains_more}

pub joined_same : (K : Kind) (f h : ℕ → K.V) (n : ℕ) → ((i : ℕ) → i < n → f i ≡ h i) → joined K f n ≡ joined K h n
joined_same K f h zero each = refl
joined_same K f h (suc n) each = ap₂ K.join (joined_same K f h n (λ i l. each i (omega arith))) (each n (omega arith))

-- the charge of a row is that of its first settings
pub charge_taken : (K : Kind) (sheet row : List ℕ) (n : ℕ) → charge_of K sheet (take n row) n ≡ charge_of K sheet row n
charge_taken K sheet row n =
    joined_same K (λ j. forward_count K sheet (take n row) j j (get_or (take n row) j 0)) (λ j. forward_count K sheet row j j (get_or row j 0)) n (λ j l.
    ap (forward_count K sheet (take n row) j j) (get_or-take n row j 0 l)
    ∙ joined_same K (λ i. K.entry (entry_at sheet i (get_or (take n row) i 0) j (get_or row j 0))) (λ i. K.entry (entry_at sheet i (get_or row i 0) j (get_or row j 0))) j
    (λ i m. ap (λ a. K.entry (entry_at sheet i a j (get_or row j 0))) (get_or-take n row i 0 (omega arith))))

pub no_domains : (passes : ℕ → ℕ → Bool) (j : ℕ) → domains_from passes j 0 ≡ []
unfolding domains_from
no_domains passes j = refl

module _ {V : Type 0} (P : Problem V) (W : Walk V) (path : List ℕ) (live : List (List ℕ)) (n : ℕ) (s : State V) where
  -- a beginning of all modules is weighed
  full_weighs : (d : ℕ) → 1 ≤ d → d ≡ n → step_at P W (levels path live n d) s ≡ weigh P W (levels path live n d) s
  full_weighs zero l e = absurd (omega arith)
  full_weighs (suc i) l e =
      let z : n - suc i ≡ 0 = omega arith in
      step_weighs P W _ _ _ (levels path live n i) s (ap (row_domains (get_or live i []) (suc i)) z ∙ no_domains (λ j. has (get_or (get_or live i []) j 0)) (suc i))

  -- a shorter one is looked at
  pub short_looks : (d : ℕ) → 1 ≤ d → d < n → step_at P W (levels path live n d) s ≡ look P W (row_domains (get_or live (d - 1) []) d (n - d)) (levels path live n d) s
  short_looks zero o l = absurd (omega arith)
  short_looks (suc i) o l =
      let last : i ≡ suc i - 1 = omega arith in
      let more : n - suc i ≡ suc (n - suc (suc i)) = omega arith in
      step_looks P W _ _ _ (levels path live n i) s _ _ (ap (row_domains (get_or live i []) (suc i)) more ∙ domains_more (λ j. has (get_or (get_or live i []) j 0)) (suc i) (n - suc (suc i)))
      ∙ ap (λ r. look P W (row_domains (get_or live r []) (suc i) (n - suc i)) (levels path live n (suc i)) s) last

-- What a step makes of a search s whose next beginning is a setup.
module _ {C : Type 0} (K : Kind) (means : C → K.V) (s : Search C) (sheet : List ℕ) (W : Walk K.V) where
  pub weighs : (path : List Level) (limit : K.V) (best : Option (List ℕ)) (steps : ℕ)
      → 1 ≤ s.trail.len → s.trail.len ≡ s.modules.count → s.trail.len ≤ length s.trail.path
      → path ≡ next (levels s.trail.path s.trail.live s.modules.count s.trail.len)
      → limit ≡ cond (not (K.at_most (means (limit_of s)) (charge_of K sheet s.trail.path s.modules.count))) (charge_of K sheet s.trail.path s.modules.count) (means (limit_of s))
      → best ≡ cond (not (K.at_most (means (limit_of s)) (charge_of K sheet s.trail.path s.modules.count))) (some (take s.modules.count s.trail.path)) (setup_of s.modules.count s.best)
      → steps ≡ suc s.steps
      → Path (State K.V) (record { path = path; limit = limit; best = best; steps = steps }) (step (problem K s.modules sheet (means s.ceiling)) W (state_of K means s))
  weighs path limit best steps one full long on limit_is best-is more =
      same_state _ _ _ _ _ _ _ _ on
      (limit_is ∙ sym (ap (λ v. cond (not (K.at_most (means (limit_of s)) v)) v (means (limit_of s))) cost_is))
      (best-is ∙ sym (ap₂ (λ v p. cond (not (K.at_most (means (limit_of s)) v)) (some p) (setup_of n s.best)) cost_is setup_is)) more
      ∙ sym (full_weighs (problem K s.modules sheet (means s.ceiling)) W s.trail.path s.trail.live n (state_of K means s) s.trail.len one full)
    where
      n : ℕ
      n = s.modules.count

      setup_is : beginning (levels s.trail.path s.trail.live s.modules.count s.trail.len) ≡ take s.modules.count s.trail.path
      setup_is = beginning_is s.trail.path s.trail.live s.modules.count s.trail.len long ∙ ap (λ d. take d s.trail.path) full

      cost_is : charge_of K sheet (beginning (levels s.trail.path s.trail.live s.modules.count s.trail.len)) s.modules.count ≡ charge_of K sheet s.trail.path s.modules.count
      cost_is = ap (λ p. charge_of K sheet p s.modules.count) setup_is ∙ charge_taken K sheet s.trail.path s.modules.count

-- What is taken into account of the setup, before the search goes on.
module _ {C : Type 0} (K : Kind) (means : C → K.V) (sheet : List ℕ) (s mid out : Search C) where
  pub record Takes : Type 0 where
    pub same : SameWalk s mid
    pub trail : mid.trail ≡ s.trail
    pub steps : mid.steps ≡ s.steps
    pub limit : means (limit_of mid) ≡ cond (not (K.at_most (means (limit_of s)) (charge_of K sheet s.trail.path s.modules.count))) (charge_of K sheet s.trail.path s.modules.count) (means (limit_of s))
    pub best : setup_of s.modules.count mid.best ≡ cond (not (K.at_most (means (limit_of s)) (charge_of K sheet s.trail.path s.modules.count))) (some (take s.modules.count s.trail.path)) (setup_of s.modules.count s.best)

  pub same_through : SameWalk s mid → SameWalk mid out → SameWalk s out
  same_through h g = record { modules = g.modules ∙ h.modules; ahead = g.ahead ∙ h.ahead; ceiling = g.ceiling ∙ h.ceiling }

  pub weighs_on : (W : Walk K.V) → Takes → OnlyMoved mid out
      → GoesOn mid.trail out.trail
      → 1 ≤ s.trail.len → s.trail.len ≡ s.modules.count → s.trail.len ≤ length s.trail.path
      → state_of K means out ≡ step (problem K s.modules sheet (means s.ceiling)) W (state_of K means s)
  weighs_on W h moved on one full long =
      weighs K means s sheet W _ _ _ _ one full long
      (on.next_one out.modules.count ∙ ap₂ (λ (t : Trail) n. next (levels t.path t.live n t.len)) h.trail counts)
      (ap means (ap₂ charge_or moved.same.ceiling moved.best) ∙ h.limit)
      (ap₂ setup_of counts moved.best ∙ h.best)
      (moved.steps ∙ ap (λ x. x + 1) h.steps ∙ rw add-one refl)
    where
      counts : out.modules.count ≡ s.modules.count
      counts = ap (λ (m : Modules). m.count) (moved.same.modules ∙ h.same.modules)
