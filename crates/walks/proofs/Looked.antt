-- A step that looks at a beginning shorter than a setup.
use Rattle.std.proofs.Common.{◌≡◌, ℕ, ◌-◌, ◌<◌, ◌≤◌, Bool, true, false, cond, List, [], length, get_or, take, Some, None, sym, refl, ap, ◌∙◌, subst, ap₂, inl, inr, add-one, arith}
use Rattle.std.proofs.lemmas.List.{length-take-le}
use Rattle.std.proofs.lemmas.Bool.{and_parts, cond-true, cond-false}
use Rattle.theory.specs.Machine.{Level, beginning, strike, none_empty, next, down, open_to, step}
use Rattle.charges.specs.Kinds.{Kind}
use Rattle.tables.specs.declared.modules.Modules.{Modules}
use Rattle.walks.specs.Opening.{under, stays, Keeps, Opens}
use Rattle.walks.specs.Settings.{has, domains_from, row_domains}
use Rattle.walks.specs.States.{problem, by, state_of, setup_of, charge_or, limit_of, OnlyMoved}
use Rattle.walks.specs.Trails.{levels, Live}
use Rattle.walks.specs.declared.state.Search.{Search}
use Rattle.walks.proofs.Domains.{strike_domains, domains_same, none_empty_domains, one_empty_domains, mask_some}
use Rattle.walks.proofs.Masks.{settings_none}
use Rattle.walks.proofs.Steps.{same_state, beginning_is}
use Rattle.walks.proofs.Weighed.{short_looks}

-- Of the row that is live below a beginning of d settings, and what is left of it.
module _ (K : Kind) (limit floor : K.V) (answer : ℕ → ℕ → K.V) (row : List ℕ) (d n : ℕ) (short : d < n) where
  -- what stays, as a list for each module
  struck : strike (λ j k. under K limit (answer j k)) d (row_domains row d (n - d)) ≡ domains_from (stays K limit answer row) d (n - d)
  struck = strike_domains (λ j k. under K limit (answer j k)) (λ j. has (get_or row j 0)) d (n - d)

  -- the live settings after a look
  abbrev pub after : Bool → List (List ℕ)
  after ahead = cond ahead (strike (λ j k. under K limit (answer j k)) d (row_domains row d (n - d))) (row_domains row d (n - d))

  pub after_left : (ahead : Bool) (left : List ℕ) → Keeps K limit answer row ahead d n (Some left) → after ahead ≡ row_domains left d (n - d)
  after_left true left h = struck ∙ sym (domains_same (λ j. has (get_or left j 0)) (stays K limit answer row) d (n - d) (λ j k a b c. h.same j k a (omega arith) c))
  after_left false left h = ap (λ r. row_domains r d (n - d)) (sym h)

  pub live_left : (m : Modules) → m.count ≡ n → Live m row d → (ahead : Bool) (left : List ℕ) → Keeps K limit answer row ahead d n (Some left) → Live m left d
  live_left m e l true left h = record {
    some = λ j a b. h.some j a (omega arith);
    byte = λ j a b. h.byte j a (omega arith);
    allowed = λ j k a b c t. l.allowed j k a b c (and_parts (has (get_or row j 0) k) (under K limit (answer j k)) (sym (h.same j k a (omega arith) c) ∙ t)).0;
  }
  live_left m e l false left h = subst (λ r. Live m r d) (sym h) l

  pub none_left : (m : Modules) → m.count ≡ n → (left : List ℕ) → Live m left d → none_empty (row_domains left d (n - d)) ≡ true
  none_left m e left l = none_empty_domains (λ j. has (get_or left j 0)) d (n - d) (λ j a b. mask_some (get_or left j 0) (l.some j a (omega arith)) (l.byte j a (omega arith)))

  -- a beginning that is opened
  pub goes_down : (m : Modules) → m.count ≡ n → Live m row d → (ahead : Bool) (left : List ℕ) → Opens K limit floor answer ahead row d n (Some left) → (path : List Level)
      → cond (under K limit floor) (open_to (after ahead) path) (next path) ≡ down (row_domains left d (n - d)) path
  goes_down m e l ahead left h path =
      cond-true (under K limit floor) _ _ h.0
      ∙ ap (λ live. open_to live path) (after_left ahead left h.1)
      ∙ cond-true (none_empty (row_domains left d (n - d))) _ _ (none_left m e left (live_left m e l ahead left h.1))

  -- a beginning that is closed
  pub goes_past : (ahead : Bool) → Opens K limit floor answer ahead row d n None → (path : List Level) → cond (under K limit floor) (open_to (after ahead) path) (next path) ≡ next path
  goes_past ahead (inl h) path = cond-false (under K limit floor) _ _ h
  goes_past true (inr h) path = either (under K limit floor)
    where
      dead : none_empty (after true) ≡ false
      dead = ap none_empty struck ∙ one_empty_domains (stays K limit answer row) d (n - d) h.0 h.1 (let l = h.2 in omega arith) (settings_none (stays K limit answer row h.0) 0 8 (λ k a b. h.3 k b))

      either : (b : Bool) → cond b (open_to (after true) path) (next path) ≡ next path
      either true = cond-false (none_empty (after true)) _ _ dead
      either false = refl
  goes_past false (inr h) path = absurd h

-- What a step makes of a search s whose next beginning is shorter than a setup.
module _ {C : Type 0} (K : Kind) (means : C → K.V) (s out : Search C) (sheet : List ℕ) (floor : List ℕ → K.V) (answer : List ℕ → ℕ → ℕ → K.V) where
  abbrev pub row : List ℕ
  row = get_or s.trail.live (s.trail.len - 1) []

  abbrev pub taken : List ℕ
  taken = take s.trail.len s.trail.path

  -- where the walk stands after the step, by the beginning and its length
  abbrev pub path_after : List ℕ → ℕ → List Level
  path_after w d =
      let later = row_domains row s.trail.len (s.modules.count - s.trail.len) in
      cond (under K (means (limit_of s)) (floor w))
      (open_to (cond s.ahead (strike (λ j k. under K (means (limit_of s)) (answer w j k)) d later) later) (levels s.trail.path s.trail.live s.modules.count s.trail.len))
      (next (levels s.trail.path s.trail.live s.modules.count s.trail.len))

  pub looks : OnlyMoved s out → (one : 1 ≤ s.trail.len) (short : s.trail.len < s.modules.count) → s.trail.len ≤ length s.trail.path
      → levels out.trail.path out.trail.live s.modules.count out.trail.len
      ≡ cond (under K (means (limit_of s)) (floor taken))
      (open_to (after K (means (limit_of s)) (floor taken) (answer taken) row s.trail.len s.modules.count short s.ahead) (levels s.trail.path s.trail.live s.modules.count s.trail.len))
      (next (levels s.trail.path s.trail.live s.modules.count s.trail.len))
      → state_of K means out ≡ step (problem K s.modules sheet (means s.ceiling)) (by floor answer s.ahead) (state_of K means s)
  looks moved one short long on =
      same_state _ _ _ _ _ _ _ _
      (ap (λ n. levels out.trail.path out.trail.live n out.trail.len) counts ∙ on ∙ sym (ap₂ path_after taken_is len_is))
      (ap means (ap₂ charge_or moved.same.ceiling moved.best)) (ap₂ setup_of counts moved.best) (moved.steps ∙ rw add-one refl)
      ∙ sym (short_looks (problem K s.modules sheet (means s.ceiling)) (by floor answer s.ahead) s.trail.path s.trail.live s.modules.count (state_of K means s) s.trail.len one short)
    where
      counts : out.modules.count ≡ s.modules.count
      counts = ap (λ (m : Modules). m.count) moved.same.modules

      taken_is : beginning (levels s.trail.path s.trail.live s.modules.count s.trail.len) ≡ taken
      taken_is = beginning_is s.trail.path s.trail.live s.modules.count s.trail.len long

      len_is : length (beginning (levels s.trail.path s.trail.live s.modules.count s.trail.len)) ≡ s.trail.len
      len_is = ap length taken_is ∙ length-take-le s.trail.len s.trail.path long
