-- Where a run can have brought a walk.
use Rattle.std.proofs.Common.{◌≡◌, ℕ, zero, suc, ◌+◌, ◌≤◌, min, Bool, true, false, List, [], ◌∷◌, IfSome, Some, None, Option, sym, refl, ap, ◌∙◌, subst, subst₂, arith, MatchOption}
use Rattle.std.proofs.lemmas.Bool.{eqb-false, false≢true}
use Rattle.theory.specs.Machine.{Problem, Walk, State, step}
use Rattle.charges.specs.Kinds.{Kind}
use Rattle.tables.specs.declared.modules.Modules.{Modules}
use Rattle.walks.specs.declared.state.Search.{Search}
use Rattle.walks.specs.States.{problem, by, state_of, steps_on}
use Rattle.finding.specs.Bounding.{walk_by}
use Rattle.finding.specs.Found.{after_steps}
use Rattle.jobs.specs.declared.refusal.Refusal.{Refusal}
use Rattle.jobs.specs.declared.sat.Sat.{Sat}
use Rattle.jobs.specs.Checks.{unless_walking, start_checks, add_checks, charge_checks, narrow_checks, weigh_checks, what_if_checks, sit_checks, close_checks}
use Rattle.jobs.specs.Refusals.{first}
use Rattle.jobs.specs.Searching.{is_open, Starts, Sits, SitsOpen}
use Rattle.runs.specs.declared.answer.Answer.{Answer}
use Rattle.runs.specs.declared.call.Call.TheVariants.{Add, Charge, Narrow, Start, Sit, Weigh, WhatIf, Close}
use Rattle.runs.specs.declared.call.BothCall.{BothCall}
use Rattle.runs.specs.declared.call.BothCall.TheVariants.{Plain, StartAhead}
use Rattle.runs.specs.Does.{Begins, DoesBoth}
use Rattle.runs.specs.Runs.{bounding}
use Rattle.runs.specs.Stands.{Stand, row_of}

-- a decision, by cases
pub by_first : (f : Option Refusal) (A G : Type 0) (R : Refusal → Type 0) → MatchOption f A R → (f ≡ None → A → G) → ((e : Refusal) → R e → G) → G
by_first None A G R h accepted refused = accepted refl h
by_first (Some e) A G R h accepted refused = refused e h

none_some : (e : Refusal) → Path (Option Refusal) (Some e) None → ⊥
none_some e h = let z : ◌≡◌ {A = ℕ} 0 1 = cc in omega arith

-- where no check fits, the first does not, and none after it
pub first_passes : (e : Refusal) (b : Bool) (checks : List (Refusal × Bool)) → first ((e, b) ∷ checks) ≡ None → (b ≡ false) × (first checks ≡ None)
first_passes e true checks h = absurd (none_some e h)
first_passes e false checks h = (refl, h)

-- none of them fits
abbrev pub NoneFits : List (Refusal × Bool) → Type 0
NoneFits [] = Unit {0}
NoneFits ((e, b) ∷ checks) = (b ≡ false) × NoneFits checks

pub none_fits : (checks : List (Refusal × Bool)) → first checks ≡ None → NoneFits checks
none_fits [] h = tt
none_fits ((e, b) ∷ checks) h = let p = first_passes e b checks h in (p.0, none_fits checks p.1)

pub no_walk : {C : Type 0} (current : Option (Search C)) → is_open current ≡ false → current ≡ None
no_walk None h = refl
no_walk (Some w) h = absurd (false≢true (sym h))

-- steps after steps
steps_add : {V : Type 0} (P : Problem V) (W : Walk V) (a b : ℕ) (s : State V) → steps_on P W a (steps_on P W b s) ≡ steps_on P W (a + b) s
steps_add P W zero b s = ap (λ n. steps_on P W n s) (let e : b ≡ zero + b = omega arith in e)
steps_add P W (suc a) b s = ap (step P W) (steps_add P W a b s) ∙ ap (λ n. steps_on P W n s) (let e : suc (a + b) ≡ suc a + b = omega arith in e)

module _ {C : Type 0} (K : Kind) (means : C → K.V) (floor : Modules → List ℕ → List ℕ → C) (with-setting : Modules → List ℕ → List ℕ → ℕ → ℕ → C) where
  -- the walk has made so many steps over the job as it stands
  pub record Walked (m : Modules) (sheet : List ℕ) (w : Search C) : Type 0 where
    pub same : w.modules ≡ m
    pub some : 1 ≤ m.count
    pub made : ℕ
    pub at : state_of K means w ≡ after_steps K (bounding K means floor with-setting) m sheet (means w.ceiling) w.ahead made

  -- and so has every walk that is open
  abbrev pub Reached : Stand C → Type 0
  Reached s = IfSome s.current (Walked s.modules s.sheet)

  pub idle : (s : Stand C) → s.current ≡ None → Reached s
  idle s e = subst (λ c. IfSome c (Walked s.modules s.sheet)) (sym e) tt

  begun : (m : Modules) (sheet : List ℕ) (ahead : Bool) (ceiling : C) → 1 ≤ m.count → (w : Search C) → Starts K means m ahead ceiling w → Walked m sheet w
  begun m sheet ahead ceiling some w h = record {
    same = h.modules;
    some = some;
    made = 0;
    at = h.first sheet (walk_by K (bounding K means floor with-setting) m sheet ahead)
        ∙ sym (λ i. after_steps K (bounding K means floor with-setting) m sheet (means (h.below i)) (h.looks i) 0);
  }

  sat : (m : Modules) (sheet : List ℕ) (steps : ℕ) (w w' : Search C) (told : Sat) → Sits K means floor with-setting sheet steps w w' told → Walked m sheet w → Walked m sheet w'
  sat m sheet steps w w' told h r = record {
    same = h.same.modules ∙ r.same;
    some = r.some;
    made = steps + r.made;
    at =
        h.moved
        ∙ (λ i. steps_on (problem K (r.same i) sheet (means w.ceiling)) (by (λ p. means (floor (r.same i) sheet p)) (λ p j k. means (with-setting (r.same i) sheet p j k)) w.ahead) steps (r.at i))
        ∙ steps_add (problem K m sheet (means w.ceiling)) (walk_by K (bounding K means floor with-setting) m sheet w.ahead) steps r.made _
        ∙ sym (λ i. after_steps K (bounding K means floor with-setting) m sheet (means (h.same.ceiling i)) (h.same.ahead i) (steps + r.made));
  }

  -- the job stands as it did
  still : (s s' : Stand C) → s'.modules ≡ s.modules → s'.sheet ≡ s.sheet → IfSome s'.current (Walked s.modules s.sheet) → Reached s'
  still s s' e f h = subst₂ (λ m sheet. IfSome s'.current (Walked m sheet)) (sym e) (sym f) h

  unaltered : (s s' : Stand C) → s' ≡ s → Reached s → Reached s'
  unaltered s s' e r = subst Reached (sym e) r

  module _ (number space : ℕ) where
    begins : (ahead : Bool) (ceiling : C) (s : Stand C) (a : Answer C) (s' : Stand C) → Begins K means floor with-setting number space ahead ceiling s a s' → Reached s → Reached s'
    begins ahead ceiling s a s' h r =
        by_first (first (start_checks (is_open s.current) s.modules)) _ (Reached s') _ h
        (λ e d.
        let n = (none_fits (start_checks (is_open s.current) s.modules) e).1.0 in
        let some : 1 ≤ s.modules.count = let z = eqb-false s.modules.count 0 n in omega arith in
        still s s' d.2 d.3 (go some s'.current d.1))
        (λ e d. unaltered s s' d.1 r)
      where
        go : 1 ≤ s.modules.count → (c : Option (Search C)) → MatchOption c ⊥ (Starts K means s.modules ahead ceiling) → IfSome c (Walked s.modules s.sheet)
        go some None h = tt
        go some (Some w) h = begun s.modules s.sheet ahead ceiling some w h

    sits : (s s' : Stand C) (steps : ℕ) (told : Sat) (c c' : Option (Search C)) → SitsOpen K means floor with-setting s.sheet steps c c' told
        → IfSome c (Walked s.modules s.sheet) → IfSome c' (Walked s.modules s.sheet)
    sits s s' steps told None c' h r = absurd h
    sits s s' steps told (Some w) None h r = tt
    sits s s' steps told (Some w) (Some w') h r = sat s.modules s.sheet steps w w' told h r

    -- every call keeps it so
    pub keeps : (s : Stand C) (call : BothCall C) (a : Answer C) (s' : Stand C) → DoesBoth K means floor with-setting number space s call a s' → Reached s → Reached s'
    keeps s (StartAhead ceiling) a s' h r = begins true ceiling s a s' h r
    keeps s (Plain (Start ceiling)) a s' h r = begins false ceiling s a s' h r
    keeps s (Plain (Add n)) a s' h r = by_first (first (unless_walking (is_open s.current) (add_checks s.modules s.sheet n))) _ (Reached s') _ h
        (λ e d. idle s' (d.3 ∙ no_walk s.current (none_fits (unless_walking (is_open s.current) (add_checks s.modules s.sheet n)) e).1.0))
        (λ e d. unaltered s s' d.1 r)
    keeps s (Plain (Charge i k j l clash)) a s' h r = by_first (first (unless_walking (is_open s.current) (charge_checks s.modules s.sheet i k j l clash))) _ (Reached s') _ h
        (λ e d. idle s' (d.3 ∙ no_walk s.current (none_fits (unless_walking (is_open s.current) (charge_checks s.modules s.sheet i k j l clash)) e).1.0))
        (λ e d. unaltered s s' d.1 r)
    keeps s (Plain (Narrow i mask)) a s' h r = by_first (first (unless_walking (is_open s.current) (narrow_checks s.modules i mask))) _ (Reached s') _ h
        (λ e d. idle s' (d.3 ∙ no_walk s.current (none_fits (unless_walking (is_open s.current) (narrow_checks s.modules i mask)) e).0))
        (λ e d. unaltered s s' d.1 r)
    keeps s (Plain (Sit t n room)) a s' h r = by_first (first (sit_checks (is_open s.current) number s.sheet (min room space) t n)) _ (Reached s') _ h
        (λ e d. still s s' d.3 d.4 (sits s s' n d.0 s.current s'.current d.2 r))
        (λ e d. unaltered s s' d.1 r)
    keeps s (Plain (Weigh row)) a s' h r = by_first (first (weigh_checks s.modules s.sheet (row_of s.memory row))) _ (Reached s') _ h (λ e d. unaltered s s' d.3 r) (λ e d. unaltered s s' d.1 r)
    keeps s (Plain (WhatIf row i k)) a s' h r = by_first (first (what_if_checks s.modules s.sheet (row_of s.memory row) i k)) _ (Reached s') _ h (λ e d. unaltered s s' d.3 r) (λ e d. unaltered s s' d.1 r)
    keeps s (Plain (Close t row)) a s' h r = by_first (first (close_checks (is_open s.current) number (row_of s.memory row) t)) _ (Reached s') _ h (λ e d. idle s' d.2.1.1) (λ e d. unaltered s s' d.1 r)
