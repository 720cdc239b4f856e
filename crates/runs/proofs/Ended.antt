-- What a close tells of a finished walk is found.
use Rattle.std.proofs.Common.{◌≡◌, ℕ, ◌-◌, ◌≤◌, min, Bool, true, false, cond, List, [], ◌∷◌, ◌++◌, length, take, drop, IfSome, sym, refl, ap, ◌∙◌, subst, ap₂, arith, length-append, length-drop}
use mathlib.Core.Option.{Option, some, none}
use lib.Seq.{take-append_seam, drop-append_seam}
use borrow.Rule.Slice.PartMut.{same_len_mid}
use Rattle.std.specs.declared.option.Option as std
use Rattle.std.specs.declared.option.Option.TheVariants as opt
use Rattle.std.proofs.lemmas.List.{length-take-le}
use Rattle.std.proofs.lemmas.Bool.{false≢true, ltb-false}
use Rattle.theory.specs.Machine.{Level, State}
use Rattle.charges.specs.Kinds.{Kind, Lawful}
use Rattle.tables.specs.declared.modules.Modules.{Modules}
use Rattle.walks.specs.declared.outcome.Closed.{Closed}
use Rattle.walks.specs.declared.state.Search.{Search}
use Rattle.walks.specs.Outcomes.{fixed, none_left, finished, is_some, written}
use Rattle.walks.specs.States.{state_of, limit_of}
use Rattle.finding.specs.Bounding.{LawfulBounding}
use Rattle.finding.specs.Found.{Found}
use Rattle.finding.proofs.Allowed.{setups_fit}
use Rattle.finding.proofs.Endings.{found_at_end}
use Rattle.jobs.specs.Checks.{close_checks}
use Rattle.jobs.specs.Refusals.{first}
use Rattle.jobs.specs.Searching.{is_open, ClosesOpen}
use Rattle.runs.specs.declared.answer.Answer.{Answer}
use Rattle.runs.specs.declared.call.Call.TheVariants.{Add, Charge, Narrow, Start, Sit, Weigh, WhatIf, Close}
use Rattle.runs.specs.declared.call.BothCall.{BothCall}
use Rattle.runs.specs.declared.call.BothCall.TheVariants.{Plain, StartAhead}
use Rattle.runs.specs.declared.call.Row.{Row}
use Rattle.runs.specs.Does.{DoesBoth}
use Rattle.runs.specs.Runs.{bounding, Every, Finds, finish_told, finish_of}
use Rattle.runs.specs.Stands.{Stand, begin_of, size_of, row_of, with_row}
use Rattle.runs.proofs.Reached.{Walked, Reached, by_first, none_fits}

-- a row that was written is read again
pub row_back : (memory : List ℕ) (row : Row) (bytes : List ℕ) → length bytes ≡ length (row_of memory row) → row_of (with_row memory row bytes) row ≡ bytes
row_back memory row bytes e =
    ap₂ (λ n b. take n (drop b (with_row memory row bytes))) sizes begins
    ∙ ap (λ xs. take (size_of memory row) xs) dropped
    ∙ ap (λ n. take n (bytes ++ rest)) (sym (e ∙ size))
    ∙ take-append_seam bytes rest
  where
    rest : List ℕ
    rest = drop (size_of memory row) (drop (begin_of memory row) memory)

    all : length (with_row memory row bytes) ≡ length memory
    all = same_len_mid (begin_of memory row) (size_of memory row) memory bytes e

    begins : begin_of (with_row memory row bytes) row ≡ begin_of memory row
    begins = ap (min row.from) all

    sizes : size_of (with_row memory row bytes) row ≡ size_of memory row
    sizes = ap₂ (λ a b. min row.len (a - b)) all begins

    size : length (row_of memory row) ≡ size_of memory row
    size = length-take-le (size_of memory row) (drop (begin_of memory row) memory) (let d = length-drop (begin_of memory row) memory in omega arith)

    front : length (take (begin_of memory row) memory) ≡ begin_of memory row
    front = length-take-le (begin_of memory row) memory (omega arith)

    dropped : drop (begin_of memory row) (with_row memory row bytes) ≡ bytes ++ drop (size_of memory row) (drop (begin_of memory row) memory)
    dropped = ap (λ n. drop n (with_row memory row bytes)) (sym front) ∙ drop-append_seam (take (begin_of memory row) memory) (bytes ++ drop (size_of memory row) (drop (begin_of memory row) memory))

no_path : (p : List Level) → none_left p ≡ true → p ≡ []
no_path [] e = refl
no_path (l ∷ up) e = absurd (false≢true e)

module _ {C : Type 0} (K : Kind) (L : Lawful K) (means : C → K.V) (floor : Modules → List ℕ → List ℕ → C) (with-setting : Modules → List ℕ → List ℕ → ℕ → ℕ → C)
    (lawful : LawfulBounding K (bounding K means floor with-setting)) where
  at_end : (m : Modules) (sheet : List ℕ) (w : Search C) → Walked K means floor with-setting m sheet w → finished (state_of K means w) ≡ true
      → Found K (bounding K means floor with-setting) m sheet (means w.ceiling) w.ahead (state_of K means w).best (means (limit_of w)) w.steps
  at_end m sheet w r e =
      subst (λ (s : State K.V). Found K (bounding K means floor with-setting) m sheet (means w.ceiling) w.ahead s.best s.limit s.steps) (sym r.at)
      (found_at_end K L (bounding K means floor with-setting) lawful m sheet (means w.ceiling) w.ahead r.some r.made
      (ap (λ (s : State K.V). s.path) (sym r.at) ∙ no_path (state_of K means w).path e))

  found_same : (m : Modules) (sheet : List ℕ) (ceiling : K.V) (ahead : Bool) {best best' : Option (List ℕ)} {charge charge' : K.V} {steps steps' : ℕ}
      → Found K (bounding K means floor with-setting) m sheet ceiling ahead best charge steps → best ≡ best' → charge ≡ charge' → steps ≡ steps'
      → Found K (bounding K means floor with-setting) m sheet ceiling ahead best' charge' steps'
  found_same m sheet ceiling ahead {best} {best'} {charge} {charge'} {steps} {steps'} f a b d =
      subst (λ x. Found K (bounding K means floor with-setting) m sheet ceiling ahead x charge' steps') a
      (subst (λ x. Found K (bounding K means floor with-setting) m sheet ceiling ahead best x steps') b (subst (Found K (bounding K means floor with-setting) m sheet ceiling ahead best charge) d f))

  -- of the setup that is told, and the row that is left
  told_found : (m : Modules) (sheet : List ℕ) (ceiling : K.V) (ahead : Bool) (limit charge : K.V) (steps told-steps : ℕ) (with_setup : Bool) (best : Option (List ℕ)) (row bytes back : List ℕ)
      → Found K (bounding K means floor with-setting) m sheet ceiling ahead best limit steps
      → with_setup ≡ is_some best → bytes ≡ written best row → charge ≡ cond with_setup limit ceiling → told-steps ≡ steps
      → 20 ≤ length row → (length bytes ≡ length row → back ≡ bytes)
      → Found K (bounding K means floor with-setting) m sheet ceiling ahead (cond with_setup (some (take m.count back)) none) charge told-steps
  told_found m sheet ceiling ahead limit charge steps told-steps with_setup none row bytes back f is w c t long same =
      found_same m sheet ceiling ahead f (sym (ap (λ b. cond b (some (take m.count back)) none) is)) (f.cheapest.0 ∙ sym (c ∙ ap (λ b. cond b limit ceiling) is)) (sym t)
  told_found m sheet ceiling ahead limit charge steps told-steps with_setup (some x) row bytes back f is w c t long same =
      found_same m sheet ceiling ahead f (sym (ap (λ b. cond b (some (take m.count back)) none) is ∙ ap {B = Option (List ℕ)} some row_has)) (sym (c ∙ ap (λ b. cond b limit ceiling) is)) (sym t)
    where
      size : length x ≡ m.count
      size = ((setups_fit m x).0 f.cheapest.0).0

      full : length bytes ≡ length row
      full = ap length w ∙ length-append x (drop (length x) row) ∙ omega (arith, size, m.few, long, length-drop (length x) row)

      row_has : take m.count back ≡ x
      row_has = ap (take m.count) (same full ∙ w) ∙ ap (λ n. take n (x ++ drop (length x) row)) (sym size) ∙ take-append_seam x (drop (length x) row)

  -- what is told of a close is found, where the walk is finished
  told_ends : (s : Stand C) (current : std.Option (Search C)) (after : std.Option (Search C)) (told : Closed C) (row bytes back : List ℕ)
      → IfSome current (Walked K means floor with-setting s.modules s.sheet) → ClosesOpen K means current row told bytes after
      → 20 ≤ length row → (length bytes ≡ length row → back ≡ bytes)
      → Every (Finds K (bounding K means floor with-setting)) (finish_told K means floor with-setting 0 0 current s told back)
  told_ends s opt.None after told row bytes back r h long same = tt
  told_ends s (opt.Some w) after told row bytes back r h long same = go (fixed told.outcome).finished refl
    where
      go : (b : Bool) → (fixed told.outcome).finished ≡ b
          → Every (Finds K (bounding K means floor with-setting)) (cond b (record { modules = s.modules; sheet = s.sheet; ceiling = means w.ceiling; ahead = w.ahead; setup = cond (fixed told.outcome).with_setup (some (take s.modules.count back)) none; charge = means told.charge; steps = told.steps } ∷ []) [])
      go false e = tt
      go true e = (
        (
          r.some,
          told_found s.modules s.sheet (means w.ceiling) w.ahead (means (limit_of w)) (means told.charge) w.steps told.steps (fixed told.outcome).with_setup (state_of K means w).best row bytes back
              (at_end s.modules s.sheet w r (sym h.0.finished ∙ e)) h.0.with_setup h.0.row h.0.charge h.0.steps long same,
        ),
        tt,
      )

  -- a call that finishes a walk has found
  pub finds : (number space : ℕ) (s : Stand C) (call : BothCall C) (a : Answer C) (s' : Stand C) → DoesBoth K means floor with-setting number space s call a s' → Reached K means floor with-setting s
      → Every (Finds K (bounding K means floor with-setting)) (finish_of K means floor with-setting number space s call a s')
  finds number space s (StartAhead ceiling) a s' h r = tt
  finds number space s (Plain (Add n)) a s' h r = tt
  finds number space s (Plain (Charge i k j l clash)) a s' h r = tt
  finds number space s (Plain (Narrow i mask)) a s' h r = tt
  finds number space s (Plain (Start ceiling)) a s' h r = tt
  finds number space s (Plain (Sit t n room)) a s' h r = tt
  finds number space s (Plain (Weigh row)) a s' h r = tt
  finds number space s (Plain (WhatIf row i k)) a s' h r = tt
  finds number space s (Plain (Close t row)) a s' h r =
      by_first (first (close_checks (is_open s.current) number (row_of s.memory row) t)) _ (Every (Finds K (bounding K means floor with-setting)) (finish_of K means floor with-setting number space s (Plain (Close t row)) a s')) _ h
      (λ e d.
      let long : 20 ≤ length (row_of s.memory row) = ltb-false (length (row_of s.memory row)) 20 (none_fits (close_checks (is_open s.current) number (row_of s.memory row) t) e).0 in
      subst (λ x. Every (Finds K (bounding K means floor with-setting)) (finish_of K means floor with-setting number space s (Plain (Close t row)) x s')) (sym d.1)
      (told_ends s s.current s'.current d.0 (row_of s.memory row) d.2.0 (row_of s'.memory row) r d.2.1 long
      (λ l. ap (λ m. row_of m row) d.2.2 ∙ row_back s.memory row d.2.0 l)))
      (λ e d. subst (λ x. Every (Finds K (bounding K means floor with-setting)) (finish_of K means floor with-setting number space s (Plain (Close t row)) x s')) (sym d.0) tt)
