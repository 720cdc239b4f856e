-- A list of calls, carried out so far.
use Rattle.std.proofs.Common.{◌≡◌, ℕ, ◌+◌, ◌<◌, List, [], ◌∷◌, ◌++◌, map, length, get_or, take, drop, set, sym, refl, ap, ◌∙◌, subst₂, add-one, arith, length-set, take-suc, take-suc-set}
use mathlib.Core.List.{map-append}
use Rattle.std.proofs.lemmas.List.{drop-set-lt, drop-drop}
use Rattle.charges.specs.Kinds.{Kind}
use Rattle.tables.specs.declared.modules.Modules.{Modules}
use Rattle.runs.specs.declared.answer.Answer.{Answer}
use Rattle.runs.specs.declared.call.BothCall.{BothCall}
use Rattle.runs.specs.Does.{DoesBoth}
use Rattle.runs.specs.Runs.{Runs}
use Rattle.runs.specs.Stands.{Stand}
use Rattle.runs.proofs.Performing.{runs_more}

map_take : {A B : Type 0} (f : A → B) (xs : List A) (i : ℕ) (d : A) → i < length xs → map f (take (i + 1) xs) ≡ map f (take i xs) ++ (f (get_or xs i d) ∷ [])
map_take f xs i d l = ap (map f) (rw add-one (take-suc xs i d l)) ∙ map-append f (take i xs) (get_or xs i d ∷ [])

module _ {C X : Type 0} (K : Kind) (means : C → K.V) (floor : Modules → List ℕ → List ℕ → C) (with-setting : Modules → List ℕ → List ℕ → ℕ → ℕ → C) (number space : ℕ)
    (as_call : X → BothCall C) (before : Stand C) (calls : List X) (blank : List (Answer C)) where
  pub record Carried (i : ℕ) (now : Stand C) (answers : List (Answer C)) : Type 0 where
    pub runs : Runs K means floor with-setting number space before (map as_call (take i calls)) (take i answers) now
    pub rest : drop i answers ≡ drop i blank
    pub long : length answers ≡ length blank

  pub carried_more : (i : ℕ) (now after : Stand C) (answers : List (Answer C)) (x : X) (a : Answer C) → i < length calls → i < length answers → x ≡ get_or calls i x
      → DoesBoth K means floor with-setting number space now (as_call x) a after → Carried i now answers → Carried (i + 1) after (set answers i a)
  carried_more i now after answers x a l m e d h = record {
    runs = subst₂ (λ cs as-told. Runs K means floor with-setting number space before cs as-told after)
        (sym (map_take as_call calls i x l ∙ ap (λ y. map as_call (take i calls) ++ (as_call y ∷ [])) (sym e)))
        (sym (rw add-one (take-suc-set answers i a m)))
        (runs_more K means floor with-setting number space before now after (map as_call (take i calls)) (take i answers) (as_call x) a h.runs d);
    rest = drop-set-lt (i + 1) answers i a (omega arith) ∙ sym (drop-drop 1 i answers) ∙ ap (drop 1) h.rest ∙ drop-drop 1 i blank;
    long = length-set answers i a ∙ h.long;
  }
