-- Runs, and what is found in them.
use Rattle.std.proofs.Common.{ℕ, List, [], ◌∷◌, ◌++◌, sym, refl, subst}
use Rattle.charges.specs.Kinds.{Kind, Lawful}
use Rattle.tables.specs.declared.modules.Modules.{Modules}
use Rattle.finding.specs.Bounding.{Bounding, LawfulBounding}
use Rattle.finding.specs.Found.{Found}
use Rattle.finding.proofs.Agreeing.{agree}
use Rattle.runs.specs.declared.answer.Answer.{Answer}
use Rattle.runs.specs.declared.call.BothCall.{BothCall}
use Rattle.runs.specs.Does.{DoesBoth}
use Rattle.runs.specs.Runs.{Finish, Every, Fresh, bounding, Runs, finish_of, finishes, Finds, AgreeOn, Performed}
use Rattle.runs.specs.Stands.{Stand}
use Rattle.runs.proofs.Ended.{finds}
use Rattle.runs.proofs.Reached.{Reached, idle, keeps}

every_append : {A : Type 0} (P : A → Type 0) (xs ys : List A) → Every P xs → Every P ys → Every P (xs ++ ys)
every_append P [] ys h g = g
every_append P (x ∷ xs) ys h g = (h.0, every_append P xs ys h.1 g)

every_one : {A : Type 0} (P Q : A → Type 0) (xs : List A) → ((x : A) → P x → Q x) → Every P xs → Every Q xs
every_one P Q [] f h = tt
every_one P Q (x ∷ xs) f h = (f x h.0, every_one P Q xs f h.1)

-- one call more
pub runs_more : {C : Type 0} (K : Kind) (means : C → K.V) (floor : Modules → List ℕ → List ℕ → C) (with-setting : Modules → List ℕ → List ℕ → ℕ → ℕ → C) (number space : ℕ)
    (s s' s'' : Stand C) (calls : List (BothCall C)) (answers : List (Answer C)) (call : BothCall C) (a : Answer C)
    → Runs K means floor with-setting number space s calls answers s' → DoesBoth K means floor with-setting number space s' call a s''
    → Runs K means floor with-setting number space s (calls ++ (call ∷ [])) (answers ++ (a ∷ [])) s''
runs_more K means floor with-setting number space s s' s'' [] [] call a h d = (s'', subst (λ x. DoesBoth K means floor with-setting number space x call a s'') h d, refl)
runs_more K means floor with-setting number space s s' s'' [] (b ∷ answers) call a h d = absurd h
runs_more K means floor with-setting number space s s' s'' (c ∷ calls) [] call a h d = absurd h
runs_more K means floor with-setting number space s s' s'' (c ∷ calls) (b ∷ answers) call a h d =
    (h.0, h.1, runs_more K means floor with-setting number space h.0 s' s'' calls answers call a h.2 d)

module _ {C : Type 0} (K : Kind) (L : Lawful K) (means : C → K.V) where
  module _ (floor : Modules → List ℕ → List ℕ → C) (with-setting : Modules → List ℕ → List ℕ → ℕ → ℕ → C) (number space : ℕ) (lawful : LawfulBounding K (bounding K means floor with-setting)) where
    each_found : (s s' : Stand C) (calls : List (BothCall C)) (answers : List (Answer C)) (run : Runs K means floor with-setting number space s calls answers s') → Reached K means floor with-setting s
        → Every (Finds K (bounding K means floor with-setting)) (finishes K means floor with-setting number space s calls answers s' run)
    each_found s s' [] [] run r = tt
    each_found s s' [] (a ∷ answers) run r = absurd run
    each_found s s' (c ∷ calls) [] run r = absurd run
    each_found s s' (c ∷ calls) (a ∷ answers) run r =
        every_append (Finds K (bounding K means floor with-setting)) (finish_of K means floor with-setting number space s c a run.0) (finishes K means floor with-setting number space run.0 calls answers s' run.2)
        (finds K L means floor with-setting lawful number space s c a run.0 run.1 r)
        (each_found run.0 s' calls answers run.2 (keeps K means floor with-setting number space s c a run.0 run.1 r))

    pub all_found : (s s' : Stand C) (calls : List (BothCall C)) (answers : List (Answer C)) → Fresh s → (run : Runs K means floor with-setting number space s calls answers s')
        → Every (Finds K (bounding K means floor with-setting)) (finishes K means floor with-setting number space s calls answers s' run)
    all_found s s' calls answers fresh run = each_found s s' calls answers run (idle K means floor with-setting s fresh.idle)

  two_agree : (B B' : Bounding K) (f f' : Finish K.V) → Finds K B f → Finds K B' f' → AgreeOn K B B' f f'
  two_agree B B' f f' g g' alike same =
      agree K L B B' f.modules f'.modules f.sheet f'.sheet f.ceiling f.ahead f'.ahead f.setup f'.setup f.charge f'.charge f.steps f'.steps g.0 alike g.1
      (subst (λ c. Found K B' f'.modules f'.sheet c f'.ahead f'.setup f'.charge f'.steps) (sym same) g'.1)

  pub performed : (floor : Modules → List ℕ → List ℕ → C) (with-setting : Modules → List ℕ → List ℕ → ℕ → ℕ → C) (number space : ℕ) → LawfulBounding K (bounding K means floor with-setting)
      → (before after : Stand C) (calls : List (BothCall C)) (answers : List (Answer C)) → Fresh before → Runs K means floor with-setting number space before calls answers after
      → Performed K means floor with-setting number space before.sheet before.memory calls answers after.sheet after.memory
  performed floor with-setting number space lawful before after calls answers fresh run = record {
    before = before;
    fresh = fresh;
    sheet_before = refl;
    memory_before = refl;
    after = after;
    sheet_after = refl;
    memory_after = refl;
    run = run;
    finds = all_found floor with-setting number space lawful before after calls answers fresh run;
    agrees = λ floor' with-setting' number' space' lawful' s s' calls' answers' fresh' run'.
        every_one (Finds K (bounding K means floor with-setting)) _ (finishes K means floor with-setting number space before calls answers after run)
        (λ f g. every_one (Finds K (bounding K means floor' with-setting')) (AgreeOn K (bounding K means floor with-setting) (bounding K means floor' with-setting') f) (finishes K means floor' with-setting' number' space' s calls' answers' s' run')
        (λ f' g'. two_agree (bounding K means floor with-setting) (bounding K means floor' with-setting') f f' g g') (all_found floor' with-setting' number' space' lawful' s s' calls' answers' fresh' run'))
        (all_found floor with-setting number space lawful before after calls answers fresh run);
  }
