-- Lists of calls, and the walks that were finished when they were closed.
use Rattle.std.specs.Prelude.{◌≡◌, ℕ, ◌≤◌, Bool, false, cond, List, [], ◌∷◌, ◌++◌, take}
use Rattle.std.proofs.Math.Option.{Option, some, none}
use Rattle.std.specs.declared.option.Option as std
use Rattle.std.specs.declared.option.Option.TheVariants as opt
use Rattle.charges.specs.Kinds.{Kind, AtMost}
use Rattle.tables.specs.declared.modules.Modules.{Modules}
use Rattle.bounds.specs.Beginnings.{Beginning}
use Rattle.walks.specs.declared.outcome.Closed.{Closed}
use Rattle.walks.specs.declared.state.Search.{Search}
use Rattle.walks.specs.Outcomes.{fixed}
use Rattle.finding.specs.Alike.{Alike}
use Rattle.finding.specs.Bounding.{Bounding, LawfulBounding}
use Rattle.finding.specs.Found.{Found}
use Rattle.runs.specs.declared.answer.Answer.{Answer}
use Rattle.runs.specs.declared.answer.Answer.TheVariants as answer
use Rattle.runs.specs.declared.call.BothCall.{BothCall}
use Rattle.runs.specs.declared.call.BothCall.TheVariants.{Plain, StartAhead}
use Rattle.runs.specs.declared.call.Call.TheVariants.{Add, Charge, Narrow, Start, Sit, Weigh, WhatIf, Close}
use Rattle.runs.specs.Does.{DoesBoth}
use Rattle.runs.specs.Stands.{Stand, row_of}

-- a walk that was finished when it was closed: over which job, below which ceiling, looking ahead or not; and the setup in the row, if one was told, the charge and the steps
pub record Finish (V : Type 0) : Type 0 where
  pub modules : Modules
  pub sheet : List ℕ
  pub ceiling : V
  pub ahead : Bool
  pub setup : Option (List ℕ)
  pub charge : V
  pub steps : ℕ

-- it holds of each
abbrev pub Every : {A : Type 0} → (A → Type 0) → List A → Type 0
Every P [] = Unit {0}
Every P (x ∷ xs) = P x × Every P xs

-- a job without modules, and no walk open
pub record Fresh {C : Type 0} (s : Stand C) : Type 0 where
  pub empty : s.modules.count ≡ 0
  pub idle : s.current ≡ opt.None

-- a bound's floors and answers, as the charges that they stand for
abbrev pub bounding : {C : Type 0} (K : Kind) → (C → K.V) → (Modules → List ℕ → List ℕ → C) → (Modules → List ℕ → List ℕ → ℕ → ℕ → C) → Bounding K
bounding K means floor with-setting = record { floor = λ m sheet p. means (floor m sheet p); answer = λ m sheet p j k. means (with-setting m sheet p j k) }

-- On a job of this number, whose bound has these floors and answers, with scratch for `space` charges at most.
module _ {C : Type 0} (K : Kind) (means : C → K.V) (floor : Modules → List ℕ → List ℕ → C) (with-setting : Modules → List ℕ → List ℕ → ℕ → ℕ → C) (number space : ℕ) where
  -- each call is answered by the rules, from where the one before it left the job
  abbrev pub Runs : Stand C → List (BothCall C) → List (Answer C) → Stand C → Type 0
  Runs s [] [] s' = s' ≡ s
  Runs s [] (a ∷ answers) s' = ⊥
  Runs s (c ∷ cs) [] s' = ⊥
  Runs s (c ∷ cs) (a ∷ answers) s'' = (s' : Stand C) × DoesBoth K means floor with-setting number space s c a s' × Runs s' cs answers s''

  -- what was walked, and what was told of it and left in the row, where the outcome is one of a finished walk
  abbrev pub finish_told : std.Option (Search C) → Stand C → Closed C → List ℕ → List (Finish K.V)
  finish_told opt.None s told row = []
  finish_told (opt.Some w) s told row =
      cond (fixed told.outcome).finished
      (record {
        modules = s.modules;
        sheet = s.sheet;
        ceiling = means w.ceiling;
        ahead = w.ahead;
        setup = cond (fixed told.outcome).with_setup (some (take s.modules.count row)) none;
        charge = means told.charge;
        steps = told.steps;
      } ∷ []) []

  -- what a call finishes: a close does, where its outcome is one of a finished walk
  abbrev pub finish_of : Stand C → BothCall C → Answer C → Stand C → List (Finish K.V)
  finish_of s (StartAhead ceiling) a s' = []
  finish_of s (Plain (Add n)) a s' = []
  finish_of s (Plain (Charge i k j l clash)) a s' = []
  finish_of s (Plain (Narrow i mask)) a s' = []
  finish_of s (Plain (Start ceiling)) a s' = []
  finish_of s (Plain (Sit t n room)) a s' = []
  finish_of s (Plain (Weigh row)) a s' = []
  finish_of s (Plain (WhatIf row i k)) a s' = []
  finish_of s (Plain (Close t row)) (answer.Module i) s' = []
  finish_of s (Plain (Close t row)) answer.Done s' = []
  finish_of s (Plain (Close t row)) (answer.Charge v) s' = []
  finish_of s (Plain (Close t row)) (answer.Ticket n) s' = []
  finish_of s (Plain (Close t row)) (answer.Sat told) s' = []
  finish_of s (Plain (Close t row)) (answer.Refused e) s' = []
  finish_of s (Plain (Close t row)) (answer.Closed told) s' = finish_told s.current s told (row_of s'.memory row)

  -- the walks of a run that were finished when they were closed
  abbrev pub finishes : (s : Stand C) (cs : List (BothCall C)) (answers : List (Answer C)) (s' : Stand C) → Runs s cs answers s' → List (Finish K.V)
  finishes s [] [] s' run = []
  finishes s [] (a ∷ answers) s' run = []
  finishes s (c ∷ cs) [] s' run = []
  finishes s (c ∷ cs) (a ∷ answers) s'' run = finish_of s c a run.0 ++ finishes run.0 cs answers s'' run.2

-- What is found: the setup is the first, in reading order, of the cheapest allowed setups below the ceiling, if there is one; and the steps are counted.
abbrev pub Finds : (K : Kind) → Bounding K → Finish K.V → Type 0
Finds K B f = (1 ≤ f.modules.count) × Found K B f.modules f.sheet f.ceiling f.ahead f.setup f.charge f.steps

-- Two finished walks over like jobs, below the same ceiling, agree; and higher floors cost no more steps than lower floors on a plain walk.
abbrev pub AgreeOn : (K : Kind) → Bounding K → Bounding K → Finish K.V → Finish K.V → Type 0
AgreeOn K B B' f f' =
    Alike f.modules f'.modules f.sheet f'.sheet → f.ceiling ≡ f'.ceiling
    → (f.setup ≡ f'.setup) × (f.charge ≡ f'.charge)
    × (f'.ahead ≡ false → ((p : List ℕ) → Beginning f.modules p → AtMost K (B'.floor f'.modules f'.sheet p) (B.floor f.modules f.sheet p)) → f.steps ≤ f'.steps)

-- A list of calls on a fresh job, carried out: each answer is what the rules say, every walk that was finished when it was closed has found,
-- and it agrees with every such walk, of this list or of any other list on a fresh job with any lawful bound.
pub record Performed {C : Type 0} (K : Kind) (means : C → K.V) (floor : Modules → List ℕ → List ℕ → C) (with-setting : Modules → List ℕ → List ℕ → ℕ → ℕ → C) (number space : ℕ)
    (sheet memory : List ℕ) (calls : List (BothCall C)) (answers : List (Answer C)) (sheet' memory' : List ℕ) : Type 0 where
  pub before : Stand C
  pub fresh : Fresh before
  pub sheet_before : before.sheet ≡ sheet
  pub memory_before : before.memory ≡ memory
  pub after : Stand C
  pub sheet_after : after.sheet ≡ sheet'
  pub memory_after : after.memory ≡ memory'
  pub run : Runs K means floor with-setting number space before calls answers after
  pub finds : Every (Finds K (bounding K means floor with-setting)) (finishes K means floor with-setting number space before calls answers after run)
  pub agrees : (floor' : Modules → List ℕ → List ℕ → C) (with-setting' : Modules → List ℕ → List ℕ → ℕ → ℕ → C) (number' space' : ℕ) → LawfulBounding K (bounding K means floor' with-setting')
      → (s s' : Stand C) (calls' : List (BothCall C)) (answers' : List (Answer C)) → Fresh s → (run' : Runs K means floor' with-setting' number' space' s calls' answers' s')
      → Every (λ f. Every (AgreeOn K (bounding K means floor with-setting) (bounding K means floor' with-setting') f) (finishes K means floor' with-setting' number' space' s calls' answers' s' run'))
      (finishes K means floor with-setting number space before calls answers after run)
