-- What stands of every walk of a job, for charges of one kind.
use Rattle.std.specs.Prelude.{◌≡◌, ℕ, ◌≤◌, Bool, false, ◌↔◌, List, [], length}
use Rattle.std.proofs.Math.Option.{Option}
use Rattle.theory.specs.Tree.{Fits}
use Rattle.theory.specs.Machine.{beginning}
use Rattle.charges.specs.Kinds.{Kind, AtMost}
use Rattle.tables.specs.declared.modules.Modules.{Modules}
use Rattle.bounds.specs.Beginnings.{Beginning, Setup}
use Rattle.walks.specs.Settings.{domains}
use Rattle.finding.specs.Bounding.{Bounding, LawfulBounding}
use Rattle.finding.specs.Found.{after_steps, all_looks, Found, FoundSoFar}
use Rattle.finding.specs.Alike.{Alike}

-- what fits the domains are the allowed setups, with one setting for each module and no more
abbrev pub SetupsFit : Type 0
SetupsFit = (m : Modules) (y : List ℕ) → Fits y (domains m) ↔ ((length y ≡ m.count) × Setup m y)

-- a finished walk has the first of the cheapest
abbrev pub FindsAtEnd : Kind → Type 0
FindsAtEnd K = (B : Bounding K) → LawfulBounding K B → (m : Modules) (sheet : List ℕ) (ceiling : K.V) (ahead : Bool) → 1 ≤ m.count → (n : ℕ)
    → let s = after_steps K B m sheet ceiling ahead n in
    s.path ≡ [] → Found K B m sheet ceiling ahead s.best s.limit s.steps

-- one on its way has the first of the cheapest so far
abbrev pub FindsSoFar : Kind → Type 0
FindsSoFar K = (B : Bounding K) → LawfulBounding K B → (m : Modules) (sheet : List ℕ) (ceiling : K.V) (ahead : Bool) → 1 ≤ m.count → (n : ℕ)
    → let s = after_steps K B m sheet ceiling ahead n in
    ¬ (s.path ≡ []) → FoundSoFar K B m sheet ceiling ahead (beginning s.path) s.best s.limit s.steps

-- with one step for each beginning that it looks at, a walk is finished
abbrev pub Ends : Kind → Type 0
Ends K = (B : Bounding K) → LawfulBounding K B → (m : Modules) (sheet : List ℕ) (ceiling : K.V) (ahead : Bool) → 1 ≤ m.count
    → (after_steps K B m sheet ceiling ahead (all_looks K B m sheet ceiling ahead)).path ≡ []

-- finished walks of jobs that are alike found the same, and one with floors as high took no more steps than one that does not look ahead
abbrev pub Agree : Kind → Type 0
Agree K = (B B' : Bounding K) (m m' : Modules) (sheet sheet' : List ℕ) (ceiling : K.V) (ahead ahead' : Bool)
    (best best' : Option (List ℕ)) (charge charge' : K.V) (steps steps' : ℕ)
    → 1 ≤ m.count → Alike m m' sheet sheet'
    → Found K B m sheet ceiling ahead best charge steps → Found K B' m' sheet' ceiling ahead' best' charge' steps'
    → (best ≡ best') × (charge ≡ charge')
    × (ahead' ≡ false → ((p : List ℕ) → Beginning m p → AtMost K (B'.floor m' sheet' p) (B.floor m sheet p)) → steps ≤ steps')
