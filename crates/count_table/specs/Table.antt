-- The table of counts in a scratch, and the answers that it becomes.
use Rattle.std.specs.Prelude.{◌≡◌, ℕ, ◌+◌, ◌<◌, ◌≤◌, Bool, List}
use Rattle.charges.specs.Kinds.{Kind}
use Rattle.tables.specs.declared.modules.Modules.{Modules}
use Rattle.tables.specs.Joins.{joined_from}
use Rattle.tables.specs.Modules.{allows}
use Rattle.bounds.specs.Answers.{Has, Rows}
use Rattle.counts.specs.Floors.{floor_over, only}
use Rattle.counts.specs.Least.{least}

-- the least of each module from d to before n stands at 160 + j
abbrev pub Leasts : {C : Type 0} (K : Kind) → (C → K.V) → (ℕ → ℕ → Bool) → (ℕ → ℕ → K.V) → ℕ → ℕ → List C → Type 0
Leasts K means passes value d n xs = (j : ℕ) → d ≤ j → j < n → Has means xs (160 + j) (least K (passes j) (value j))

-- the counts f stand in their rows, and the least of each module
pub record Tabled {C : Type 0} (K : Kind) (means : C → K.V) (m : Modules) (f : ℕ → ℕ → K.V) (d : ℕ) (xs : List C) : Type 0 where
  pub counts : Rows means (allows m) f d m.count xs
  pub leasts : Leasts K means (allows m) f d m.count xs

-- a charge joined with the least of each module but j, and with the count of setting k of module j
abbrev pub chosen : (K : Kind) → Modules → (ℕ → ℕ → K.V) → K.V → ℕ → ℕ → ℕ → K.V
chosen K m f start d j k =
    let mins : ℕ → K.V = λ i. least K (allows m i) (f i) in
    K.join (K.join (K.join start (joined_from K mins d j)) (joined_from K mins (j + 1) m.count)) (f j k)

-- the counts f became answers, and the result is the charge joined with the least of each module
pub record Answered {C : Type 0} (K : Kind) (means : C → K.V) (m : Modules) (f : ℕ → ℕ → K.V) (start : K.V) (d : ℕ) (r : K.V) (xs : List C) : Type 0 where
  pub value : r ≡ K.join start (joined_from K (λ i. least K (allows m i) (f i)) d m.count)
  pub answers : Rows means (allows m) (chosen K m f start d) d m.count xs

-- over the counts f: r is the floor at p, and the floors for one setting of a module from d on stand in the rows
pub record Prepared {C : Type 0} (K : Kind) (means : C → K.V) (m : Modules) (sheet p : List ℕ) (f : ℕ → ℕ → K.V) (d : ℕ) (r : K.V) (xs : List C) : Type 0 where
  pub value : r ≡ floor_over K m sheet (allows m) f p
  pub answers : Rows means (allows m) (λ j k. floor_over K m sheet (only m j k) f p) d m.count xs
