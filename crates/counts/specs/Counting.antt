-- What it says of a closure that it counts the settings of the modules from d to before n.
use Rattle.std.specs.Prelude.{◌≡◌, ℕ, ◌<◌, ◌≤◌}

-- it may be called for each
abbrev pub MayCount : (ℕ → ℕ → Type 0) → ℕ → ℕ → Type 0
MayCount pre d n = (j k : ℕ) → d ≤ j → j < n → k < 8 → pre j k

-- its results stand for the values
abbrev pub Counts : {C V : Type 0} → (C → V) → (ℕ → ℕ → C → Type 0) → (ℕ → ℕ → V) → ℕ → ℕ → Type 0
Counts {C} means post value d n = (j k : ℕ) → d ≤ j → j < n → k < 8 → (r : C) → post j k r → means r ≡ value j k
