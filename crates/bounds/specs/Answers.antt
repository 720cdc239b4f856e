-- What a prepared scratch holds: at 8j + k the answer for setting k of module j.
use Rattle.std.specs.Prelude.{◌≡◌, ℕ, ◌+◌, ◌*◌, ◌<◌, ◌≤◌, Bool, true, ◌⊎◌, List, slice_index_or}

-- xs has at i a value that stands for v
abbrev pub Has : {C V : Type 0} → (C → V) → List C → ℕ → V → Type 0
Has {C} means xs i v = (z : C) → means (slice_index_or xs i z) ≡ v

-- what stands outside the row of module j, 8j to 8j + 7, is as it was
abbrev pub SameButRow : {C : Type 0} → ℕ → List C → List C → Type 0
SameButRow {C} j before after = (q : ℕ) → (q < 8 * j) ⊎ (8 * j + 8 ≤ q) → (z : C) → slice_index_or after q z ≡ slice_index_or before q z

-- what stands outside the rows of the modules from d to before n is as it was
abbrev pub SameButRows : {C : Type 0} → ℕ → ℕ → List C → List C → Type 0
SameButRows {C} d n before after = (q : ℕ) → (q < 8 * d) ⊎ (8 * n ≤ q) → (z : C) → slice_index_or after q z ≡ slice_index_or before q z

-- in the row of module j, for each setting k that passes, what stands is what `gives k` allows of what stood there
abbrev pub RowChanged : {C : Type 0} → (ℕ → Bool) → (ℕ → C → C → Type 0) → ℕ → List C → List C → Type 0
RowChanged {C} passes gives j before after = (k : ℕ) → k < 8 → passes k ≡ true → (z : C) → gives k (slice_index_or before (8 * j + k) z) (slice_index_or after (8 * j + k) z)

-- the values of the settings that pass stand in the rows of the modules from d to before n
abbrev pub Rows : {C V : Type 0} → (C → V) → (ℕ → ℕ → Bool) → (ℕ → ℕ → V) → ℕ → ℕ → List C → Type 0
Rows means passes value d n xs = (j : ℕ) → d ≤ j → j < n → (k : ℕ) → k < 8 → passes j k ≡ true → Has means xs (8 * j + k) (value j k)
