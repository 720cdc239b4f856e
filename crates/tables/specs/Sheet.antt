-- Where the sheet has its entries, how one is read, and how the sheet changes.
use Rattle.std.specs.Prelude.{◌≡◌, ℕ, ◌+◌, ◌-◌, ◌*◌, ◌/◌, ◌<◌, ◌≤◌, min, ◌⊎◌, List, length, slice_index}

-- The entries of module j with the modules before it stand together, 64 with each, from here on.
abbrev pub block : ℕ → ℕ
block j = j * (j - 1) / 2 * 64

-- the position of the entry of setting k of module i and setting l of module j, i < j
abbrev pub position : ℕ → ℕ → ℕ → ℕ → ℕ
position i k j l = (j * (j - 1) / 2 + i) * 64 + k * 8 + l

-- the entry at that position, a larger one read as 1,000
abbrev pub entry_at : List ℕ → ℕ → ℕ → ℕ → ℕ → ℕ
entry_at sheet i k j l = min (slice_index sheet (position i k j l)) 1000

-- the sheet is long enough for twenty modules of eight settings
abbrev pub Whole : List ℕ → Type 0
Whole sheet = 12160 ≤ length sheet

-- the entries of module j with each module before it became 0, and no other entry changed
pub record Clears (before after : List ℕ) (j : ℕ) : Type 0 where
  pub sized : length after ≡ length before
  pub cleared : (p : ℕ) → block j ≤ p → p < block j + 64 * j → slice_index after p ≡ 0
  pub others : (p : ℕ) → (p < block j) ⊎ (block j + 64 * j ≤ p) → slice_index after p ≡ slice_index before p
