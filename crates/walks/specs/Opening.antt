-- What is live below a beginning that is opened.
use Rattle.std.specs.Prelude.{◌≡◌, ℕ, ◌+◌, ◌*◌, ◌<◌, ◌≤◌, Bool, true, false, not, ◌&&◌, ◌⊎◌, List, Some, None, Option, length, slice_index, slice_index_or}
use Rattle.charges.specs.Kinds.{Kind}
use Rattle.tables.specs.Sheet.{Whole}
use Rattle.walks.specs.Settings.{has}

-- memory to look at a beginning: a whole sheet, and scratch for 192 charges
abbrev pub Enough : {C : Type 0} → List ℕ → List C → Type 0
Enough sheet scratch = Whole sheet × (192 ≤ length scratch)

-- x is below the limit
abbrev pub under : (K : Kind) → K.V → K.V → Bool
under K limit x = not (K.at_most limit x)

-- the answer for setting k of module j in a prepared scratch
abbrev pub answer_at : (K : Kind) {C : Type 0} → (C → K.V) → (K.V → C) → List C → ℕ → ℕ → K.V
answer_at K means made scratch j k = means (slice_index_or scratch (8 * j + k) (made K.zero))

-- A row of masks has what is live of each module.
module _ (K : Kind) (limit : K.V) (answer : ℕ → ℕ → K.V) (row : List ℕ) where
  -- setting k of module j is live and is not struck: its answer is below the limit
  abbrev pub stays : ℕ → ℕ → Bool
  stays j k = has (slice_index row j) k && under K limit (answer j k)

  -- some module from d on, but before n, has every setting struck
  abbrev pub Dead : ℕ → ℕ → Type 0
  Dead d n = (j : ℕ) × (d ≤ j) × (j < n) × ((k : ℕ) → k < 8 → stays j k ≡ false)

  -- of these modules, what stays is left, and something of each
  pub record Leaves (d n : ℕ) (left : List ℕ) : Type 0 where
    pub same : (j k : ℕ) → d ≤ j → j < n → k < 8 → has (slice_index left j) k ≡ stays j k
    pub some : (j : ℕ) → d ≤ j → j < n → 1 ≤ slice_index left j
    pub byte : (j : ℕ) → d ≤ j → j < n → slice_index left j < 256

  abbrev pub Strikes : ℕ → ℕ → Option (List ℕ) → Type 0
  Strikes d n None = Dead d n
  Strikes d n (Some left) = Leaves d n left

  -- At an opened beginning of d settings: where the walk looks ahead it strikes, else all stays.
  abbrev pub Keeps : Bool → ℕ → ℕ → Option (List ℕ) → Type 0
  Keeps true d n r = Strikes d n r
  Keeps false d n None = ⊥
  Keeps false d n (Some left) = left ≡ row

-- A beginning of d settings is closed, where its floor is not below the limit or some module is struck out; or it is opened, with what is left.
abbrev pub Opens : (K : Kind) → K.V → K.V → (ℕ → ℕ → K.V) → Bool → List ℕ → ℕ → ℕ → Option (List ℕ) → Type 0
Opens K limit floor answer ahead row d n None = (under K limit floor ≡ false) ⊎ Keeps K limit answer row ahead d n None
Opens K limit floor answer ahead row d n (Some left) = (under K limit floor ≡ true) × Keeps K limit answer row ahead d n (Some left)
