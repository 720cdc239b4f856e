-- Where a walk stands.
use Rattle.std.specs.Prelude.{◌≡◌, ℕ, zero, suc, ◌+◌, ◌-◌, ◌*◌, ◌<◌, ◌≤◌, true, List, [], ◌∷◌, slice_index, slice_index_or}
use Rattle.theory.specs.Machine.{Level, level, next, down}
use Rattle.tables.specs.declared.modules.Modules.{Modules}
use Rattle.tables.specs.Modules.{allows}
use Rattle.walks.specs.declared.trail.Trail.{Trail}
use Rattle.walks.specs.Settings.{has, settings_from, row_domains}

-- A trail: a path of settings, and for each i what is live of each module below the first i of them.
module _ (path : List ℕ) (live : List (List ℕ)) where
  -- the mask of what is live of module j below the first i settings
  abbrev pub mask_at : ℕ → ℕ → ℕ
  mask_at i j = slice_index (slice_index_or live i []) j

  -- the setting of module i, what is live of it after that, and of each later one of the n modules
  abbrev pub level_at : ℕ → ℕ → Level
  level_at n i =
      level (slice_index path i)
      (settings_from (has (mask_at i i)) (suc (slice_index path i)) (7 - slice_index path i))
      (row_domains (slice_index_or live i []) (suc i) (n - suc i))

  -- the first d settings of the path, the last one first
  abbrev pub levels : ℕ → ℕ → List Level
  levels n zero = []
  levels n (suc i) = level_at n i ∷ levels n i

-- of each module from d on something is live, and all that is live is allowed
pub record Live (m : Modules) (row : List ℕ) (d : ℕ) : Type 0 where
  pub some : (j : ℕ) → d ≤ j → j < m.count → 1 ≤ slice_index row j
  pub byte : (j : ℕ) → d ≤ j → j < m.count → slice_index row j < 256
  pub allowed : (j k : ℕ) → d ≤ j → j < m.count → k < 8 → has (slice_index row j) k ≡ true → allows m j k ≡ true

-- each setting of the trail is live among the modules, and so is something of each later module
pub record AmongLive (m : Modules) (t : Trail) : Type 0 where
  pub within : t.len ≤ m.count
  pub few : (i : ℕ) → i < t.len → slice_index t.path i < 8
  pub taken : (i : ℕ) → i < t.len → has (mask_at t.path t.live i i) (slice_index t.path i) ≡ true
  pub lives : (i : ℕ) → i < t.len → Live m (slice_index_or t.live i []) i

-- how many beginnings start with one, itself among them, if d modules of eight settings can follow: 1 + 8 + 64 and so on
unfoldable pub tree : ℕ → ℕ
tree zero = 1
tree (suc d) = 1 + 8 * tree d

-- the place of the first d settings in depth-first order among twenty modules of eight settings; with none, one past the last
abbrev pub base : List ℕ → ℕ → ℕ
base path zero = 0
base path (suc i) = base path i + 1 + slice_index path i * tree (19 - i)

abbrev pub place : List ℕ → ℕ → ℕ
place path zero = tree 20
place path (suc i) = base path (suc i)

-- the settings of a trail, among n modules
abbrev pub levels_of : Trail → ℕ → List Level
levels_of t n = levels t.path t.live n t.len

-- a trail went on as a walk's path does, among live settings, and stands later
pub record GoesOn (before after : Trail) : Type 0 where
  pub next_one : (n : ℕ) → levels_of after n ≡ next (levels_of before n)
  pub among : (m : Modules) → AmongLive m before → AmongLive m after
  pub later : base before.path before.len < place after.path after.len

-- it went down to the first setting of the next module that the row has live, or on if there is none
pub record GoesDown (before : Trail) (row : List ℕ) (after : Trail) : Type 0 where
  pub first_one : (n : ℕ) → before.len < n → levels_of after n ≡ down (row_domains row before.len (n - before.len)) (levels_of before n)
  pub among : (m : Modules) → before.len < m.count → Live m row before.len → AmongLive m before → AmongLive m after
  pub later : base before.path before.len < place after.path after.len
