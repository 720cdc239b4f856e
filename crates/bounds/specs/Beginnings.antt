-- Beginnings (partial assignments), and the setups that start with them.
use Rattle.std.specs.Prelude.{◌≡◌, ℕ, zero, suc, ◌<◌, ◌≤◌, Bool, true, ◌&&◌, List, length, nat_le, nat_lt, slice_index}
use Rattle.tables.specs.declared.modules.Modules.{Modules}
use Rattle.tables.specs.Modules.{allows}

-- row has an allowed setting for each of the first n modules
abbrev pub allows_all : Modules → List ℕ → ℕ → Bool
allows_all m row zero = true
allows_all m row (suc n) = allows_all m row n && allows m n (slice_index row n)

-- a beginning: allowed settings of the first modules, of one at least
pub record Beginning (m : Modules) (p : List ℕ) : Type 0 where
  pub some : 1 ≤ length p
  pub within : length p ≤ m.count
  pub allowed : allows_all m p (length p) ≡ true

-- an allowed setup: row has an allowed setting for each module
abbrev pub Setup : Modules → List ℕ → Type 0
Setup m row = allows_all m row m.count ≡ true

-- row starts with p
abbrev pub Starts : List ℕ → List ℕ → Type 0
Starts p row = (i : ℕ) → i < length p → slice_index p i ≡ slice_index row i

-- the first `len` bytes of path are a beginning
abbrev pub begins : Modules → List ℕ → ℕ → Bool
begins m path len = nat_lt 0 len && nat_le len m.count && allows_all m path len

-- a bound can answer: there is a beginning, a whole sheet, and scratch for 192 charges
abbrev pub answerable : Modules → List ℕ → List ℕ → ℕ → ℕ → Bool
answerable m sheet path len room = nat_le 12160 (length sheet) && nat_le 192 room && begins m path len

-- k is an allowed setting of module j, which comes after the first `len`
abbrev pub later_setting : Modules → ℕ → ℕ → ℕ → Bool
later_setting m len j k = nat_le len j && nat_lt j m.count && allows m j k
