-- Which settings the modules of a job have and allow, and how the table of modules changes.
use Rattle.std.specs.Prelude.{◌≡◌, ℕ, ◌+◌, ◌-◌, ◌/◌, ◌%◌, ◌^◌, Bool, ◌==◌, ◌≢◌, slice_index_or}
use Rattle.std.proofs.Common.{arith}
use Rattle.tables.specs.declared.module_record.Module.{Module}
use Rattle.tables.specs.declared.modules.Modules.{Modules}

-- a module of one setting, which is allowed
abbrev pub one_setting : Module
one_setting = record { settings = 1; mask = 1; some = omega arith; few = omega arith; allowing = omega arith; own = omega arith }

-- the record of module i
abbrev pub module_of : Modules → ℕ → Module
module_of m i = slice_index_or m.records i one_setting

abbrev pub settings_of : Modules → ℕ → ℕ
settings_of m i = (module_of m i).settings

abbrev pub mask_of : Modules → ℕ → ℕ
mask_of m i = (module_of m i).mask

-- setting k of module i is allowed: bit k of its mask, worth 2^k, is set
abbrev pub allows : Modules → ℕ → ℕ → Bool
allows m i k = mask_of m i / 2 ^ k % 2 == 1

-- every record but that of module i is as it was
abbrev pub OthersSame : Modules → Modules → ℕ → Type 0
OthersSame before after i = (j : ℕ) → (j ≢ i) → module_of after j ≡ module_of before j

-- a module of n settings, all allowed, was added after the others
pub record Adds (before after : Modules) (n : ℕ) : Type 0 where
  pub counted : after.count ≡ before.count + 1
  pub settings : settings_of after before.count ≡ n
  pub mask : mask_of after before.count ≡ 2 ^ n - 1
  pub others : OthersSame before after before.count

-- the mask of module i became the given one
pub record Narrows (before after : Modules) (i given : ℕ) : Type 0 where
  pub counted : after.count ≡ before.count
  pub settings : settings_of after i ≡ settings_of before i
  pub mask : mask_of after i ≡ given
  pub others : OthersSame before after i
