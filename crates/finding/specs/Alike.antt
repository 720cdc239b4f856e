-- Jobs that are alike to a walk.
use Rattle.std.specs.Prelude.{◌≡◌, ℕ, ◌<◌, List}
use Rattle.tables.specs.declared.modules.Modules.{Modules}
use Rattle.tables.specs.Modules.{settings_of, mask_of}
use Rattle.tables.specs.Sheet.{entry_at}

-- as many modules, with the same settings and masks, and the same entry for each pair of settings
pub record Alike (m m' : Modules) (sheet sheet' : List ℕ) : Type 0 where
  pub counted : m'.count ≡ m.count
  pub settings : (i : ℕ) → i < m.count → settings_of m' i ≡ settings_of m i
  pub masks : (i : ℕ) → i < m.count → mask_of m' i ≡ mask_of m i
  pub entries : (i k j l : ℕ) → i < j → j < m.count → k < settings_of m i → l < settings_of m j → entry_at sheet' i k j l ≡ entry_at sheet i k j l
