-- The settings in a mask, as a list.
use Rattle.std.specs.Prelude.{ℕ, zero, suc, ◌/◌, ◌%◌, ◌^◌, Bool, cond, List, [], ◌∷◌, ◌==◌, slice_index}
use Rattle.tables.specs.declared.modules.Modules.{Modules}
use Rattle.tables.specs.Modules.{allows}

-- bit k of the mask, worth 2^k, is set
abbrev pub has : ℕ → ℕ → Bool
has mask k = mask / 2 ^ k % 2 == 1

-- of the n settings from k on, those that pass
unfoldable pub settings_from : (ℕ → Bool) → ℕ → ℕ → List ℕ
settings_from passes k zero = []
settings_from passes k (suc n) = cond (passes k) (k ∷ settings_from passes (suc k) n) (settings_from passes (suc k) n)

-- the settings that pass of each of the n modules from j on
unfoldable pub domains_from : (ℕ → ℕ → Bool) → ℕ → ℕ → List (List ℕ)
domains_from passes j zero = []
domains_from passes j (suc n) = settings_from (passes j) 0 8 ∷ domains_from passes (suc j) n

-- the allowed settings of each module
abbrev pub domains : Modules → List (List ℕ)
domains m = domains_from (allows m) 0 m.count

-- the settings in the masks of a row, from module j on
abbrev pub row_domains : List ℕ → ℕ → ℕ → List (List ℕ)
row_domains row j n = domains_from (λ i. has (slice_index row i)) j n
