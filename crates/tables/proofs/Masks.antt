-- What a mask allows.
use Rattle.std.proofs.Common.{◌≡◌, ℕ, ◌%◌, ◌^◌, ◌<◌, ◌≤◌, false, eqb, ap, lt_of_lt_of_le, pow_mono}
use native.Mathlib.Nat.{div-eq_of_lt}
use Rattle.tables.specs.declared.modules.Modules.{Modules}
use Rattle.tables.specs.Modules.{allows, mask_of, settings_of, module_of}

-- a setting that the module does not have is not allowed
pub none_past : (m : Modules) (i k : ℕ) → settings_of m i ≤ k → allows m i k ≡ false
none_past m i k h =
    let small : mask_of m i < 2 ^ k = lt_of_lt_of_le (module_of m i).own (pow_mono h) in
    ap (λ x. eqb (x % 2) 1) (div-eq_of_lt small)
