-- What stands for a floor, told by whether the counts are both counts.
use Rattle.std.proofs.Common.{◌≡◌, ℕ, Bool, List, sym, ap, ◌∙◌}
use Rattle.charges.specs.Kinds.{Kind}
use Rattle.tables.specs.declared.modules.Modules.{Modules}
use Rattle.counts.specs.Floors.{counted, floor_over}

pub told : {C : Type 0} (K : Kind) (means : C → K.V) (made : K.V → C) (stands : (v : K.V) → means (made v) ≡ v) (m : Modules) (sheet p : List ℕ) (passes : ℕ → ℕ → Bool)
    (directed : Bool) {is : Bool} {v : K.V} → is ≡ directed → v ≡ floor_over K m sheet passes (counted K m sheet directed p) p → v ≡ means (made (floor_over K m sheet passes (counted K m sheet is p) p))
told K means made stands m sheet p passes directed {is} e h =
    h ∙ sym (ap (λ d. floor_over K m sheet passes (counted K m sheet d p) p) e) ∙ sym (stands (floor_over K m sheet passes (counted K m sheet is p) p))
