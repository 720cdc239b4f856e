-- What stands for a charge is at most what the charge is at most.
use Rattle.std.proofs.Common.{◌≡◌, sym, subst}
use Rattle.charges.specs.Kinds.{Kind, AtMost}

pub standing : {C : Type 0} (K : Kind) (means : C → K.V) (made : K.V → C) → ((v : K.V) → means (made v) ≡ v) → {v y : K.V} → AtMost K v y → AtMost K (means (made v)) y
standing K means made stands {v} {y} h = subst (λ x. AtMost K x y) (sym (stands v)) h
