use Rattle.std.proofs.Common.{◌≡◌, ℕ, ◌+◌, min, ◌∙◌, ⊎_elim, arith}
use Rattle.std.proofs.lemmas.Bool.{cases_lt}
use Rattle.charges.specs.Ranked.{soft_part, soft_below_top, soft_at_top}
use Rattle.charges.specs.RankedLaws.{same_rank}
use Rattle.charges.proofs.ranked.RankedCharge.joined.Goals as goal

soft_joined : (a b s t : ℕ) → soft_part (min (a + b) 65535) (min (s + t) 4294967295) ≡ soft_part (min a 65535 + min b 65535) (soft_part a s + soft_part b t)
soft_joined a b s t = ⊎_elim
    (λ l. omega (arith, soft_below_top (min (a + b) 65535) (min (s + t) 4294967295) (omega arith), soft_below_top (min a 65535 + min b 65535) (soft_part a s + soft_part b t) (omega arith), soft_below_top a s (omega arith), soft_below_top b t (omega arith)))
    (λ l. omega (arith, soft_at_top (min (a + b) 65535) (min (s + t) 4294967295) (omega arith), soft_at_top (min a 65535 + min b 65535) (soft_part a s + soft_part b t) (omega arith)))
    (cases_lt (a + b) 65535)

pub returns : goal.returns
returns c =
    let e = soft_joined c.args.self.forbidden c.args.other.forbidden c.args.self.soft c.args.other.soft in
    c.new.ensures.value ∙ same_rank _ _ (omega arith) (rw (c.saturating_add.ensures, c.saturating_add-2.ensures) e)
