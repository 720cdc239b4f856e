use Rattle.std.proofs.Common.{sym, refl, ◌∙◌, arith}
use Rattle.charges.specs.Ranked.{soft_at_top, soft_below_top}
use Rattle.charges.specs.RankedLaws.{same_rank}
use Rattle.charges.proofs.ranked.Ranked.new.Goals as goal

pub returns-then-forbidden : goal.returns-then-forbidden
returns-then-forbidden c =
    let is_top = soft_at_top c.args.forbidden c.args.soft (omega arith) in
    record {
      value = same_rank _ _ refl (soft_at_top c.args.forbidden 4294967295 (omega arith) ∙ sym is_top);
      pairs = omega arith;
      sum = sym is_top;
    }

pub returns-else-forbidden : goal.returns-else-forbidden
returns-else-forbidden c =
    record {
      value = refl;
      pairs = omega arith;
      sum = omega (arith, soft_below_top c.args.forbidden c.args.soft (omega arith));
    }
