use Rattle.std.proofs.Common.{sym, arith}
use Rattle.charges.specs.Ranked.{soft_at_top, soft_below_top}
use Rattle.charges.proofs.ranked.Ranked.parts.Goals as goal

pub returns-then-self : goal.returns-then-self
returns-then-self c =
    record { pairs = omega arith; sum = sym (soft_at_top c.args.self.forbidden c.args.self.soft (omega arith)) }

pub returns-else-self : goal.returns-else-self
returns-else-self c =
    record {
      pairs = omega arith;
      sum = omega (arith, soft_below_top c.args.self.forbidden c.args.self.soft (omega arith));
    }
