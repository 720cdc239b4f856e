use Rattle.std.proofs.Common.{arith}
use Rattle.words.proofs.Reading.{too_large}
use Rattle.words.proofs.numbers.decimal.Goals as goal

pub returns-then-value-from : goal.returns-then-value-from
returns-then-value-from c = too_large c.loop-b.invariant c.loop-b-test.true (omega (arith, c.from.ensures, c.from-in-loop-b.ensures, c.if-value-from.true))
