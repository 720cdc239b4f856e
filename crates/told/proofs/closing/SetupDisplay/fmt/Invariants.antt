use Rattle.std.proofs.Common.{map, decimal}
use Rattle.std.specs.Fmt.{IsPlainFormatter, HasWritten}
use Rattle.words.specs.Words.{after_spaces}
use Rattle.told.proofs.closing.SetupDisplay.fmt.Given as goal

abbrev pub invariant-loop-setting : goal.invariant-loop-setting
invariant-loop-setting g l = IsPlainFormatter l.initial.f → HasWritten g.W.Write.write_str_gives l.initial.f (after_spaces (map decimal (map (λ x. x.now) l.yielded))) l.f
