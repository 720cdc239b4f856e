use Rattle.std.proofs.Common.{arith}
use Rattle.std.proofs.lemmas.Nat.{one_shl, pow_below}
use Rattle.tables.proofs.modules.Modules.add.Goals as goal

pub invariant_of-self : goal.invariant_of-self
invariant_of-self c =
    let shifted = one_shl c.args.settings 16 (omega arith) in
    let more = pow_below 0 c.args.settings (omega arith) in
    record { some = c.requires.1.0; few = c.requires.1.1; allowing = omega arith; own = omega arith }
