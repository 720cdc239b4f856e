use Rattle.std.proofs.Common.{sym, ◌∙◌, arith}
use Rattle.std.proofs.lemmas.Bool.{le-ltb}
use Rattle.tables.specs.Modules.{module_of}
use Rattle.tables.proofs.Masks.{none_past}
use Rattle.tables.proofs.modules.Modules.allows.Goals as goal

pub returns-else-k-lt8 : goal.returns-else-k-lt8
returns-else-k-lt8 c =
    let m = c.args.self.now in
    let i = c.args.i in
    le-ltb c.args.k 8 (omega arith) ∙ sym (none_past m i c.args.k (omega (arith, (module_of m i).few)))
