-- The count of clashes, which stops at 65,535.
use Rattle.std.specs.Prelude.{cond, ◌==◌}
use Rattle.charges.specs.Kinds.{Kind}
use Rattle.charges.specs.Capped.{Capped, capped, add, no_more}

-- any entry but 0 charges 1
abbrev pub counts : Kind
counts = record {
  V = Capped 65535;
  zero = capped 65535 0;
  join = add 65535;
  at_most = no_more 65535;
  entry = λ e. capped 65535 (cond (e == 0) 0 1);
}
