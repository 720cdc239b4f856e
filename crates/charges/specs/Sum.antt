-- The sum of the entries, which stops at 4,294,967,295.
use Rattle.charges.specs.Kinds.{Kind}
use Rattle.charges.specs.Capped.{Capped, capped, add, no_more}

abbrev pub sums : Kind
sums = record {
  V = Capped 4294967295;
  zero = capped 4294967295 0;
  join = add 4294967295;
  at_most = no_more 4294967295;
  entry = λ e. capped 4294967295 e;
}
