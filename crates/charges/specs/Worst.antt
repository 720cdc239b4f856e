-- The worst entry. Its charges are all numbers of 16 bits, so a ceiling may lie above each entry.
use Rattle.charges.specs.Kinds.{Kind}
use Rattle.charges.specs.Capped.{Capped, capped, greater, no_more}

abbrev pub worsts : Kind
worsts = record {
  V = Capped 65535;
  zero = capped 65535 0;
  join = greater 65535;
  at_most = no_more 65535;
  entry = λ e. capped 65535 e;
}
