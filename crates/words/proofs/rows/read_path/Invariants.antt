use Rattle.std.proofs.Common.{◌≡◌}
use Rattle.words.specs.Words.{words_of}
use Rattle.words.proofs.Filling.{Sofar}
use Rattle.words.proofs.rows.read_path.Given as goal

abbrev pub invariant-loop-i : goal.invariant-loop-i
invariant-loop-i l =
    Sofar (words_of l.text) (words_of l.i-iterator.iter.0.now) l.row l.i-iterator.count × (l.len ≡ l.i-iterator.count)
