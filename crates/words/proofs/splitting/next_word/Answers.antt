use Rattle.std.proofs.Common.{sym, refl, ◌∙◌, arith, true-eqb, false-eqb}
use Rattle.words.proofs.Spaces.{no_word, trimmed_words, first_word}
use Rattle.words.proofs.splitting.next_word.Goals as goal

pub returns-then-is_empty : goal.returns-then-is_empty
returns-then-is_empty c = sym (trimmed_words _ _ c.trim_start_matches-rest.ensures.matches) ∙ no_word _ (true-eqb _ 0 c.if-is_empty.ensures)

pub returns : goal.returns
returns c =
    rw c.or.ensures (first_word _ _ c.split_once.result _ c.trim_start_matches-rest.ensures.matches (omega (arith, false-eqb _ 0 c.if-is_empty.ensures)) c.split_once.ensures.cases refl refl)
