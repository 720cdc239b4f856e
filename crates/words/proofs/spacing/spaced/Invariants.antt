use Rattle.std.proofs.Common.{◌≡◌, ◌++◌, string_bytes}
use Rattle.words.specs.Words.{words_of, after_spaces, spaced_text}
use Rattle.words.proofs.spacing.spaced.Given as goal

abbrev pub invariant-loop-word : goal.invariant-loop-word
invariant-loop-word l = string_bytes l.out ++ after_spaces (words_of l.word-iterator.0.now) ≡ spaced_text (words_of l.text)
