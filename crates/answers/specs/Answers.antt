-- The text of an answer, and of a line with its answer.
use Rattle.std.specs.Prelude.{ℕ, Bool, true, false, List, ◌++◌, codes, decimal}
use Rattle.words.specs.Words.{Word, spaced_text}
use Rattle.jobs.specs.Refusals.{number_of}
use Rattle.told.specs.Texts.{figure_text, closing_text}
use Rattle.answers.specs.declared.answer.Answer.{Answer}
use Rattle.answers.specs.declared.answer.Answer.TheVariants.{Done, Module, Charge, Ticket, Sat, Closed, Refused, NotACall}

-- whether a walk is finished
abbrev pub progress_text : Bool → List ℕ
progress_text true = codes "finished"
progress_text false = codes "unfinished"

-- the text of each answer
abbrev pub answer_text : Answer → List ℕ
answer_text Done = codes "ok"
answer_text (Module i) = codes "module " ++ decimal i
answer_text (Charge x) = codes "charge " ++ figure_text x
answer_text (Ticket n) = codes "ticket " ++ decimal n
answer_text (Sat told) = codes "made " ++ (decimal told.made ++ (codes " " ++ progress_text told.finished))
answer_text (Closed x) = closing_text x
answer_text (Refused refusal) = codes "refused " ++ decimal (number_of refusal)
answer_text NotACall = codes "not a call"

-- the words of a line, an arrow, and the answer
abbrev pub report_text : List Word → Answer → List ℕ
report_text ws a = spaced_text ws ++ (codes " -> " ++ answer_text a)
