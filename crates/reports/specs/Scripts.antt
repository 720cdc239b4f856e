-- What a line of a script does, and what is printed after it.
use Rattle.std.specs.Prelude.{◌≡◌, ℕ, false, List, Some, None, Option, MatchOption}
use Rattle.calls.specs.declared.call.Vocabulary.{Vocabulary}
use Rattle.lines.specs.Lines.{Reads}
use Rattle.words.specs.Words.{words_of}
use Rattle.answers.specs.declared.answer.Answer.TheVariants.{NotACall}
use Rattle.lines.specs.declared.line.Line.{Line}
use Rattle.lines.specs.declared.line.Line.TheVariants.{Skipped, NoCall, Call}
use Rattle.reports.specs.declared.opened.AnyJob.{AnyJob}
use Rattle.reports.specs.declared.printed.Told.{Told}
use Rattle.reports.specs.Sessions.{walking, Answers}

-- what is read does nothing and gets no answer, or does nothing and is told that it is no call, or is a call
abbrev pub Does : Option AnyJob → List ℕ → Line → Option Told → Option AnyJob → List ℕ → Type 0
Does job sheet Skipped a job' sheet' = (a ≡ None) × (job' ≡ job) × (sheet' ≡ sheet)
Does job sheet NoCall a job' sheet' = (a ≡ Some (record { closed = None; answer = NotACall })) × (job' ≡ job) × (sheet' ≡ sheet)
Does job sheet (Call c) a job' sheet' = MatchOption a ⊥ (λ x. Answers job sheet c x job' sheet')

-- no walk is open
abbrev pub Idle : Option AnyJob → Type 0
Idle None = Unit {0}
Idle (Some job) = walking job ≡ false

-- what is printed tells of no walk that ends
abbrev pub EndsNone : Option Told → Type 0
EndsNone None = Unit {0}
EndsNone (Some told) = told.closed ≡ None

-- a line of a script of the vocabulary does what is read from its words
abbrev pub Follows : Vocabulary → Option AnyJob → List ℕ → List ℕ → Option Told → Option AnyJob → List ℕ → Type 0
Follows v job sheet line a job' sheet' = (l : Line) × Reads v (words_of line) l × Does job sheet l a job' sheet'
