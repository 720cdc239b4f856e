-- The text of a charge, of a setup, and of how a walk ended.
use Rattle.std.specs.Prelude.{ℕ, List, ◌++◌, map, take, Some, None, codes, decimal, Option}
use Rattle.walks.specs.Outcomes.{fixed}
use Rattle.words.specs.Words.{after_spaces}
use Rattle.told.specs.declared.figure.Figure.{Figure}
use Rattle.told.specs.declared.figure.Figure.TheVariants.{One, Two}
use Rattle.told.specs.declared.closing.Setup.{Setup}
use Rattle.told.specs.declared.closing.Closing.{Closing}

-- a charge: a number, or two numbers with a space between them
abbrev pub figure_text : Figure → List ℕ
figure_text (One n) = decimal n
figure_text (Two m n) = decimal m ++ (codes " " ++ decimal n)

-- a setup: its settings, each with a space before it
abbrev pub setup_text : Setup → List ℕ
setup_text x = after_spaces (map decimal (take x.len x.settings))

-- the number of an outcome, a charge and the steps made, and then the setup, if there is one
abbrev pub ended_text : ℕ → Figure → ℕ → Option Setup → List ℕ
ended_text o x n None = codes "outcome " ++ (decimal o ++ (codes " charge " ++ (figure_text x ++ (codes " steps " ++ decimal n))))
ended_text o x n (Some s) = codes "outcome " ++ (decimal o ++ (codes " charge " ++ (figure_text x ++ (codes " steps " ++ (decimal n ++ (codes " setup" ++ setup_text s))))))

-- how a walk ended
abbrev pub closing_text : Closing → List ℕ
closing_text x = ended_text (fixed x.outcome).number x.charge x.steps x.setup
