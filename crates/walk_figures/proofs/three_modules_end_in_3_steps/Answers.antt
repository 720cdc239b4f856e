use mathlib.Core.Path.{refl}
use Rattle.counts.specs.Least.{least_of}
use Rattle.walks.specs.Settings.{settings_from, domains_from}
use Rattle.walk_figures.proofs.three_modules_end_in_3_steps.Goals as goal

pub returns : goal.returns
unfolding settings_from domains_from least_of
returns c = record { finished = refl; found = refl; charged = refl; counted = refl }
