use mathlib.Core.Path.{refl, ap}
use lib.ListN.{length}
use native.Mathlib.Omega.{arith}
use Rattle.counts.specs.Least.{least_of}
use Rattle.walks.specs.Settings.{settings_from, domains_from}
use Rattle.walk_figures.proofs.after_4_steps_the_best_is_0_0.Goals as goal

pub returns : goal.returns
unfolding settings_from domains_from least_of
returns c = record { unfinished = λ e. omega (arith, ap length e); found = refl; charged = refl; counted = refl }
