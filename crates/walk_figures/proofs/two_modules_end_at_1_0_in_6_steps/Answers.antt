use mathlib.Core.Path.{refl}
use Rattle.counts.specs.Least.{least_of}
use Rattle.walks.specs.Settings.{settings_from, domains_from}
use Rattle.walk_figures.proofs.two_modules_end_at_1_0_in_6_steps.Goals as goal

pub returns : goal.returns
unfolding settings_from domains_from least_of
returns c = record {
  by_past = record { finished = refl; found = refl; charged = refl; counted = refl };
  by_forward = record { finished = refl; found = refl; charged = refl; counted = refl };
  by_directed = record { finished = refl; found = refl; charged = refl; counted = refl };
}
