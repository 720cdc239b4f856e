use mathlib.Core.Path.{refl}
use Rattle.counts.specs.Least.{least_of}
use Rattle.walks.specs.Settings.{settings_from, domains_from}
use Rattle.walk_figures.proofs.below_1_forward_takes_4_and_past_6_steps.Goals as goal

pub returns : goal.returns
unfolding settings_from domains_from least_of
returns c = record {
  by_forward = record { finished = refl; found = refl; charged = refl; counted = refl };
  by_past = record { finished = refl; found = refl; charged = refl; counted = refl };
}
