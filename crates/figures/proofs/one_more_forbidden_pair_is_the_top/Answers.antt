use mathlib.Core.Path.{◌≡◌, refl, ap, ◌∙◌}
use Rattle.charges.specs.Ranked.{rank, add_ranks, top, soft_part}
use Rattle.charges.specs.RankedLaws.{same_rank}
use Rattle.figures.proofs.one_more_forbidden_pair_is_the_top.Goals as goal

reaches_top : add_ranks (rank 65534 5) (rank 1 0) ≡ top
unfolding soft_part
reaches_top = same_rank _ _ refl refl

pub returns : goal.returns
returns c = record {
  defined = reaches_top;
  value =
      c.joined.ensures
      ∙ ap (λ x. add_ranks x (rank c.new-2.result.forbidden c.new-2.result.soft)) c.new.ensures.value
      ∙ ap (add_ranks (rank 65534 5)) c.new-2.ensures.value
      ∙ reaches_top;
}
