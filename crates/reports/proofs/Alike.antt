-- A charge made again of its parts is printed alike.
use Rattle.std.proofs.Common.{◌≡◌, ℕ, arith}
use Rattle.charges.specs.Capped.{Capped, capped}
use Rattle.charges.specs.Ranked.{Rank, rank}
use Rattle.charges.specs.CappedLaws.{same_capped}
use Rattle.charges.specs.RankedLaws.{same_rank, soft_stays}
use Rattle.reports.specs.Figures.{number_figure, rank_figure}

pub numbers_alike : (most : ℕ) → (λ (v : Capped most). number_figure (capped most v.number)) ≡ number_figure
numbers_alike most = λ i v. number_figure (same_capped (capped most v.number) v (omega arith) i)

pub ranks_alike : (λ (v : Rank). rank_figure (rank v.forbidden v.soft)) ≡ rank_figure
ranks_alike = λ i v. rank_figure (same_rank (rank v.forbidden v.soft) v (omega arith) (soft_stays v) i)
