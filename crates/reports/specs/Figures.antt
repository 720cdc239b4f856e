-- How a charge is printed, and which charge the numbers of a ceiling say.
use Rattle.std.specs.Prelude.{ℕ, cond, Some, None, Option, nat_le}
use Rattle.charges.specs.Capped.{Capped}
use Rattle.charges.specs.Ranked.{Rank, rank}
use Rattle.charges.specs.declared.count.Count.{Count}
use Rattle.charges.specs.declared.sum.Sum.{Sum}
use Rattle.charges.specs.declared.worst.Worst.{Worst}
use Rattle.charges.specs.declared.ranked.Ranked.{Ranked}
use Rattle.told.specs.declared.figure.Figure.{Figure}
use Rattle.told.specs.declared.figure.Figure.TheVariants.{One, Two}

-- a count, a sum or a worst entry is a number
abbrev pub number_figure : {most : ℕ} → Capped most → Figure
number_figure v = One v.number

-- a ranked charge is two numbers
abbrev pub rank_figure : Rank → Figure
rank_figure v = Two v.forbidden v.soft

-- one number says a count, a sum or a worst entry, of as many bits as there are for it
abbrev pub count_said : Figure → Option Count
count_said (One n) = cond (nat_le n 65535) (Some (record { number = n })) None
count_said (Two m n) = None

abbrev pub sum_said : Figure → Option Sum
sum_said (One n) = Some (record { number = n })
sum_said (Two m n) = None

abbrev pub worst_said : Figure → Option Worst
worst_said (One n) = cond (nat_le n 65535) (Some (record { number = n })) None
worst_said (Two m n) = None

-- two numbers say a ranked charge
abbrev pub rank_said : Figure → Option Ranked
rank_said (One n) = None
rank_said (Two m n) = Some (record { forbidden = (rank m n).forbidden; soft = (rank m n).soft })
