-- A charge of two parts: the number of forbidden pairs, and then a soft sum.
use Rattle.std.specs.Prelude.{◌≡◌, ℕ, ◌+◌, ◌-◌, ◌*◌, ◌<◌, ◌≤◌, min, Bool, cond, ◌&&◌, ◌||◌, ◌==◌, nat_le, nat_lt}
use Rattle.std.proofs.Common.{⊎_elim, arith}
use Rattle.std.proofs.lemmas.Bool.{le-leb, lt-leb, cases_lt, cond-true, cond-false}
use Rattle.charges.specs.Kinds.{Kind}

-- The last part says that where `forbidden` is 65,535, `soft` is 4,294,967,295: that charge is the top.
pub record Rank : Type 0 where
  pub forbidden : ℕ
  pub soft : ℕ
  pub forbidden_within : forbidden ≤ 65535
  pub soft_within : soft ≤ 4294967295
  pub full : 4294967295 ≤ soft + 4294967295 * (65535 - forbidden)

-- the soft part of a charge made of f forbidden pairs and a soft sum s
unfoldable pub soft_part : ℕ → ℕ → ℕ
soft_part f s = cond (nat_le 65535 f) 4294967295 (min s 4294967295)

pub soft_below_top : (f s : ℕ) → f < 65535 → soft_part f s ≡ min s 4294967295
unfolding soft_part
soft_below_top f s l = cond-false (nat_le 65535 f) 4294967295 (min s 4294967295) (lt-leb 65535 f l)

pub soft_at_top : (f s : ℕ) → 65535 ≤ f → soft_part f s ≡ 4294967295
unfolding soft_part
soft_at_top f s l = cond-true (nat_le 65535 f) 4294967295 (min s 4294967295) (le-leb 65535 f l)

pub soft_within : (f s : ℕ) → soft_part f s ≤ 4294967295
soft_within f s = ⊎_elim (λ l. omega (arith, soft_below_top f s l)) (λ l. omega (arith, soft_at_top f s l)) (cases_lt f 65535)

pub soft_full : (f s : ℕ) → 4294967295 ≤ soft_part f s + 4294967295 * (65535 - min f 65535)
soft_full f s = ⊎_elim (λ l. omega arith) (λ l. omega (arith, soft_at_top f s l)) (cases_lt f 65535)

-- the charge made of f forbidden pairs and a soft sum s
abbrev pub rank : ℕ → ℕ → Rank
rank f s = record {
  forbidden = min f 65535;
  soft = soft_part f s;
  forbidden_within = omega arith;
  soft_within = soft_within f s;
  full = soft_full f s;
}

abbrev pub top : Rank
top = rank 65535 4294967295

abbrev pub add_ranks : Rank → Rank → Rank
add_ranks x y = rank (x.forbidden + y.forbidden) (x.soft + y.soft)

-- the forbidden pairs are compared first
abbrev pub rank_at_most : Rank → Rank → Bool
rank_at_most x y = nat_lt x.forbidden y.forbidden || (x.forbidden == y.forbidden && nat_le x.soft y.soft)

-- an entry of 1,000 is a forbidden pair
abbrev pub ranks : Kind
ranks = record {
  V = Rank;
  zero = rank 0 0;
  join = add_ranks;
  at_most = rank_at_most;
  entry = λ e. cond (nat_le 1000 e) (rank 1 0) (rank 0 e);
}
