-- A number that is read digit by digit.
use Rattle.std.proofs.Common.{◌≡◌, ℕ, ◌+◌, ◌-◌, ◌*◌, ◌<◌, ◌≤◌, [], ◌∷◌, length, get_or, drop, sym, ap, ◌∙◌, arith}
use Rattle.std.proofs.lemmas.List.{drop_more}
use Rattle.words.specs.Words.{Word}
use Rattle.words.specs.Numbers.{Digits, value_after, Number}

-- the first i digits of the word w wrote n, at most max
pub record Sofar (max : ℕ) (w : Word) (i n : ℕ) : Type 0 where
  pub value : value_after n (drop i w) ≡ value_after 0 w
  pub seen : Digits (drop i w) → Digits w
  pub left : Digits w → Digits (drop i w)
  pub within : n ≤ max

no_less : (n : ℕ) (ds : Word) → n ≤ value_after n ds
no_less n [] = omega arith
no_less n (d ∷ ds) = omega (arith, no_less (n * 10 + (d - 48)) ds)

module _ {max : ℕ} {w : Word} {i n : ℕ} (old : Sofar max w i n) (here : i < length w) where
  rest : drop i w ≡ get_or w i 0 ∷ drop (i + 1) w
  rest = drop_more w i 0 here

  next_value : value_after (n * 10 + (get_or w i 0 - 48)) (drop (i + 1) w) ≡ value_after 0 w
  next_value = sym (ap (value_after n) rest) ∙ old.value

  pub too_large : max < n * 10 + (get_or w i 0 - 48) → (m : ℕ) → Number max w m → ⊥
  too_large over m h = omega (arith, no_less (n * 10 + (get_or w i 0 - 48)) (drop (i + 1) w), next_value, h.value, h.within)
