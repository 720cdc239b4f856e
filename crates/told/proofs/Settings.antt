-- Settings that are written one by one.
use Rattle.std.proofs.Common.{◌≡◌, ℕ, List, [], ◌∷◌, ◌++◌, map, decimal, sym, ap, ◌∙◌, append_assoc, append-nil}
use Rattle.words.specs.Words.{after_spaces}

-- a space and a setting more are written
pub one_more : (xs : List ℕ) (x : ℕ) → after_spaces (map decimal (xs ++ (x ∷ []))) ≡ after_spaces (map decimal xs) ++ (32 ∷ decimal x)
one_more [] x = ap (λ l. 32 ∷ l) (append-nil (decimal x))
one_more (y ∷ xs) x =
    ap (λ l. 32 ∷ l) (ap (λ l. decimal y ++ l) (one_more xs x) ∙ sym (append_assoc (decimal y) (after_spaces (map decimal xs)) (32 ∷ decimal x)))
