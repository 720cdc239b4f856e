-- One module more in the table.
use Rattle.std.proofs.Common.{◌≡◌, ℕ, ◌+◌, ◌*◌, ◌<◌, ◌≤◌, true, List, get_or, ap, ◌∙◌, inr, arith}
use Rattle.charges.specs.Kinds.{Kind, Lawful}
use Rattle.tables.specs.declared.modules.Modules.{Modules}
use Rattle.tables.specs.Joins.{joined_from}
use Rattle.tables.specs.Modules.{allows}
use Rattle.bounds.specs.Answers.{Has, Rows, SameButRow}
use Rattle.counts.specs.Least.{least}
use Rattle.counts.proofs.Joining.{from_same}
use Rattle.count_table.specs.Table.{Leasts, chosen}

-- one module more whose counts became answers
module _ {C : Type 0} (K : Kind) (L : Lawful K) (means : C → K.V) (m : Modules) (f : ℕ → ℕ → K.V) (start : K.V) (d j : ℕ) (from_d : d ≤ j) (to_n : j < m.count)
    (xs ys : List C) (same : SameButRow j xs ys) where
  least_counts : ℕ → K.V
  least_counts i = least K (allows m i) (f i)

  pub leasts_kept : Leasts K means (allows m) f d m.count xs → Leasts K means (allows m) f d m.count ys
  leasts_kept leasts i from below z = ap means (same (160 + i) (inr (omega (arith, m.few))) z) ∙ leasts i from below z

  pub others_are : (before others : K.V) (z : C)
      → before ≡ K.join start (joined_from K (λ i. least K (allows m i) (f i)) d j)
      → others ≡ K.join before (joined_from K (λ i. means (get_or xs (160 + i) z)) (j + 1) m.count)
      → Leasts K means (allows m) f d m.count xs
      → others ≡ K.join (K.join start (joined_from K (λ i. least K (allows m i) (f i)) d j)) (joined_from K (λ i. least K (allows m i) (f i)) (j + 1) m.count)
  unfolding least_counts
  others_are before others z is told leasts =
      told ∙ ap (λ x. K.join x (joined_from K (λ i. means (get_or xs (160 + i) z)) (j + 1) m.count)) is
      ∙ ap (K.join (K.join start (joined_from K least_counts d j)))
      (from_same K L (λ i. means (get_or xs (160 + i) z)) least_counts (j + 1) m.count (λ i from below. leasts i (omega arith) below z))

  pub row_answered : (others : K.V)
      → others ≡ K.join (K.join start (joined_from K (λ i. least K (allows m i) (f i)) d j)) (joined_from K (λ i. least K (allows m i) (f i)) (j + 1) m.count)
      → ((k : ℕ) → k < 8 → allows m j k ≡ true → (z : C) → means (get_or ys (8 * j + k) z) ≡ K.join others (means (get_or xs (8 * j + k) z)))
      → Rows means (allows m) f j m.count xs
      → (k : ℕ) → k < 8 → allows m j k ≡ true → Has means ys (8 * j + k) (chosen K m f start d j k)
  row_answered others is row rows k small p z =
      row k small p z ∙ ap (K.join others) (rows j (omega arith) to_n k small p z) ∙ ap (λ x. K.join x (f j k)) is
