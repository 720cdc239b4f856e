-- The rows of a scratch as they are changed: one entry, one row.
use Rattle.std.proofs.Common.{◌≡◌, ℕ, ◌+◌, ◌*◌, ◌<◌, ◌≤◌, Bool, true, List, get_or, sym, ap, ◌∙◌, subst, inl, inr, ⊎_elim, arith}
use Rattle.std.proofs.lemmas.Bool.{cases_lt}
use Rattle.bounds.specs.Answers.{RowChanged, Rows, SameButRow, SameButRows}

-- the first k entries of a row are changed, and the others are as they were
pub record Changing {C : Type 0} (passes : ℕ → Bool) (gives : ℕ → C → C → Type 0) (j : ℕ) (before : List C) (k : ℕ) (xs : List C) : Type 0 where
  pub changed : (i : ℕ) → i < k → passes i ≡ true → (z : C) → gives i (get_or before (8 * j + i) z) (get_or xs (8 * j + i) z)
  pub rest : (i : ℕ) → k ≤ i → (z : C) → get_or xs (8 * j + i) z ≡ get_or before (8 * j + i) z
  pub others : SameButRow j before xs

-- the row of module j was changed
module _ {C V : Type 0} (means : C → V) (passes : ℕ → ℕ → Bool) (j : ℕ) (xs ys : List C) (same : SameButRow j xs ys) where
  pub rows_left : (value : ℕ → ℕ → V) (n : ℕ) → Rows means passes value j n xs → Rows means passes value (j + 1) n ys
  rows_left value n rows i from below k small p z =
      ap means (same (8 * i + k) (inr (omega arith)) z) ∙ rows i (omega arith) below k small p z

  pub rows_changed : (value : ℕ → ℕ → V) (d : ℕ) → ((k : ℕ) → k < 8 → passes j k ≡ true → (z : C) → means (get_or ys (8 * j + k) z) ≡ value j k) → Rows means passes value d j xs → Rows means passes value d (j + 1) ys
  rows_changed value d row rows i from below k small p z = ⊎_elim
      (λ lower. ap means (same (8 * i + k) (inl (omega arith)) z) ∙ rows i from lower k small p z)
      (λ here.
      let e : j ≡ i = omega arith in
      subst (λ n. passes n k ≡ true → means (get_or ys (8 * n + k) z) ≡ value n k) e (λ q. row k small q z) p)
      (cases_lt i j)

-- one row more was changed
module _ {C : Type 0} (d j : ℕ) (from : d ≤ j) (before xs ys : List C) (same : SameButRow j xs ys) (outside : SameButRows d j before xs) where
  pub rows_more : (passes : ℕ → ℕ → Bool) (gives : ℕ → ℕ → C → C → Type 0)
      → ((i : ℕ) → d ≤ i → i < j → RowChanged (passes i) (gives i) i before xs)
      → RowChanged (passes j) (gives j) j xs ys
      → (i : ℕ) → d ≤ i → i < j + 1 → RowChanged (passes i) (gives i) i before ys
  rows_more passes gives done row i after below k small p z = ⊎_elim
      (λ lower. subst (gives i k (get_or before (8 * i + k) z)) (sym (same (8 * i + k) (inl (omega arith)) z)) (done i after lower k small p z))
      (λ here.
      let e : j ≡ i = omega arith in
      subst (λ n. passes n k ≡ true → gives n k (get_or before (8 * n + k) z) (get_or ys (8 * n + k) z)) e
      (λ q. subst (λ v. gives j k v (get_or ys (8 * j + k) z)) (outside (8 * j + k) (inr (omega arith)) z) (row k small q z)) p)
      (cases_lt i j)

  pub outside_more : SameButRows d (j + 1) before ys
  outside_more q out z =
      same q (⊎_elim (λ l. inl (omega arith)) (λ l. inr (omega arith)) out) z
      ∙ outside q (⊎_elim (λ l. inl l) (λ l. inr (omega arith)) out) z
