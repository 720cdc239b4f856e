-- Trails from one beginning to the next.
use Rattle.std.proofs.Common.{◌≡◌, ℕ, zero, suc, ◌+◌, ◌-◌, ◌*◌, ◌<◌, ◌≤◌, Bool, true, List, [], ◌∷◌, length, get_or, set, sym, refl, ap, ◌∙◌, subst, ap₂, subst₂, inl, inr, arith, get_or-set_other, get_or-set_same}
use Rattle.std.proofs.lemmas.Nat.{mul-le}
use Rattle.std.proofs.lemmas.Bool.{cases_lt}
use Rattle.theory.specs.Machine.{level, next, down}
use Rattle.tables.specs.declared.modules.Modules.{Modules}
use Rattle.walks.specs.declared.trail.Trail.{Trail}
use Rattle.walks.specs.Settings.{has, settings_from, domains_from, row_domains}
use Rattle.walks.specs.Trails.{mask_at, levels, Live, AmongLive, tree, base, GoesOn, GoesDown}

abbrev pub trail : List ℕ → List (List ℕ) → ℕ → Trail
trail path live d = record { path = path; len = d; live = live }

-- a trail is as its settings and rows are
pub levels_same : (path path' : List ℕ) (live live' : List (List ℕ)) (n d : ℕ)
    → ((i : ℕ) → i < d → get_or path' i 0 ≡ get_or path i 0) → ((i : ℕ) → i < d → get_or live' i [] ≡ get_or live i [])
    → levels path' live' n d ≡ levels path live n d
levels_same path path' live live' n zero p r = refl
levels_same path path' live live' n (suc i) p r =
    ap₂ ◌∷◌
    (ap₂ (λ a row. level a (settings_from (has (get_or row i 0)) (suc a) (7 - a)) (row_domains row (suc i) (n - suc i))) (p i (omega arith)) (r i (omega arith)))
    (levels_same path path' live live' n i (λ j l. p j (omega arith)) (λ j l. r j (omega arith)))

-- nothing is live after the last setting
pub next_up : (path : List ℕ) (live : List (List ℕ)) (n i : ℕ) → settings_from (has (mask_at path live i i)) (suc (get_or path i 0)) (7 - get_or path i 0) ≡ []
    → next (levels path live n (suc i)) ≡ next (levels path live n i)
next_up path live n i e = ap (λ more. next (level (get_or path i 0) more (row_domains (get_or live i []) (suc i) (n - suc i)) ∷ levels path live n i)) e

-- k is the next that is live
pub next_here : (path : List ℕ) (live : List (List ℕ)) (n i k : ℕ) → i < length path
    → settings_from (has (mask_at path live i i)) (suc (get_or path i 0)) (7 - get_or path i 0) ≡ k ∷ settings_from (has (mask_at path live i i)) (suc k) (7 - k)
    → levels (set path i k) live n (suc i) ≡ next (levels path live n (suc i))
next_here path live n i k l e =
    ap₂ ◌∷◌
    (ap (λ a. level a (settings_from (has (mask_at path live i i)) (suc a) (7 - a)) (row_domains (get_or live i []) (suc i) (n - suc i))) (get_or-set_same path i k 0 l))
    (levels_same path (set path i k) live live n i (λ j m. get_or-set_other path i j k 0 (λ e. omega arith)) (λ j m. refl))
    ∙ sym (ap (λ more. next (level (get_or path i 0) more (row_domains (get_or live i []) (suc i) (n - suc i)) ∷ levels path live n i)) e)

-- the places

pub tree_more : (d : ℕ) → tree (suc d) ≡ 1 + 8 * tree d
unfolding tree
tree_more d = refl

pub tree_some : (d : ℕ) → 1 ≤ tree d
unfolding tree
tree_some zero = omega arith
tree_some (suc d) = omega arith

pub times_more : (a b c : ℕ) → a < b → a * c + c ≤ b * c
times_more a b c l = let h = mul-le (suc a) c b c (omega arith) (omega arith) in let e : suc a * c ≡ a * c + c = omega arith in omega arith

base_same : (path path' : List ℕ) (d : ℕ) → ((i : ℕ) → i < d → get_or path' i 0 ≡ get_or path i 0) → base path' d ≡ base path d
base_same path path' zero p = refl
base_same path path' (suc i) p = ap₂ (λ b a. b + 1 + a * tree (19 - i)) (base_same path path' i (λ j l. p j (omega arith))) (p i (omega arith))

-- how a walk that leaves d settings behind passes the first i of them: nothing is live after those from i on
pub record Passes (path : List ℕ) (live : List (List ℕ)) (d i : ℕ) : Type 0 where
  pub nexts : (n : ℕ) → next (levels path live n d) ≡ next (levels path live n i)
  pub below : base path d < base path i + tree (20 - i)

pub passes_none : (path : List ℕ) (live : List (List ℕ)) (d : ℕ) → Passes path live d d
passes_none path live d = record { nexts = λ n. refl; below = let h = tree_some (20 - d) in omega arith }

pub passes_up : (path : List ℕ) (live : List (List ℕ)) (d i : ℕ) → i < 20 → get_or path i 0 < 8
    → settings_from (has (mask_at path live i i)) (suc (get_or path i 0)) (7 - get_or path i 0) ≡ []
    → Passes path live d (suc i) → Passes path live d i
passes_up path live d i l few e h = record {
  nexts = λ n. h.nexts n ∙ next_up path live n i e;
  below =
      let more : get_or path i 0 * tree (19 - i) + tree (19 - i) ≤ 8 * tree (19 - i) = times_more (get_or path i 0) 8 (tree (19 - i)) few in
      let s : suc (19 - i) ≡ 20 - i = omega arith in
      let one = subst (λ x. tree x ≡ 1 + 8 * tree (19 - i)) s (tree_more (19 - i)) in
      let b = h.below in
      let t : 20 - suc i ≡ 19 - i = omega arith in
      let b' = subst (λ x. base path d < base path i + 1 + get_or path i 0 * tree (19 - i) + tree x) t b in
      omega arith;
}

-- on to k, which is live after the last of the first i + 1 settings
module _ (path : List ℕ) (live : List (List ℕ)) (i k : ℕ) (long : i < length path) (above : get_or path i 0 < k) where
  others : (j : ℕ) → j < i → get_or (set path i k) j 0 ≡ get_or path j 0
  others j l = get_or-set_other path i j k 0 (λ e. omega arith)

  pub place_here : (d : ℕ) → i < 20 → Passes path live d (suc i) → base path d < base (set path i k) (suc i)
  place_here d few h =
      let same = base_same path (set path i k) i others in
      let here : get_or (set path i k) i 0 * tree (19 - i) ≡ k * tree (19 - i) = ap (λ a. a * tree (19 - i)) (get_or-set_same path i k 0 long) in
      let more = times_more (get_or path i 0) k (tree (19 - i)) above in
      let t : 20 - suc i ≡ 19 - i = omega arith in
      let b = subst (λ x. base path d < base path i + 1 + get_or path i 0 * tree (19 - i) + tree x) t h.below in
      omega arith

  pub live_here : (m : Modules) (d : ℕ) → i < d → k < 8 → has (mask_at path live i i) k ≡ true → AmongLive m (trail path live d) → AmongLive m (trail (set path i k) live (suc i))
  live_here m d l small h a = record {
    within = let w = a.within in omega arith;
    few = λ j b. at j b (λ x. x < 8) small (λ c. a.few j (omega arith));
    taken = λ j b. at_taken j b;
    lives = λ j b. a.lives j (omega arith);
  }
    where
      at : (j : ℕ) → j < suc i → (Q : ℕ → Type 0) → Q k → (j < i → Q (get_or path j 0)) → Q (get_or (set path i k) j 0)
      at j b Q here before = elim (cases_lt j i) [
        | inl c ↦ subst Q (sym (others j c)) (before c)
        | inr c ↦ let e : i ≡ j = omega arith in subst (λ x. Q (get_or (set path i k) x 0)) e (subst Q (sym (get_or-set_same path i k 0 long)) here)
      ]

      at_taken : (j : ℕ) → j < suc i → has (mask_at (set path i k) live j j) (get_or (set path i k) j 0) ≡ true
      at_taken j b = elim (cases_lt j i) [
        | inl c ↦ subst (λ x. has (mask_at path live j j) x ≡ true) (sym (others j c)) (a.taken j (omega arith))
        | inr c ↦
            let e : i ≡ j = omega arith in
            subst (λ x. has (mask_at path live x x) (get_or (set path i k) x 0) ≡ true) e (subst (λ x. has (mask_at path live i i) x ≡ true) (sym (get_or-set_same path i k 0 long)) h)
      ]

pub live_none : (m : Modules) (path : List ℕ) (live : List (List ℕ)) → AmongLive m (trail path live 0)
live_none m path live = record {
  within = omega arith;
  few = λ i l. absurd (omega arith);
  taken = λ i l. absurd (omega arith);
  lives = λ i l. absurd (omega arith);
}

-- what is live after a setting
pub settings_after : (mask a : ℕ) (xs : List ℕ) → settings_from (has mask) (a + 1) (8 - (a + 1)) ≡ xs → settings_from (has mask) (suc a) (7 - a) ≡ xs
settings_after mask a xs e =
    let one : suc a ≡ a + 1 = omega arith in
    let two : 7 - a ≡ 8 - (a + 1) = omega arith in
    ap₂ (settings_from (has mask)) one two ∙ e

-- on to the setting k of module i
pub goes_here : (path : List ℕ) (live : List (List ℕ)) (d i k : ℕ) → i < length path → i < d → d ≤ 20 → get_or path i 0 + 1 ≤ k → k < 8 → has (mask_at path live i i) k ≡ true
    → settings_from (has (mask_at path live i i)) (get_or path i 0 + 1) (8 - (get_or path i 0 + 1)) ≡ k ∷ settings_from (has (mask_at path live i i)) (suc k) (7 - k)
    → Passes path live d (suc i) → GoesOn (trail path live d) (trail (set path i k) live (suc i))
goes_here path live d i k long l few above small h e p = record {
  next_one = λ n. next_here path live n i k long (settings_after (mask_at path live i i) (get_or path i 0) _ e) ∙ sym (p.nexts n);
  among = λ m a. live_here path live i k long (omega arith) m d l small h a;
  later = place_here path live i k long (omega arith) d (omega arith) p;
}

-- one level down

pub domains_more : (passes : ℕ → ℕ → Bool) (j n : ℕ) → domains_from passes j (suc n) ≡ settings_from (passes j) 0 8 ∷ domains_from passes (suc j) n
unfolding domains_from
domains_more passes j n = refl

-- the first module's settings, and the others
domains_first : (row : List ℕ) (d n : ℕ) (xs : List ℕ) → d < n → settings_from (has (get_or row d 0)) 0 8 ≡ xs → row_domains row d (n - d) ≡ xs ∷ row_domains row (suc d) (n - suc d)
domains_first row d n xs l e =
    let one : n - d ≡ suc (n - suc d) = omega arith in
    ap (row_domains row d) one ∙ domains_more (λ i. has (get_or row i 0)) d (n - suc d) ∙ ap (λ x. x ∷ row_domains row (suc d) (n - suc d)) e

pub down_none : (path : List ℕ) (live : List (List ℕ)) (d : ℕ) (row : List ℕ) (after : Trail) → settings_from (has (get_or row d 0)) 0 8 ≡ []
    → GoesOn (trail path live d) after → GoesDown (trail path live d) row after
down_none path live d row after e g = record {
  first_one = λ n l. g.next_one n ∙ sym (ap (λ ds. down ds (levels path live n d)) (domains_first row d n [] l e));
  among = λ m l r a. g.among m a;
  later = g.later;
}

module _ (path : List ℕ) (live : List (List ℕ)) (d k : ℕ) (row : List ℕ) (long : d < length path) (wide : d < length live) where
  settings_before : (i : ℕ) → i < d → get_or (set path d k) i 0 ≡ get_or path i 0
  settings_before i l = get_or-set_other path d i k 0 (λ e. omega arith)

  rows_before : (i : ℕ) → i < d → get_or (set live d row) i [] ≡ get_or live i []
  rows_before i l = get_or-set_other live d i row [] (λ e. omega arith)

  setting_here : get_or (set path d k) d 0 ≡ k
  setting_here = get_or-set_same path d k 0 long

  row_here : get_or (set live d row) d [] ≡ row
  row_here = get_or-set_same live d row [] wide

  each : (P : ℕ → ℕ → List ℕ → Type 0) → P d k row → ((i : ℕ) → i < d → P i (get_or path i 0) (get_or live i [])) → (i : ℕ) → i < suc d → P i (get_or (set path d k) i 0) (get_or (set live d row) i [])
  each P last before i l = elim (cases_lt i d) [
    | inl b ↦ subst₂ (P i) (sym (settings_before i b)) (sym (rows_before i b)) (before i b)
    | inr b ↦ let e : d ≡ i = omega arith in subst (λ x. P x (get_or (set path d k) x 0) (get_or (set live d row) x [])) e (subst₂ (P d) (sym setting_here) (sym row_here) last)
  ]

  pub down_to : k < 8 → has (get_or row d 0) k ≡ true → settings_from (has (get_or row d 0)) 0 8 ≡ k ∷ settings_from (has (get_or row d 0)) (suc k) (7 - k)
      → GoesDown (trail path live d) row (trail (set path d k) (set live d row) (suc d))
  down_to small h e = record {
    first_one = λ n l.
        ap₂ ◌∷◌
        (ap₂ (λ a r. level a (settings_from (has (get_or r d 0)) (suc a) (7 - a)) (row_domains r (suc d) (n - suc d))) setting_here row_here)
        (levels_same path (set path d k) live (set live d row) n d settings_before rows_before)
        ∙ sym (ap (λ ds. down ds (levels path live n d)) (domains_first row d n _ l e));
    among = λ m l r a. record {
      within = omega arith;
      few = each (λ i s r. s < 8) small (λ i b. a.few i b);
      taken = each (λ i s r. has (get_or r i 0) s ≡ true) h (λ i b. a.taken i b);
      lives = each (λ i s r. Live m r i) r (λ i b. a.lives i b);
    };
    later = let same = base_same path (set path d k) d settings_before in omega arith;
  }
