-- What fits the domains of a job, and what is allowed.
use Rattle.std.proofs.Common.{◌≡◌, ℕ, zero, suc, ◌+◌, ◌<◌, ◌≤◌, Bool, true, false, cond, ◌⊎◌, List, [], ◌∷◌, ◌++◌, length, get_or, sym, refl, ap, ◌∙◌, subst, inl, inr, arith}
use lib.ListN.{get_or-append}
use Rattle.std.proofs.lemmas.Bool.{and_from, cases_eq, both_ways}
use Rattle.theory.specs.Tree.{Among, Fits, Begins, Filled}
use Rattle.tables.specs.declared.modules.Modules.{Modules}
use Rattle.tables.specs.Modules.{allows}
use Rattle.bounds.specs.Beginnings.{allows_all, Beginning, Setup, Starts}
use Rattle.bounds.specs.Allowing.{allows_each, allows_few}
use Rattle.walks.specs.Settings.{settings_from, domains_from, domains}
use Rattle.walks.proofs.Masks.{settings_end, settings_more}
use Rattle.walks.proofs.Trails.{domains_more}
use Rattle.walks.proofs.Weighed.{no_domains}
use Rattle.finding.specs.Findings.{SetupsFit}

-- the settings that are listed pass, and the other way round
among_passes : (p : ℕ → Bool) (k n x : ℕ) → Among x (settings_from p k n) → p x ≡ true
among_passes p k zero x a = absurd (subst (Among x) (settings_end p k) a)
among_passes p k (suc n) x a = go (among_passes p (suc k) n x) (p k) refl (subst (Among x) (settings_more p k n) a)
  where
    go : (Among x (settings_from p (suc k) n) → p x ≡ true) → (b : Bool) → p k ≡ b → Among x (cond b (k ∷ settings_from p (suc k) n) (settings_from p (suc k) n)) → p x ≡ true
    go rest true e (inl f) = ap p f ∙ e
    go rest true e (inr r) = rest r
    go rest false e r = rest r

passes_among : (p : ℕ → Bool) (k n x : ℕ) → k ≤ x → x < k + n → p x ≡ true → Among x (settings_from p k n)
passes_among p k zero x a b h = absurd (omega arith)
passes_among p k (suc n) x a b h = subst (Among x) (sym (settings_more p k n)) (go (λ c. passes_among p (suc k) n x c (omega arith) h) (p k) refl (cases_eq x k))
  where
    go : (suc k ≤ x → Among x (settings_from p (suc k) n)) → (b : Bool) → p k ≡ b → (x ≡ k) ⊎ (x ≡ k → ⊥) → Among x (cond b (k ∷ settings_from p (suc k) n) (settings_from p (suc k) n))
    go rest true e (inl f) = inl f
    go rest true e (inr f) = inr (rest (omega arith))
    go rest false e (inl f) = absurd (both_ways (p x) (ap p f ∙ e) h)
    go rest false e (inr f) = rest (omega arith)

-- a beginning has an allowed setting for each of the first modules
begins_allowed : (m : Modules) (j n : ℕ) (b : List ℕ) → Begins b (domains_from (allows m) j n) → (length b ≤ n) × ((i : ℕ) → i < length b → allows m (j + i) (get_or b i 0) ≡ true)
begins_allowed m j n [] h = (omega arith, λ i l. absurd (omega arith))
begins_allowed m j zero (x ∷ b) h = absurd (subst (Begins (x ∷ b)) (no_domains (allows m) j) h)
begins_allowed m j (suc n) (x ∷ b) h =
    let g = subst (Begins (x ∷ b)) (domains_more (allows m) j n) h in
    let r = begins_allowed m (suc j) n b g.1 in
    let l = r.0 in
    (omega arith, each (among_passes (allows m j) 0 8 x g.0) r.1)
  where
    each : allows m j x ≡ true → ((i : ℕ) → i < length b → allows m (suc j + i) (get_or b i 0) ≡ true) → (i : ℕ) → i < length (x ∷ b) → allows m (j + i) (get_or (x ∷ b) i 0) ≡ true
    each first rest zero l = subst (λ z. allows m z x ≡ true) (omega arith) first
    each first rest (suc i) l = subst (λ z. allows m z (get_or b i 0) ≡ true) (omega arith) (rest i (omega arith))

fits_begins : (y : List ℕ) (ds : List (List ℕ)) → Fits y ds → Begins y ds
fits_begins [] ds f = tt
fits_begins (x ∷ y) [] f = absurd f
fits_begins (x ∷ y) (d ∷ ds) f = (f.0, fits_begins y ds f.1)

fits_cut : (b s : List ℕ) (ds : List (List ℕ)) → Fits (b ++ s) ds → Begins b ds
fits_cut [] s ds f = tt
fits_cut (x ∷ b) s [] f = absurd f
fits_cut (x ∷ b) s (d ∷ ds) f = (f.0, fits_cut b s ds f.1)

fits_full : (p : ℕ → ℕ → Bool) (j n : ℕ) (y : List ℕ) → Fits y (domains_from p j n) → length y ≡ n
fits_full p j zero [] f = refl
fits_full p j zero (x ∷ y) f = absurd (subst (Fits (x ∷ y)) (no_domains p j) f)
fits_full p j (suc n) [] f = absurd (subst (Fits []) (domains_more p j n) f)
fits_full p j (suc n) (x ∷ y) f = ap suc (fits_full p (suc j) n y (subst (Fits (x ∷ y)) (domains_more p j n) f).1)

allowed_fits : (m : Modules) (j n : ℕ) (y : List ℕ) → length y ≡ n → ((i : ℕ) → i < n → allows m (j + i) (get_or y i 0) ≡ true) → Fits y (domains_from (allows m) j n)
allowed_fits m j zero [] e h = subst (Fits []) (sym (no_domains (allows m) j)) tt
allowed_fits m j zero (x ∷ y) e h = absurd (omega arith)
allowed_fits m j (suc n) [] e h = absurd (omega arith)
allowed_fits m j (suc n) (x ∷ y) e h =
    let first : allows m j x ≡ true = subst (λ z. allows m z x ≡ true) (omega arith) (h 0 (omega arith)) in
    subst (Fits (x ∷ y)) (sym (domains_more (allows m) j n)) (
      passes_among (allows m j) 0 8 x (omega arith) (allows_few m j x first) first,
      allowed_fits m (suc j) n y (omega arith) (λ i l. subst (λ z. allows m z (get_or y i 0) ≡ true) (omega arith) (h (suc i) (omega arith))),
    )

all_allowed : (m : Modules) (row : List ℕ) (n : ℕ) → ((i : ℕ) → i < n → allows m i (get_or row i 0) ≡ true) → allows_all m row n ≡ true
all_allowed m row zero h = refl
all_allowed m row (suc n) h = and_from (allows_all m row n) (allows m n (get_or row n 0)) (all_allowed m row n (λ i l. h i (omega arith))) (h n (omega arith))

module _ (m : Modules) where
  pub beginning_allowed : (b : List ℕ) → Filled b → Begins b (domains m) → Beginning m b
  beginning_allowed [] n h = absurd n
  beginning_allowed (x ∷ b) n h =
      let r = begins_allowed m 0 m.count (x ∷ b) h in
      record {
        some = omega arith;
        within = r.0;
        allowed = all_allowed m (x ∷ b) (length (x ∷ b)) (λ i l. subst (λ z. allows m z (get_or (x ∷ b) i 0) ≡ true) (omega arith) (r.1 i l));
      }

  pub setup_allowed : (y : List ℕ) → Fits y (domains m) → Setup m y
  setup_allowed y f =
      let r = begins_allowed m 0 m.count y (fits_begins y (domains m) f) in
      let full = fits_full (allows m) 0 m.count y f in
      all_allowed m y m.count (λ i l. subst (λ z. allows m z (get_or y i 0) ≡ true) (omega arith) (r.1 i (omega arith)))

  -- the setups that start with b
  pub beginning_of : (b s : List ℕ) → Filled b → Fits (b ++ s) (domains m) → Beginning m b
  beginning_of b s n f = beginning_allowed b n (fits_cut b s (domains m) f)

pub starts_append : (b s : List ℕ) → Starts b (b ++ s)
starts_append b s i l = sym (get_or-append b s 0 i l)

pub setups_fit : SetupsFit
setups_fit m y = (
  (λ f. (fits_full (allows m) 0 m.count y f, setup_allowed m y f)),
  (λ h. allowed_fits m 0 m.count y h.0 (λ i l. subst (λ z. allows m z (get_or y i 0) ≡ true) (omega arith) (allows_each m y m.count i l h.1))),
)
