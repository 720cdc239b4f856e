-- What the tests say.
use mathlib.Core.Path.{◌≡◌, refl, sym, subst, ap, ap₂, ◌∙◌}
use mathlib.Core.List.{List, [], ◌∷◌, ◌++◌, append-nil, map, nil≢cons, head-eq_of_cons-eq, tail-eq_of_cons-eq}
use mathlib.Core.Bool.{Bool, true, false, not, ◌&&◌, ◌||◌}
use mathlib.Core.Logic.{◌⊎◌, inl, inr, ◌↔◌}
use mathlib.Core.Option.{Option, some, none}
use Prim.Native.Nat.{ℕ, zero, suc, ◌+◌}
use native.Mathlib.Omega.{arith}
use lib.Dec.{T, T_not, not_T, eqb, eqb→eq, eqb_refl}
use Rattle.theory.specs.Order.{below}
use Rattle.theory.specs.Tree.{Among, Fits, Begins, Filled, earlier, setups, beginnings, prefixes, all_of, bit, Above, Ascending, Sound}
use Rattle.theory.specs.Machine.{Problem, Walk, Posed, Lawful, Level, level, step_at, after}
use Rattle.theory.specs.Finding.{count, clears, Cheapest, goes, goes_on, looked_at, looks}
use Rattle.theory.specs.Words.{same, Said}
use Rattle.theory.proofs.Tests.{and_in, and_out, or_in, or_out, either, T_true, T_false}
use Rattle.theory.proofs.Reading.{snoc_on}
use Rattle.theory.proofs.Lists.{all_setups, setups_all, all_map, count_map, count_same, count_none, count_each, total}
use Rattle.theory.proofs.Stack.{above_each}
use Rattle.theory.proofs.Tally.{to_come, always_tallies}
use Rattle.theory.proofs.Compare.{finishes}

-- prefixes

all_prefixes : (t : List ℕ → Bool) (p : List ℕ) → T (all_of t (prefixes p)) → (q s : List ℕ) → Filled q → p ≡ q ++ s → T (t q)
all_prefixes t p h [] s n e = absurd n
all_prefixes t [] h (y ∷ q) s n e = absurd (nil≢cons e)
all_prefixes t (x ∷ p) h (y ∷ []) s n e = subst (λ z. T (t (z ∷ []))) (head-eq_of_cons-eq e) (and_out (t (x ∷ [])) (all_of t (map (λ q. x ∷ q) (prefixes p))) h).0
all_prefixes t (x ∷ p) h (y ∷ z ∷ q) s n e =
    let r = (and_out (t (x ∷ [])) (all_of t (map (λ q. x ∷ q) (prefixes p))) h).1 in
    subst (λ u. T (t (u ∷ z ∷ q))) (head-eq_of_cons-eq e)
    (all_prefixes (λ q. t (x ∷ q)) p (subst T (all_map t (λ q. x ∷ q) (prefixes p)) r) (z ∷ q) s tt (tail-eq_of_cons-eq e))

prefixes_all : (t : List ℕ → Bool) (p : List ℕ) → ((q s : List ℕ) → Filled q → p ≡ q ++ s → T (t q)) → T (all_of t (prefixes p))
prefixes_all t [] h = tt
prefixes_all t (x ∷ p) h = and_in (t (x ∷ [])) (all_of t (map (λ q. x ∷ q) (prefixes p))) (h (x ∷ []) p tt refl)
    (subst T (sym (all_map t (λ q. x ∷ q) (prefixes p))) (prefixes_all (λ q. t (x ∷ q)) p (λ q s n e. h (x ∷ q) s tt (ap (λ z. x ∷ z) e))))

-- each beginning is listed once

same_self : (b : List ℕ) → same b b ≡ true
same_self [] = refl
same_self (x ∷ b) = ap₂ ◌&&◌ (T_true (eqb x x) (eqb_refl x)) (same_self b)

same_apart : (x k : ℕ) (s c : List ℕ) → (x ≡ k → ⊥) → same (x ∷ s) (k ∷ c) ≡ false
same_apart x k s c h = ap (λ b. b && same s c) (T_false (eqb x k) (not_T (eqb x k) (λ e. h (eqb→eq x k e))))

same_on : (x : ℕ) (s c : List ℕ) → same (x ∷ s) (x ∷ c) ≡ same s c
same_on x s c = ap (λ b. b && same s c) (T_true (eqb x x) (eqb_refl x))

total_apart : (f : ℕ → ℕ) (x : ℕ) → ((k : ℕ) → (x ≡ k → ⊥) → f k ≡ 0) → (d : List ℕ) → Above x d → total f d ≡ 0
total_apart f x h [] a = refl
total_apart f x h (k ∷ ks) a = let e = h k (λ e. let l = a.0 in omega arith) in let r = total_apart f x h ks a.1 in omega arith

total_once : (f : ℕ → ℕ) (x : ℕ) → ((k : ℕ) → (x ≡ k → ⊥) → f k ≡ 0) → (d : List ℕ) → Ascending d → Among x d → total f d ≡ f x
total_once f x h [] asc m = absurd m
total_once f x h (k ∷ ks) asc (inl e) =
    let r = total_apart f x h ks (subst (λ z. Above z ks) (sym e) asc.0) in let q : f x ≡ f k = ap f e in omega arith
total_once f x h (k ∷ ks) asc (inr m) =
    let l = above_each k x ks asc.0 m in let e = h k (λ e. omega arith) in let r = total_once f x h ks asc.1 m in omega arith

no_empty : (ds : List (List ℕ)) → count (same []) (beginnings ds) ≡ 0
no_empty [] = refl
no_empty (d ∷ ds) = count_each (same []) f d ∙ none_at d
  where
    f : ℕ → List (List ℕ)
    f k = (k ∷ []) ∷ map (λ s. k ∷ s) (beginnings ds)

    none_at : (d : List ℕ) → total (λ k. count (same []) (f k)) d ≡ 0
    none_at [] = refl
    none_at (k ∷ ks) = let r = none_at ks in let e = count_map (same []) (λ s. k ∷ s) (beginnings ds) in let z = count_none (beginnings ds) in omega arith

listed_once : (ds : List (List ℕ)) → Sound ds → (b : List ℕ) → Filled b → Begins b ds → count (same b) (beginnings ds) ≡ 1
listed_once ds sound [] n g = absurd n
listed_once [] sound (x ∷ s) n g = absurd g
listed_once (d ∷ ds) sound (x ∷ s) n g = count_each (same (x ∷ s)) f d ∙ total_once (λ k. count (same (x ∷ s)) (f k)) x apart d sound.1 g.0 ∙ here s (listed_once ds sound.2 s) g.1
  where
    f : ℕ → List (List ℕ)
    f k = (k ∷ []) ∷ map (λ c. k ∷ c) (beginnings ds)

    apart : (k : ℕ) → (x ≡ k → ⊥) → count (same (x ∷ s)) (f k) ≡ 0
    apart k h =
        let e = ap bit (same_apart x k s [] h) in
        let m = count_map (same (x ∷ s)) (λ c. k ∷ c) (beginnings ds) in
        let r = count_same (λ c. same (x ∷ s) (k ∷ c)) (λ c. false) (λ c. same_apart x k s c h) (beginnings ds) in
        let z = count_none (beginnings ds) in
        omega arith

    here : (s : List ℕ) → (Filled s → Begins s ds → count (same s) (beginnings ds) ≡ 1) → Begins s ds → count (same (x ∷ s)) (f x) ≡ 1
    here [] rest g =
        let e = ap bit (same_on x [] []) in
        let m = count_map (same (x ∷ [])) (λ c. x ∷ c) (beginnings ds) in
        let r = count_same (λ c. same (x ∷ []) (x ∷ c)) (same []) (λ c. same_on x [] c) (beginnings ds) in
        let z = no_empty ds in
        omega arith
    here (y ∷ s) rest g =
        let e = ap bit (same_on x (y ∷ s) []) in
        let m = count_map (same (x ∷ y ∷ s)) (λ c. x ∷ c) (beginnings ds) in
        let r = count_same (λ c. same (x ∷ y ∷ s) (x ∷ c)) (same (y ∷ s)) (λ c. same_on x (y ∷ s) c) (beginnings ds) in
        let z = rest tt g in
        omega arith

module _ {V : Type 0} (P : Problem V) (W : Walk V) where
  clear_out : (p : List ℕ) (v : V) → T (clears P p v)
      → T (below P.at_most v P.ceiling) × ((y : List ℕ) → Fits y P.doms → T (earlier y p) → T (below P.at_most v (P.cost y)))
  clear_out p v h =
      let t : List ℕ → Bool = λ y. not (earlier y p) || below P.at_most v (P.cost y) in
      let e = and_out (below P.at_most v P.ceiling) (all_of t (setups P.doms)) h in (
        e.0,
        λ y f l. elim (or_out (not (earlier y p)) (below P.at_most v (P.cost y)) (all_setups t P.doms e.1 y f)) [
          | inl a ↦ absurd (T_not (earlier y p) a l)
          | inr a ↦ a
        ],
      )

  clear_in : (p : List ℕ) (v : V)
      → T (below P.at_most v P.ceiling) × ((y : List ℕ) → Fits y P.doms → T (earlier y p) → T (below P.at_most v (P.cost y))) → T (clears P p v)
  clear_in p v h =
      let t : List ℕ → Bool = λ y. not (earlier y p) || below P.at_most v (P.cost y) in
      and_in (below P.at_most v P.ceiling) (all_of t (setups P.doms)) h.0
      (setups_all t P.doms (λ y f. or_in (not (earlier y p)) (below P.at_most v (P.cost y)) (elim (either (earlier y p)) [
        | inl a ↦ inr (h.1 y f a)
        | inr a ↦ inl a
      ])))

  on_out : (p t : List ℕ) → T (goes_on P W p t) → (u s : List ℕ) (k : ℕ) → t ≡ u ++ (k ∷ s) → T (goes P W (p ++ u) k)
  on_out p [] h [] s k e = absurd (nil≢cons e)
  on_out p [] h (y ∷ u) s k e = absurd (nil≢cons e)
  on_out p (x ∷ t) h [] s k e =
      let g = (and_out (goes P W p x) (goes_on P W (p ++ (x ∷ [])) t) h).0 in
      subst (λ z. T (goes P W z k)) (sym (append-nil p)) (subst (λ z. T (goes P W p z)) (head-eq_of_cons-eq e) g)
  on_out p (x ∷ t) h (y ∷ u) s k e =
      let g = (and_out (goes P W p x) (goes_on P W (p ++ (x ∷ [])) t) h).1 in
      let r = on_out (p ++ (x ∷ [])) t g u s k (tail-eq_of_cons-eq e) in
      subst (λ z. T (goes P W z k)) (snoc_on p x u ∙ ap (λ z. p ++ (z ∷ u)) (head-eq_of_cons-eq e)) r

  on_in : (p t : List ℕ) → ((u s : List ℕ) (k : ℕ) → t ≡ u ++ (k ∷ s) → T (goes P W (p ++ u) k)) → T (goes_on P W p t)
  on_in p [] h = tt
  on_in p (x ∷ t) h = and_in (goes P W p x) (goes_on P W (p ++ (x ∷ [])) t)
      (subst (λ z. T (goes P W z x)) (append-nil p) (h [] t x refl))
      (on_in (p ++ (x ∷ [])) t (λ u s k e. subst (λ z. T (goes P W z k)) (sym (snoc_on p x u)) (h (x ∷ u) s k (ap (λ z. x ∷ z) e))))

  look_out : (b : List ℕ) → T (looked_at P W b) → (p s : List ℕ) (k : ℕ) → Filled p → b ≡ p ++ (k ∷ s) → T (goes P W p k)
  look_out b h [] s k n e = absurd n
  look_out [] h (y ∷ p) s k n e = absurd (nil≢cons e)
  look_out (x ∷ t) h (y ∷ p) s k n e = subst (λ z. T (goes P W (z ∷ p) k)) (head-eq_of_cons-eq e) (on_out (x ∷ []) t h p s k (tail-eq_of_cons-eq e))

  look_in : (b : List ℕ) → ((p s : List ℕ) (k : ℕ) → Filled p → b ≡ p ++ (k ∷ s) → T (goes P W p k)) → T (looked_at P W b)
  look_in [] h = tt
  look_in (x ∷ t) h = on_in (x ∷ []) t (λ u s k e. h (x ∷ u) s k tt (ap (λ z. x ∷ z) e))

  -- each step counts until the walk is finished
  counted : (n : ℕ) → ((after P W n).path ≡ []) ⊎ ((after P W n).steps ≡ n)
  counted zero = inr refl
  counted (suc n) = let s = after P W n in go s.path s.best s.limit s.steps (counted n)
    where
      go : (path : List Level) (best : Option (List ℕ)) (limit : V) (k : ℕ) → (path ≡ []) ⊎ (k ≡ n)
          → let s = step_at P W path (record { path = path; limit = limit; best = best; steps = k }) in (s.path ≡ []) ⊎ (s.steps ≡ suc n)
      go [] best limit k h = inl refl
      go (level a more [] ∷ up) best limit k (inl e) = absurd (nil≢cons (sym e))
      go (level a more [] ∷ up) best limit k (inr e) = inr (ap suc e)
      go (level a more (d ∷ ds) ∷ up) best limit k (inl e) = absurd (nil≢cons (sym e))
      go (level a more (d ∷ ds) ∷ up) best limit k (inr e) = inr (ap suc e)

  module _ (posed : Posed P) (L : Lawful P W) where
    walk_ends : (after P W (looks P W)).path ≡ []
    walk_ends = elim (counted (looks P W)) [ inl e ↦ e | inr e ↦ go (after P W (looks P W)).path (after P W (looks P W)).steps e (always_tallies P W posed L (looks P W)).1 ]
      where
        go : (path : List Level) (k : ℕ) → k ≡ looks P W → k + to_come P W path ≡ looks P W → path ≡ []
        go [] k e t = refl
        go (level a more later ∷ up) k e t = absurd (never k (looks P W) _ _ e t)
          where
            never : (k m x y : ℕ) → k ≡ m → k + (suc x + y) ≡ m → ⊥
            never k m x y e t = omega arith

    none_if : (best : Option (List ℕ)) (limit : V) → Cheapest P (λ y. Unit {0}) best limit → (best ≡ none) ↔ ((y : List ℕ) → Fits y P.doms → ¬ T (below P.at_most (P.cost y) P.ceiling))
    none_if none limit c = ((λ e y f l. T_not (P.at_most P.ceiling (P.cost y)) l (c.1 y f tt)), (λ h. refl))
    none_if (some x) limit c =
        ((λ e. absurd (some_none x e)), (λ h. absurd (h x c.0 (subst (λ v. T (below P.at_most v P.ceiling)) (sym c.2) c.3))))
      where
        some_none : (x : List ℕ) → Path (Option (List ℕ)) (some x) none → ⊥
        some_none x e = let z : ◌≡◌ {A = ℕ} 0 1 = cc in omega arith

pub said : (V : Type 0) → Said V
said V P W posed L = record {
  listed = listed_once P.doms posed.sound;
  clear = λ p v. (clear_out P W p v, clear_in P W p v);
  unstruck = λ p j k. (all_prefixes (λ q. clears P q (W.answer q j k)) p, prefixes_all (λ q. clears P q (W.answer q j k)) p);
  look = λ b. (look_out P W b, look_in P W b);
  ends = walk_ends P W posed L;
  no_best = λ n e. none_if P W posed L (after P W n).best (after P W n).limit (finishes P posed W L n e).found;
}
