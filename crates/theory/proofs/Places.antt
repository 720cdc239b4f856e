-- Where the walk stands among the beginnings that it looks at.
use mathlib.Core.Path.{◌≡◌, refl, sym, subst, ap, ap₂, ◌∙◌}
use mathlib.Core.List.{List, [], ◌∷◌, ◌++◌, map}
use mathlib.Core.Bool.{Bool, true, false, not, ◌&&◌, cond, and-true, and-false}
use Prim.Native.Nat.{ℕ, zero, suc, ◌+◌, ◌<◌}
use native.Mathlib.Omega.{arith}
use lib.ListN.{length}
use Rattle.theory.specs.Tree.{beginnings, bit, Filled, Sound, Ascending}
use Rattle.theory.specs.Machine.{Problem, Walk, Posed, Lawful, Level, level, beginning, next, keep, none_empty, down, open_to, kept, start, step_at, after}
use Rattle.theory.specs.Finding.{count, precedes, Cheapest, goes, goes_on, looked_at}
use Rattle.theory.proofs.Lists.{count_map, count_same, count_none, count_each, total, total_same}
use Rattle.theory.proofs.Keeps.{total_keep, keep_same, keep_all}
use Rattle.theory.proofs.Strikes.{keep_ascending}
use Rattle.theory.proofs.Reading.{snoc_on}
use Rattle.theory.proofs.Weights.{weight, drop_next, length_snoc}
use Rattle.theory.proofs.Tally.{from, siblings, to_come, sound_drop, first, Matches, weight_tests, always_tallies}
use Rattle.theory.proofs.Invariant.{always}
use Rattle.theory.proofs.Stack.{Past}
use mathlib.Core.Option.{Option}
use Rattle.theory.specs.Order.{below}
use Rattle.theory.proofs.Precedes.{precedes_low, precedes_high, precedes_same, precedes_none, total_low, ascending_tail, total_high, total_append}

-- one branch of a count
branch : (b c : Bool) (t u : List ℕ → Bool) (xs : List (List ℕ)) → bit ((b && true) && c) + count (λ s. (b && t s) && u s) xs ≡ cond b (bit c + count (λ s. t s && u s) xs) 0
branch true c t u xs = refl
branch false c t u xs = let r = count_none xs in omega arith

module _ {V : Type 0} (P : Problem V) (W : Walk V) where
  -- the walk goes on from p to k, where p may be empty
  abbrev pub goes_from : List ℕ → ℕ → Bool
  goes_from [] k = true
  goes_from (x ∷ p) k = goes P W (x ∷ p) k

  abbrev pub on : List ℕ → List ℕ → Bool
  on [] s = looked_at P W s
  on (x ∷ p) s = goes_on P W (x ∷ p) s

  on_cons : (p : List ℕ) (k : ℕ) (s : List ℕ) → on p (k ∷ s) ≡ (goes_from p k && goes_on P W (p ++ (k ∷ [])) s)
  on_cons [] k s = refl
  on_cons (x ∷ p) k s = refl

  on_snoc : (p : List ℕ) (a : ℕ) (s : List ℕ) → on (p ++ (a ∷ [])) s ≡ goes_on P W (p ++ (a ∷ [])) s
  on_snoc [] a s = refl
  on_snoc (x ∷ p) a s = refl

  -- of what is looked at below p, that which does not come before t
  abbrev pub left : List ℕ → List ℕ → List (List ℕ) → ℕ
  left p t ds = count (λ s. on p s && not (precedes s t)) (beginnings ds)

  module _ (p : List ℕ) (a : ℕ) (t : List ℕ) (ds : List (List ℕ)) where
    -- and of that, what starts with k
    abbrev share : ℕ → ℕ
    share k = bit (not (precedes (k ∷ []) (a ∷ t))) + count (λ s. goes_on P W (p ++ (k ∷ [])) s && not (precedes (k ∷ s) (a ∷ t))) (beginnings ds)

    share_is : (k : ℕ) → count (λ s. on p s && not (precedes s (a ∷ t))) ((k ∷ []) ∷ map (λ s. k ∷ s) (beginnings ds)) ≡ cond (goes_from p k) (share k) 0
    share_is k =
        ap₂ (λ b n. bit (b && not (precedes (k ∷ []) (a ∷ t))) + n) (on_cons p k [])
        (count_map (λ s. on p s && not (precedes s (a ∷ t))) (λ s. k ∷ s) (beginnings ds)
        ∙ count_same (λ s. on p (k ∷ s) && not (precedes (k ∷ s) (a ∷ t))) (λ s. (goes_from p k && goes_on P W (p ++ (k ∷ [])) s) && not (precedes (k ∷ s) (a ∷ t)))
        (λ s. ap (λ b. b && not (precedes (k ∷ s) (a ∷ t))) (on_cons p k s)) (beginnings ds))
        ∙ branch (goes_from p k) (not (precedes (k ∷ []) (a ∷ t))) (goes_on P W (p ++ (k ∷ []))) (λ s. not (precedes (k ∷ s) (a ∷ t))) (beginnings ds)

    share_low : (k : ℕ) → k < a → share k ≡ 0
    share_low k l =
        let e = ap (λ b. bit (not b)) (precedes_low k a [] t l) in
        let r = count_same (λ s. goes_on P W (p ++ (k ∷ [])) s && not (precedes (k ∷ s) (a ∷ t))) (λ s. false)
        (λ s. ap (λ b. goes_on P W (p ++ (k ∷ [])) s && not b) (precedes_low k a s t l) ∙ and-false (goes_on P W (p ++ (k ∷ [])) s)) (beginnings ds) in
        let z = count_none (beginnings ds) in
        omega arith

    share_high : (k : ℕ) → a < k → share k ≡ weight P W (p ++ (k ∷ [])) ds
    share_high k l =
        let e = ap (λ b. bit (not b)) (precedes_high k a [] t l) in
        let r = count_same (λ s. goes_on P W (p ++ (k ∷ [])) s && not (precedes (k ∷ s) (a ∷ t))) (goes_on P W (p ++ (k ∷ [])))
        (λ s. ap (λ b. goes_on P W (p ++ (k ∷ [])) s && not b) (precedes_high k a s t l) ∙ and-true (goes_on P W (p ++ (k ∷ [])) s)) (beginnings ds) in
        omega arith

    share_same : share a ≡ bit (not (precedes [] t)) + left (p ++ (a ∷ [])) t ds
    share_same = ap₂ ◌+◌ (ap (λ b. bit (not b)) (precedes_same a [] t))
        (count_same (λ s. goes_on P W (p ++ (a ∷ [])) s && not (precedes (a ∷ s) (a ∷ t))) (λ s. on (p ++ (a ∷ [])) s && not (precedes s t))
        (λ s. ap₂ (λ b c. b && not c) (sym (on_snoc p a s)) (precedes_same a s t)) (beginnings ds))

    pub left_level : (d front more : List ℕ) → Ascending d → keep (goes_from p) d ≡ front ++ (a ∷ more)
        → left p (a ∷ t) (d ∷ ds) ≡ (bit (not (precedes [] t)) + left (p ++ (a ∷ [])) t ds) + total (λ k. weight P W (p ++ (k ∷ [])) ds) more
    left_level d front more asc e =
        let asc' : Ascending (front ++ (a ∷ more)) = subst Ascending e (keep_ascending (goes_from p) d asc) in
        let parts : left p (a ∷ t) (d ∷ ds) ≡ total share (front ++ (a ∷ more)) =
        count_each (λ s. on p s && not (precedes s (a ∷ t))) (λ k. (k ∷ []) ∷ map (λ s. k ∷ s) (beginnings ds)) d
        ∙ total_same (λ k. count (λ s. on p s && not (precedes s (a ∷ t))) ((k ∷ []) ∷ map (λ s. k ∷ s) (beginnings ds))) (λ k. cond (goes_from p k) (share k) 0) share_is d
        ∙ total_keep (goes_from p) share d
        ∙ ap (total share) e in
        let apart = total_append share front (a ∷ more) in
        let low = total_low share a share_low front more asc' in
        let high = total_high share (λ k. weight P W (p ++ (k ∷ [])) ds) a share_high more (ascending_tail a front more asc') in
        let same = share_same in
        parts ∙ apart ∙ omega arith

  -- at each level the walk goes on to some settings, then this one, then those that are left
  abbrev pub Place : List ℕ → ℕ → List ℕ → Type 0
  Place p a more = (d : List ℕ) × (ds : List (List ℕ)) × (front : List ℕ) × (from P W (length p) ≡ d ∷ ds) × (keep (goes_from p) d ≡ front ++ (a ∷ more))

  abbrev pub Places : List Level → Type 0
  Places [] = Unit {0}
  Places (level a more later ∷ up) = Place (beginning up) a more × Places up

  pub next_places : (path : List Level) → Places path → Places (next path)
  next_places [] h = tt
  next_places (level a [] later ∷ up) h = next_places up h.1
  next_places (level a (k ∷ ks) later ∷ up) h =
      let q = h.0 in ((q.0, q.1, q.2 ++ (a ∷ []), q.3, q.4 ∙ sym (snoc_on q.2 a (k ∷ ks))), h.1)

  goes_from_snoc : (p : List ℕ) (a k : ℕ) → goes_from (p ++ (a ∷ [])) k ≡ goes P W (p ++ (a ∷ [])) k
  goes_from_snoc [] a k = refl
  goes_from_snoc (x ∷ p) a k = refl

  look_places : (l : Level) (up : List Level) (b : Bool) (live : List (List ℕ)) → Places (l ∷ up)
      → (e : List ℕ) (es : List (List ℕ)) → from P W (length (beginning (l ∷ up))) ≡ e ∷ es → keep (goes_from (beginning (l ∷ up))) e ≡ cond (b && none_empty live) (first live) []
      → Places (cond b (open_to live (l ∷ up)) (next (l ∷ up)))
  look_places l up false live h e es i g = next_places (l ∷ up) h
  look_places l up true [] h e es i g = next_places (l ∷ up) h
  look_places l up true ([] ∷ rest) h e es i g = next_places (l ∷ up) h
  look_places l up true ((k ∷ ks) ∷ rest) h e es i g = go (none_empty rest) g
    where
      go : (c : Bool) → keep (goes_from (beginning (l ∷ up))) e ≡ cond c (k ∷ ks) [] → Places (cond c (level k ks rest ∷ l ∷ up) (next (l ∷ up)))
      go false g = next_places (l ∷ up) h
      go true g = ((e, es, [], i, g), h)

  module _ (posed : Posed P) where
    place_left : (p : List ℕ) (a : ℕ) (t more : List ℕ) → Place p a more
        → left p (a ∷ t) (from P W (length p)) ≡ (bit (not (precedes [] t)) + left (p ++ (a ∷ [])) t (from P W (suc (length p)))) + total (λ k. weight P W (p ++ (k ∷ [])) (from P W (suc (length p)))) more
    place_left p a t more q =
        let d = q.0 in let ds = q.1 in
        let here : from P W (length p) ≡ d ∷ ds = q.3 in
        let after : from P W (suc (length p)) ≡ ds = drop_next (length p) P.doms d ds here in
        let asc : Sound (d ∷ ds) = subst Sound here (sound_drop (length p) P.doms posed.sound) in
        ap (left p (a ∷ t)) here
        ∙ left_level p a t ds d q.2 more asc.1 q.4
        ∙ ap (λ x. (bit (not (precedes [] t)) + left (p ++ (a ∷ [])) t x) + total (λ k. weight P W (p ++ (k ∷ [])) x) more) (sym after)

    left_all : (up : List Level) (x : ℕ) (t : List ℕ) → Places up → left (beginning up) (x ∷ t) (from P W (length (beginning up))) + siblings P W up ≡ left [] (beginning up ++ (x ∷ t)) P.doms
    left_all [] x t h = omega arith
    left_all (level a more later ∷ up) x t h =
        let p = beginning up in
        let r = left_all up a (x ∷ t) h.1 in
        let q = place_left p a (x ∷ t) more h.0 in
        let e : left (p ++ (a ∷ [])) (x ∷ t) (from P W (length (p ++ (a ∷ [])))) ≡ left (p ++ (a ∷ [])) (x ∷ t) (from P W (suc (length p))) = ap (λ i. left (p ++ (a ∷ [])) (x ∷ t) (from P W i)) (length_snoc p a) in
        let g : left [] ((p ++ (a ∷ [])) ++ (x ∷ t)) P.doms ≡ left [] (p ++ (a ∷ x ∷ t)) P.doms = ap (λ z. left [] z P.doms) (snoc_on p a (x ∷ t)) in
        omega arith

    -- what is to come is what does not come before the beginning
    pub to_come_left : (l : Level) (up : List Level) → Places (l ∷ up) → to_come P W (l ∷ up) ≡ left [] (beginning (l ∷ up)) P.doms
    to_come_left (level a more later) up h =
        let p = beginning up in
        let r = left_all up a [] h.1 in
        let q = place_left p a [] more h.0 in
        let below_it = count_same (λ s. on (p ++ (a ∷ [])) s && not (precedes s [])) (goes_on P W (p ++ (a ∷ [])))
        (λ s. ap₂ (λ b c. b && not c) (on_snoc p a s) (precedes_none s) ∙ and-true (goes_on P W (p ++ (a ∷ [])) s)) (beginnings (from P W (suc (length p)))) in
        omega arith

    pub step_places : (path : List Level) (best : Option (List ℕ)) (limit : V) (n : ℕ) → Lawful P W → Cheapest P (Past path) best limit → Matches P W path → Places path
        → Places (step_at P W path (record { path = path; limit = limit; best = best; steps = n })).path
    step_places [] best limit n L c m h = h
    step_places (level a more [] ∷ up) best limit n L c m h = next_places (level a more [] ∷ up) h
    step_places (level a more (d ∷ ds) ∷ up) best limit n L c m h =
        let p = beginning up in
        let q = (weight_tests P W posed L p a best limit d ds c m.0).2 in
        look_places (level a more (d ∷ ds)) up (below P.at_most (W.floor (beginning (level a more (d ∷ ds) ∷ up))) limit) (kept P W (beginning (level a more (d ∷ ds) ∷ up)) limit (d ∷ ds)) h
        q.0 q.1 q.2 (keep_same (goes_from (p ++ (a ∷ []))) (goes P W (p ++ (a ∷ []))) (goes_from_snoc p a) q.0 ∙ q.3)

    pub starts_place : Places (start P W).path
    starts_place = go P.doms refl posed.sound posed.some_module
      where
        go : (ds : List (List ℕ)) → P.doms ≡ ds → Sound ds → Filled ds → Places (down ds [])
        go [] e sound n = absurd n
        go ([] ∷ ds) e sound n = absurd sound.0
        go ((k ∷ ks) ∷ ds) e sound n = ((k ∷ ks, ds, [], e, keep_all (k ∷ ks)), tt)

    pub always_placed : Lawful P W → (n : ℕ) → Places (after P W n).path
    always_placed L zero = starts_place
    always_placed L (suc n) =
        let s = after P W n in
        step_places s.path s.best s.limit s.steps L (always P posed W L n).0 (always_tallies P W posed L n).0 (always_placed L n)
