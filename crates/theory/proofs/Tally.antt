-- The steps made and those to come.
use mathlib.Core.Path.{◌≡◌, refl, sym, ap, ap₂, ◌∙◌}
use mathlib.Core.List.{List, [], ◌∷◌, ◌++◌}
use mathlib.Core.Bool.{Bool, true, false, not, ◌&&◌, ◌||◌, cond, or-true}
use mathlib.Core.Option.{Option}
use Prim.Native.Nat.{ℕ, zero, suc, ◌+◌}
use native.Mathlib.Omega.{arith}
use lib.Dec.{T}
use lib.ListN.{length, drop}
use Rattle.theory.specs.Order.{below}
use Rattle.theory.specs.Tree.{beginnings, earlier, Sound, Filled}
use Rattle.theory.specs.Machine.{Problem, Walk, Posed, Lawful, Level, level, beginning, next, keep, strike, none_empty, down, open_to, kept, start, step_at, after}
use Rattle.theory.specs.Finding.{count, each_has, clears, Cheapest, alive, goes, goes_on, looked_at, looks}
use Rattle.theory.proofs.Lists.{total}
use Rattle.theory.proofs.Keeps.{keep_same, keep_cond, strike_same, strike_strike, strike_none, none_empty_strike, sound_none_empty}
use Rattle.theory.proofs.Weights.{weight, stays, opens, weight_below, weight_all, regroup, alive_snoc, length_snoc, drop_next}
use Rattle.theory.proofs.Best.{clears_is}
use Rattle.theory.proofs.Stack.{Past}
use Rattle.theory.proofs.Invariant.{always}

pub sound_drop : (n : ℕ) (ds : List (List ℕ)) → Sound ds → Sound (drop n ds)
sound_drop zero [] h = tt
sound_drop zero (d ∷ ds) h = h
sound_drop (suc n) [] h = tt
sound_drop (suc n) (d ∷ ds) h = sound_drop n ds h.2

abbrev pub first : List (List ℕ) → List ℕ
first [] = []
first (x ∷ xs) = x

abbrev pub others : List (List ℕ) → List (List ℕ)
others [] = []
others (x ∷ xs) = xs

strike_nil : (t : ℕ → ℕ → Bool) (j : ℕ) (ds : List (List ℕ)) → [] ≡ strike t j ds → ds ≡ []
strike_nil t j [] e = refl
strike_nil t j (d ∷ ds) e = cc

strike_cons : (t : ℕ → ℕ → Bool) (j : ℕ) (l : List (List ℕ)) (d : List ℕ) (ds : List (List ℕ)) → d ∷ ds ≡ strike t j l → (e : List ℕ) × (es : List (List ℕ)) × (l ≡ e ∷ es)
strike_cons t j [] d ds e = ([], [], cc)
strike_cons t j (x ∷ l) d ds e = (x, l, refl)

module _ {V : Type 0} (P : Problem V) (W : Walk V) where
  -- the modules from the i-th on
  abbrev pub from : ℕ → List (List ℕ)
  from i = drop i P.doms

  -- the live settings of the later modules are those that no prefix strikes
  abbrev pub Matches : List Level → Type 0
  Matches [] = Unit {0}
  Matches (level a more later ∷ up) = (later ≡ strike (stays P W (beginning up)) (suc (length (beginning up))) (from (suc (length (beginning up))))) × Matches up

  -- what the siblings to come weigh, at every level
  abbrev pub siblings : List Level → ℕ
  siblings [] = 0
  siblings (level a more later ∷ up) = total (λ k. weight P W (beginning up ++ (k ∷ [])) (from (suc (length (beginning up))))) more + siblings up

  abbrev pub to_come : List Level → ℕ
  to_come [] = 0
  to_come (level a more later ∷ up) = weight P W (beginning up ++ (a ∷ [])) (from (suc (length (beginning up)))) + siblings (level a more later ∷ up)

  pub next_matches : (path : List Level) → Matches path → Matches (next path)
  next_matches [] m = tt
  next_matches (level a [] later ∷ up) m = next_matches up m.1
  next_matches (level a (k ∷ ks) later ∷ up) m = m

  pub next_to_come : (path : List Level) → to_come (next path) ≡ siblings path
  next_to_come [] = refl
  next_to_come (level a [] later ∷ up) = let r = next_to_come up in omega arith
  next_to_come (level a (k ∷ ks) later ∷ up) = omega arith

  -- what is made and what is to come are all
  abbrev pub Tallies : List Level → ℕ → Type 0
  Tallies path n = Matches path × (n + to_come path ≡ looks P W)

  -- a closed beginning is one step
  shut_tallies : (l : Level) (up : List Level) (n : ℕ) → Tallies (l ∷ up) n → to_come (l ∷ up) ≡ suc (siblings (l ∷ up)) → Tallies (next (l ∷ up)) (suc n)
  shut_tallies l up n t e = (next_matches (l ∷ up) t.0, (let r = next_to_come (l ∷ up) in let s = t.1 in omega arith))

  -- an opened beginning is one step, and what is below it
  look_tallies : (l : Level) (up : List Level) (n : ℕ) (b : Bool) (live : List (List ℕ)) → Tallies (l ∷ up) n
      → to_come (l ∷ up) ≡ suc (cond (b && none_empty live) (total (λ k. weight P W (beginning (l ∷ up) ++ (k ∷ [])) (from (suc (length (beginning (l ∷ up)))))) (first live)) 0) + siblings (l ∷ up)
      → others live ≡ strike (stays P W (beginning (l ∷ up))) (suc (length (beginning (l ∷ up)))) (from (suc (length (beginning (l ∷ up)))))
      → Tallies (cond b (open_to live (l ∷ up)) (next (l ∷ up))) (suc n)
  look_tallies l up n false live t e m = shut_tallies l up n t (e ∙ omega arith)
  look_tallies l up n true [] t e m = shut_tallies l up n t (e ∙ omega arith)
  look_tallies l up n true ([] ∷ rest) t e m = shut_tallies l up n t (e ∙ omega arith)
  look_tallies l up n true ((k ∷ ks) ∷ rest) t e m = go (none_empty rest) e
    where
      g : ℕ → ℕ
      g k = weight P W (beginning (l ∷ up) ++ (k ∷ [])) (from (suc (length (beginning (l ∷ up)))))

      go : (c : Bool) → to_come (l ∷ up) ≡ suc (cond c (total g (k ∷ ks)) 0) + siblings (l ∷ up) → Tallies (cond c (level k ks rest ∷ l ∷ up) (next (l ∷ up))) (suc n)
      go false e = shut_tallies l up n t (e ∙ omega arith)
      go true e = ((m, t.0), (let s = t.1 in omega arith))

  module _ (posed : Posed P) (L : Lawful P W) where
    -- what is kept below w is what no prefix of w strikes
    kept_matches : (p : List ℕ) (a : ℕ) (best : Option (List ℕ)) (limit : V) (later : List (List ℕ)) → Cheapest P (λ y. T (earlier y (p ++ (a ∷ [])))) best limit
        → later ≡ strike (stays P W p) (suc (length p)) (from (suc (length p)))
        → kept P W (p ++ (a ∷ [])) limit later ≡ strike (stays P W (p ++ (a ∷ []))) (length (p ++ (a ∷ []))) (from (length (p ++ (a ∷ []))))
    kept_matches p a best limit later c m = rw (length_snoc p a) (go W.ahead m)
      where
        w : List ℕ
        w = p ++ (a ∷ [])

        i : ℕ
        i = suc (length p)

        pass : ℕ → ℕ → Bool
        pass j k = below P.at_most (W.answer w j k) limit

        go : (b : Bool) → later ≡ strike (λ j k. not b || alive P W p j k) i (from i)
            → cond b (strike pass i later) later ≡ strike (λ j k. not b || alive P W w j k) i (from i)
        go true m = ap (strike pass i) m ∙ strike_strike pass (alive P W p) (alive P W w)
            (λ j k. alive_snoc P W p a j k ∙ ap (λ b. alive P W p j k && b) (sym (clears_is P posed.order w best limit c (W.answer w j k)))) i (from i)
        go false m = m

    -- and it has an empty module just when a module lost all its settings
    kept_none_empty : (w : List ℕ) → none_empty (strike (stays P W w) (length w) (from (length w))) ≡ (not W.ahead || each_has (alive P W w) (length w) (from (length w)))
    kept_none_empty w = go W.ahead
      where
        go : (b : Bool) → none_empty (strike (λ j k. not b || alive P W w j k) (length w) (from (length w))) ≡ (not b || each_has (alive P W w) (length w) (from (length w)))
        go true = none_empty_strike (alive P W w) (length w) (from (length w))
        go false = ap none_empty (strike_none (length w) (from (length w))) ∙ sound_none_empty (from (length w)) (sound_drop (length w) P.doms posed.sound)

    -- what a beginning w weighs, said by the tests that the walk makes
    pub weight_tests : (p : List ℕ) (a : ℕ) (best : Option (List ℕ)) (limit : V) (d : List ℕ) (ds : List (List ℕ)) → Cheapest P (λ y. T (earlier y (p ++ (a ∷ [])))) best limit
        → d ∷ ds ≡ strike (stays P W p) (suc (length p)) (from (suc (length p)))
        → let w = p ++ (a ∷ []) in let live = kept P W w limit (d ∷ ds) in
        (weight P W w (from (suc (length p))) ≡ suc (cond (below P.at_most (W.floor w) limit && none_empty live) (total (λ k. weight P W (w ++ (k ∷ [])) (from (suc (length w)))) (first live)) 0))
        × (others live ≡ strike (stays P W w) (suc (length w)) (from (suc (length w))))
        × ((e : List ℕ) × (es : List (List ℕ)) × (from (length w) ≡ e ∷ es) × (keep (goes P W w) e ≡ cond (below P.at_most (W.floor w) limit && none_empty live) (first live) []))
    weight_tests p a best limit d ds c m = (size, tails, (e, es, here, goers))
      where
        w : List ℕ
        w = p ++ (a ∷ [])

        live : List (List ℕ)
        live = kept P W w limit (d ∷ ds)

        some_later : (e : List ℕ) × (es : List (List ℕ)) × (from (suc (length p)) ≡ e ∷ es)
        some_later = strike_cons (stays P W p) (suc (length p)) (from (suc (length p))) d ds m

        e : List ℕ
        e = some_later.0

        es : List (List ℕ)
        es = some_later.1

        here : from (length w) ≡ e ∷ es
        here = ap from (length_snoc p a) ∙ some_later.2

        below_here : from (suc (length w)) ≡ es
        below_here = drop_next (length w) P.doms e es here

        is : live ≡ keep (stays P W w (length w)) e ∷ strike (stays P W w) (suc (length w)) es
        is = kept_matches p a best limit (d ∷ ds) c m ∙ ap (strike (stays P W w) (length w)) here

        tails : others live ≡ strike (stays P W w) (suc (length w)) (from (suc (length w)))
        tails = ap others is ∙ ap (strike (stays P W w) (suc (length w))) (sym below_here)

        tests : opens P W w ≡ (below P.at_most (W.floor w) limit && none_empty live)
        tests = ap₂ ◌&&◌ (sym (clears_is P posed.order w best limit c (W.floor w)))
            (sym (ap none_empty (kept_matches p a best limit (d ∷ ds) c m) ∙ kept_none_empty w))

        goers : keep (goes P W w) e ≡ cond (below P.at_most (W.floor w) limit && none_empty live) (first live) []
        goers = keep_same (goes P W w) (λ k. opens P W w && stays P W w (length w) k)
            (λ k. regroup (clears P w (W.floor w)) W.ahead (each_has (alive P W w) (length w) (from (length w))) (alive P W w (length w) k)) e
            ∙ keep_cond (opens P W w) (stays P W w (length w)) e
            ∙ ap₂ (λ b x. cond b x []) tests (ap first (sym is))

        heads : (f : ℕ → ℕ) → total f (keep (stays P W w (length w)) e) ≡ total f (first live)
        heads f = ap (λ x. total f (first x)) (sym is)

        size : weight P W w (from (suc (length p))) ≡ suc (cond (below P.at_most (W.floor w) limit && none_empty live) (total (λ k. weight P W (w ++ (k ∷ [])) (from (suc (length w)))) (first live)) 0)
        size = ap suc (
            ap (λ x. count (goes_on P W w) (beginnings x)) some_later.2
            ∙ weight_below P W w e es
            ∙ ap₂ (λ b n. cond b n 0) tests
            (heads (λ k. weight P W (w ++ (k ∷ [])) es) ∙ ap (λ x. total (λ k. weight P W (w ++ (k ∷ [])) x) (first live)) (sym below_here)))

    pub step_tallies : (path : List Level) (best : Option (List ℕ)) (limit : V) (n : ℕ) → Cheapest P (Past path) best limit → Tallies path n
        → let s = step_at P W path (record { path = path; limit = limit; best = best; steps = n }) in Tallies s.path s.steps
    step_tallies [] best limit n c t = t
    step_tallies (level a more [] ∷ up) best limit n c t = shut_tallies (level a more []) up n t (ap (λ x. x + siblings (level a more [] ∷ up)) leaf ∙ one_more)
      where
        p : List ℕ
        p = beginning up

        leaf : weight P W (p ++ (a ∷ [])) (from (suc (length p))) ≡ 1
        leaf = ap (weight P W (p ++ (a ∷ []))) (strike_nil (stays P W p) (suc (length p)) (from (suc (length p))) t.0.0)

        one_more : 1 + siblings (level a more [] ∷ up) ≡ suc (siblings (level a more [] ∷ up))
        one_more = omega arith
    step_tallies (level a more (d ∷ ds) ∷ up) best limit n c t =
        let w = weight_tests (beginning up) a best limit d ds c t.0.0 in
        look_tallies (level a more (d ∷ ds)) up n (below P.at_most (W.floor (beginning (level a more (d ∷ ds) ∷ up))) limit) (kept P W (beginning (level a more (d ∷ ds) ∷ up)) limit (d ∷ ds)) t
        (ap (λ x. x + siblings (level a more (d ∷ ds) ∷ up)) w.0) w.1

    pub starts_tally : Tallies (start P W).path 0
    starts_tally = go P.doms refl posed.sound posed.some_module
      where
        go : (ds : List (List ℕ)) → ds ≡ P.doms → Sound ds → Filled ds → Tallies (down ds []) 0
        go [] e sound n = absurd n
        go ([] ∷ ds) e sound n = absurd sound.0
        go ((k ∷ ks) ∷ ds) e sound n = ((same_later, tt), sum)
          where
            rest : from 1 ≡ ds
            rest = ap (drop 1) (sym e)

            sum : 0 + to_come (level k ks ds ∷ []) ≡ looks P W
            sum =
                let first_of : total (λ k. weight P W (k ∷ []) (from 1)) (k ∷ ks) ≡ looks P W =
                ap (λ x. total (λ k. weight P W (k ∷ []) x) (k ∷ ks)) rest ∙ sym (weight_all P W (k ∷ ks) ds) ∙ ap (λ x. count (looked_at P W) (beginnings x)) e in
                omega arith

            same_later : ds ≡ strike (stays P W []) 1 (from 1)
            same_later = sym (strike_same (stays P W []) (λ j k. true) (λ j k. or-true (not W.ahead)) 1 (from 1) ∙ strike_none 1 (from 1) ∙ rest)

    pub always_tallies : (n : ℕ) → Tallies (after P W n).path (after P W n).steps
    always_tallies zero = starts_tally
    always_tallies (suc n) =
        let s = after P W n in
        step_tallies s.path s.best s.limit s.steps (always P posed W L n).0 (always_tallies n)
