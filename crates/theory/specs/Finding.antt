-- What a walk finds, and how many beginnings it looks at.
use Rattle.std.specs.Prelude.{List, [], ◌∷◌, ◌++◌, Bool, true, false, not, ◌&&◌, ◌||◌, ◌≡◌, ℕ, suc, ◌+◌, ◌≤◌, T, ltb, eqb, length, drop}
use Rattle.std.proofs.Math.Option.{Option, some, none}
use Rattle.theory.specs.Order.{below}
use Rattle.theory.specs.Tree.{Fits, Begins, Filled, earlier, setups, beginnings, prefixes, all_of, any_of, bit}
use Rattle.theory.specs.Machine.{Problem, Walk, Posed, Lawful, Level, beginning, State, after}

-- how many pass
abbrev pub count : (List ℕ → Bool) → List (List ℕ) → ℕ
count t [] = 0
count t (b ∷ bs) = bit (t b) + count t bs

-- some setting of module j passes, and so of each module after it
abbrev pub each_has : (ℕ → ℕ → Bool) → ℕ → List (List ℕ) → Bool
each_has t j [] = true
each_has t j (d ∷ ds) = any_of (t j) d && each_has t (suc j) ds

-- b comes before w in depth-first order: w goes on from b, or b is lower at the first difference
abbrev pub precedes : List ℕ → List ℕ → Bool
precedes [] [] = false
precedes [] (k ∷ ks) = true
precedes (x ∷ xs) [] = false
precedes (x ∷ xs) (k ∷ ks) = ltb x k || (eqb x k && precedes xs ks)

module _ {V : Type 0} (P : Problem V) where
  -- of the allowed setups in S, best is the first in reading order of the cheapest, if one lies below the ceiling; limit is its charge or else the ceiling
  abbrev pub Cheapest : (List ℕ → Type 0) → Option (List ℕ) → V → Type 0
  Cheapest S none limit = (limit ≡ P.ceiling) × ((y : List ℕ) → Fits y P.doms → S y → T (P.at_most P.ceiling (P.cost y)))
  Cheapest S (some x) limit = Fits x P.doms × S x × (P.cost x ≡ limit) × T (below P.at_most limit P.ceiling)
      × ((y : List ℕ) → Fits y P.doms → S y → T (P.at_most limit (P.cost y)))
      × ((y : List ℕ) → Fits y P.doms → S y → T (earlier y x) → T (below P.at_most limit (P.cost y)))

  -- v is below the ceiling, and below the charge of each allowed setup that reads earlier than p
  abbrev pub clears : List ℕ → V → Bool
  clears p v = below P.at_most v P.ceiling && all_of (λ y. not (earlier y p) || below P.at_most v (P.cost y)) (setups P.doms)

module _ {V : Type 0} (P : Problem V) (W : Walk V) where
  -- no prefix of p strikes the setting k of module j
  abbrev pub alive : List ℕ → ℕ → ℕ → Bool
  alive p j k = all_of (λ q. clears P q (W.answer q j k)) (prefixes p)

  -- the walk goes on from p to its next setting k
  abbrev pub goes : List ℕ → ℕ → Bool
  goes p k = clears P p (W.floor p) && (not W.ahead || (each_has (alive p) (length p) (drop (length p) P.doms) && alive p (length p) k))

  -- it goes on from p through all of s
  abbrev pub goes_on : List ℕ → List ℕ → Bool
  goes_on p [] = true
  goes_on p (k ∷ s) = goes p k && goes_on (p ++ (k ∷ [])) s

  -- from each shorter beginning of b it goes on to the next setting of b
  abbrev pub looked_at : List ℕ → Bool
  looked_at [] = true
  looked_at (k ∷ s) = goes_on (k ∷ []) s

  -- the number of beginnings that are looked at
  abbrev pub looks : ℕ
  looks = count looked_at (beginnings P.doms)

  -- at a state that waits at a beginning
  pub record Underway (s : State V) : Type 0 where
    pub found : Cheapest P (λ y. T (earlier y (beginning s.path))) s.best s.limit
    pub looked : s.steps ≡ count (λ b. looked_at b && precedes b (beginning s.path)) (beginnings P.doms)

  pub record Finished (s : State V) : Type 0 where
    pub found : Cheapest P (λ y. Unit {0}) s.best s.limit
    pub looked : s.steps ≡ looks

  abbrev pub WayAt : List Level → State V → Type 0
  WayAt [] s = Finished s
  WayAt (l ∷ up) s = Underway s

  abbrev pub Way : State V → Type 0
  Way s = WayAt s.path s

-- Of a lawful walk, every state on the way and every state at the end.
abbrev pub Finds : Type 0 → Type 0
Finds V = (P : Problem V) (W : Walk V) → Posed P → Lawful P W → (n : ℕ) → Way P W (after P W n)

-- Two finished walks of one problem agree, and higher floors with a look ahead cost no more steps.
abbrev pub Agree : Type 0 → Type 0
Agree V = (P : Problem V) (W W' : Walk V) → Posed P → Lawful P W → Lawful P W' → (n n' : ℕ)
    → (after P W n).path ≡ [] → (after P W' n').path ≡ []
    → ((after P W n).best ≡ (after P W' n').best) × ((after P W n).limit ≡ (after P W' n').limit)
    × (W'.ahead ≡ false → ((b : List ℕ) → Filled b → Begins b P.doms → T (P.at_most (W'.floor b) (W.floor b))) → (after P W n).steps ≤ (after P W' n').steps)
