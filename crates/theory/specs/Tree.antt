-- Setups, beginnings and the order in which they are read.
use Rattle.std.specs.Prelude.{List, [], ◌∷◌, ◌++◌, map, Bool, true, false, ◌&&◌, ◌||◌, ◌⊎◌, ◌≡◌, ℕ, ◌<◌, ltb, eqb}

-- k is one of the settings
abbrev pub Among : ℕ → List ℕ → Type 0
Among k [] = ⊥
Among k (x ∷ xs) = (k ≡ x) ⊎ Among k xs

-- a setup takes one setting of each module, in order
abbrev pub Fits : List ℕ → List (List ℕ) → Type 0
Fits [] [] = Unit {0}
Fits [] (d ∷ ds) = ⊥
Fits (x ∷ xs) [] = ⊥
Fits (x ∷ xs) (d ∷ ds) = Among x d × Fits xs ds

-- a beginning takes one setting of each of the first modules
abbrev pub Begins : List ℕ → List (List ℕ) → Type 0
Begins [] ds = Unit {0}
Begins (x ∷ xs) [] = ⊥
Begins (x ∷ xs) (d ∷ ds) = Among x d × Begins xs ds

-- x and w differ within both, and x is lower at the first difference
abbrev pub earlier : List ℕ → List ℕ → Bool
earlier [] w = false
earlier (x ∷ xs) [] = false
earlier (x ∷ xs) (k ∷ ks) = ltb x k || (eqb x k && earlier xs ks)

-- each of the settings is above k
abbrev pub Above : ℕ → List ℕ → Type 0
Above k [] = Unit {0}
Above k (x ∷ xs) = (k < x) × Above k xs

abbrev pub Ascending : List ℕ → Type 0
Ascending [] = Unit {0}
Ascending (k ∷ ks) = Above k ks × Ascending ks

abbrev pub Filled : {A : Type 0} → List A → Type 0
Filled [] = ⊥
Filled (k ∷ ks) = Unit {0}

-- every module has settings, in ascending order
abbrev pub Sound : List (List ℕ) → Type 0
Sound [] = Unit {0}
Sound (d ∷ ds) = Filled d × Ascending d × Sound ds

-- f of each setting, joined
abbrev pub each : (ℕ → List (List ℕ)) → List ℕ → List (List ℕ)
each f [] = []
each f (k ∷ ks) = f k ++ each f ks

-- all allowed setups, in reading order
abbrev pub setups : List (List ℕ) → List (List ℕ)
setups [] = [] ∷ []
setups (d ∷ ds) = each (λ k. map (λ s. k ∷ s) (setups ds)) d

-- all beginnings, each before those that continue it
abbrev pub beginnings : List (List ℕ) → List (List ℕ)
beginnings [] = []
beginnings (d ∷ ds) = each (λ k. (k ∷ []) ∷ map (λ s. k ∷ s) (beginnings ds)) d

-- the non-empty prefixes of b, b among them
abbrev pub prefixes : List ℕ → List (List ℕ)
prefixes [] = []
prefixes (k ∷ s) = (k ∷ []) ∷ map (λ q. k ∷ q) (prefixes s)

abbrev pub all_of : {A : Type 0} → (A → Bool) → List A → Bool
all_of t [] = true
all_of t (x ∷ xs) = t x && all_of t xs

abbrev pub any_of : {A : Type 0} → (A → Bool) → List A → Bool
any_of t [] = false
any_of t (x ∷ xs) = t x || any_of t xs

abbrev pub bit : Bool → ℕ
bit true = 1
bit false = 0
