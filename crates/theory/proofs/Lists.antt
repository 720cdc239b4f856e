-- Tests over the lists of setups and settings.
use mathlib.Core.Path.{◌≡◌, refl, sym, subst, ap, ◌∙◌}
use mathlib.Core.List.{List, [], ◌∷◌, ◌++◌, map}
use mathlib.Core.Logic.{inl, inr}
use mathlib.Core.Bool.{Bool, true, false, ◌&&◌, and_assoc}
use Prim.Native.Nat.{ℕ, ◌+◌, ◌≤◌}
use native.Mathlib.Omega.{arith}
use lib.Dec.{T}
use Rattle.theory.specs.Tree.{Among, Fits, Begins, Filled, setups, beginnings, each, all_of, prefixes, bit}
use Rattle.theory.specs.Finding.{count}
use Rattle.theory.proofs.Tests.{and_in, and_out}

pub all_join : {A : Type 0} (t : A → Bool) (xs ys : List A) → T (all_of t xs) → T (all_of t ys) → T (all_of t (xs ++ ys))
all_join t [] ys h k = k
all_join t (x ∷ xs) ys h k = let e = and_out (t x) (all_of t xs) h in and_in (t x) (all_of t (xs ++ ys)) e.0 (all_join t xs ys e.1 k)

pub all_split : {A : Type 0} (t : A → Bool) (xs ys : List A) → T (all_of t (xs ++ ys)) → T (all_of t xs) × T (all_of t ys)
all_split t [] ys h = (tt, h)
all_split t (x ∷ xs) ys h =
    let e = and_out (t x) (all_of t (xs ++ ys)) h in
    let r = all_split t xs ys e.1 in
    (and_in (t x) (all_of t xs) e.0 r.0, r.1)

pub all_map : {A B : Type 0} (t : B → Bool) (f : A → B) (xs : List A) → all_of t (map f xs) ≡ all_of (λ x. t (f x)) xs
all_map t f [] = refl
all_map t f (x ∷ xs) = ap (λ b. t (f x) && b) (all_map t f xs)

-- what passes for every listed setup passes for every allowed one
pub all_setups : (t : List ℕ → Bool) (ds : List (List ℕ)) → T (all_of t (setups ds)) → (y : List ℕ) → Fits y ds → T (t y)
all_setups t [] h [] f = (and_out (t []) true h).0
all_setups t [] h (x ∷ y) f = absurd f
all_setups t (d ∷ ds) h [] f = absurd f
all_setups t (d ∷ ds) h (x ∷ y) f = go (λ t h. all_setups t ds h y f.1) d h f.0
  where
    go : ((t : List ℕ → Bool) → T (all_of t (setups ds)) → T (t y)) → (d : List ℕ) → T (all_of t (each (λ k. map (λ s. k ∷ s) (setups ds)) d)) → Among x d → T (t (x ∷ y))
    go rest [] h a = absurd a
    go rest (k ∷ ks) h (inl e) =
        let here = (all_split t (map (λ s. k ∷ s) (setups ds)) (each (λ k. map (λ s. k ∷ s) (setups ds)) ks) h).0 in
        subst (λ z. T (t (z ∷ y))) (sym e) (rest (λ s. t (k ∷ s)) (subst T (all_map t (λ s. k ∷ s) (setups ds)) here))
    go rest (k ∷ ks) h (inr a) = go rest ks (all_split t (map (λ s. k ∷ s) (setups ds)) (each (λ k. map (λ s. k ∷ s) (setups ds)) ks) h).1 a

pub setups_all : (t : List ℕ → Bool) (ds : List (List ℕ)) → ((y : List ℕ) → Fits y ds → T (t y)) → T (all_of t (setups ds))
setups_all t [] h = and_in (t []) true (h [] tt) tt
setups_all t (d ∷ ds) h = go (λ t. setups_all t ds) d (λ x y a f. h (x ∷ y) (a, f))
  where
    go : ((t : List ℕ → Bool) → ((y : List ℕ) → Fits y ds → T (t y)) → T (all_of t (setups ds))) → (d : List ℕ)
        → ((x : ℕ) (y : List ℕ) → Among x d → Fits y ds → T (t (x ∷ y))) → T (all_of t (each (λ k. map (λ s. k ∷ s) (setups ds)) d))
    go rest [] h = tt
    go rest (k ∷ ks) h = all_join t (map (λ s. k ∷ s) (setups ds)) (each (λ k. map (λ s. k ∷ s) (setups ds)) ks)
        (subst T (sym (all_map t (λ s. k ∷ s) (setups ds))) (rest (λ s. t (k ∷ s)) (λ y f. h k y (inl refl) f)))
        (go rest ks (λ x y a f. h x y (inr a) f))

pub count_join : (t : List ℕ → Bool) (xs ys : List (List ℕ)) → count t (xs ++ ys) ≡ count t xs + count t ys
count_join t [] ys = omega arith
count_join t (x ∷ xs) ys = let r = count_join t xs ys in omega arith

pub count_map : (t : List ℕ → Bool) (f : List ℕ → List ℕ) (xs : List (List ℕ)) → count t (map f xs) ≡ count (λ s. t (f s)) xs
count_map t f [] = refl
count_map t f (x ∷ xs) = ap (λ n. bit (t (f x)) + n) (count_map t f xs)

pub count_none : (xs : List (List ℕ)) → count (λ s. false) xs ≡ 0
count_none [] = refl
count_none (x ∷ xs) = let r = count_none xs in omega arith

pub count_same : (t t' : List ℕ → Bool) → ((s : List ℕ) → t s ≡ t' s) → (xs : List (List ℕ)) → count t xs ≡ count t' xs
count_same t t' h [] = refl
count_same t t' h (x ∷ xs) = let r = count_same t t' h xs in let e : bit (t x) ≡ bit (t' x) = ap bit (h x) in omega arith

bit_mono : (a b : Bool) → (T a → T b) → bit a ≤ bit b
bit_mono true true h = omega arith
bit_mono true false h = absurd (h tt)
bit_mono false b h = omega arith

-- the sum of f over the settings
abbrev pub total : (ℕ → ℕ) → List ℕ → ℕ
total f [] = 0
total f (k ∷ ks) = f k + total f ks

pub total_same : (f g : ℕ → ℕ) → ((k : ℕ) → f k ≡ g k) → (d : List ℕ) → total f d ≡ total g d
total_same f g h [] = refl
total_same f g h (k ∷ ks) = let r = total_same f g h ks in let e = h k in omega arith

pub total_none : (d : List ℕ) → total (λ k. 0) d ≡ 0
total_none [] = refl
total_none (k ∷ ks) = let r = total_none ks in omega arith

pub count_each : (t : List ℕ → Bool) (f : ℕ → List (List ℕ)) (d : List ℕ) → count t (each f d) ≡ total (λ k. count t (f k)) d
count_each t f [] = refl
count_each t f (k ∷ ks) = let r = count_each t f ks in let e = count_join t (f k) (each f ks) in omega arith

total_more : (f g : ℕ → ℕ) (d : List ℕ) → ((k : ℕ) → Among k d → f k ≤ g k) → total f d ≤ total g d
total_more f g [] h = omega arith
total_more f g (k ∷ ks) h = let e = h k (inl refl) in let r = total_more f g ks (λ x a. h x (inr a)) in omega arith

-- a test that passes for more beginnings counts no less
pub count_more : (t t' : List ℕ → Bool) (ds : List (List ℕ)) → ((b : List ℕ) → Filled b → Begins b ds → T (t b) → T (t' b)) → count t (beginnings ds) ≤ count t' (beginnings ds)
count_more t t' [] h = omega arith
count_more t t' (d ∷ ds) h =
    let f : ℕ → List (List ℕ) = λ k. (k ∷ []) ∷ map (λ s. k ∷ s) (beginnings ds) in
    let a = count_each t f d in
    let b = count_each t' f d in
    let m = total_more (λ k. count t (f k)) (λ k. count t' (f k)) d (λ k among.
    let one = bit_mono (t (k ∷ [])) (t' (k ∷ [])) (h (k ∷ []) tt (among, tt)) in
    let rest = count_more (λ s. t (k ∷ s)) (λ s. t' (k ∷ s)) ds (λ s n g. h (k ∷ s) tt (among, g)) in
    let e = count_map t (λ s. k ∷ s) (beginnings ds) in
    let e' = count_map t' (λ s. k ∷ s) (beginnings ds) in
    omega arith) in
    omega arith

pub all_append : {A : Type 0} (t : A → Bool) (xs ys : List A) → all_of t (xs ++ ys) ≡ (all_of t xs && all_of t ys)
all_append t [] ys = refl
all_append t (x ∷ xs) ys = ap (λ b. t x && b) (all_append t xs ys) ∙ sym (and_assoc (t x) (all_of t xs) (all_of t ys))

pub map_append : (f : List ℕ → List ℕ) (xs ys : List (List ℕ)) → map f (xs ++ ys) ≡ map f xs ++ map f ys
map_append f [] ys = refl
map_append f (x ∷ xs) ys = ap (λ r. f x ∷ r) (map_append f xs ys)

-- the prefixes of one setting more
pub prefixes_snoc : (p : List ℕ) (a : ℕ) → prefixes (p ++ (a ∷ [])) ≡ prefixes p ++ ((p ++ (a ∷ [])) ∷ [])
prefixes_snoc [] a = refl
prefixes_snoc (b ∷ p) a = ap (λ r. (b ∷ []) ∷ r) (ap (map (λ q. b ∷ q)) (prefixes_snoc p a) ∙ map_append (λ q. b ∷ q) (prefixes p) ((p ++ (a ∷ [])) ∷ []))
