-- What a charge kind is, and when it is lawful.
use Rattle.std.specs.Prelude.{◌≡◌, ℕ, Bool, true, false, ◌⊎◌}

-- A charge kind (a cost structure): its charges, a zero, a join, a test for "at most", and the charge of each entry.
pub record Kind : Type 1 where
  pub V : Type 0
  pub zero : V
  pub join : V → V → V
  pub at_most : V → V → Bool
  pub entry : ℕ → V

-- x is at most y
abbrev pub AtMost : (K : Kind) → K.V → K.V → Type 0
AtMost K x y = K.at_most x y ≡ true

-- x is below y: y is not at most x
abbrev pub Below : (K : Kind) → K.V → K.V → Type 0
Below K x y = K.at_most y x ≡ false

-- A kind is lawful where all its charges keep these.
pub record Lawful (K : Kind) : Type 0 where
  pub associative : (x y z : K.V) → K.join (K.join x y) z ≡ K.join x (K.join y z)
  pub commutative : (x y : K.V) → K.join x y ≡ K.join y x
  pub neutral : (x : K.V) → K.join K.zero x ≡ x
  pub total : (x y : K.V) → AtMost K x y ⊎ AtMost K y x
  pub transitive : (x y z : K.V) → AtMost K x y → AtMost K y z → AtMost K x z
  pub antisymmetric : (x y : K.V) → AtMost K x y → AtMost K y x → x ≡ y
  pub least : (x : K.V) → AtMost K K.zero x
  pub monotone : (x y z : K.V) → AtMost K x y → AtMost K (K.join x z) (K.join y z)
  pub free : K.entry 0 ≡ K.zero
