-- The floors (lower bounds) of the bounds at a beginning p, for any kind.
use Rattle.std.specs.Prelude.{ℕ, ◌+◌, Bool, true, false, cond, List, length, ◌==◌}
use Rattle.charges.specs.Kinds.{Kind}
use Rattle.tables.specs.declared.modules.Modules.{Modules}
use Rattle.tables.specs.Joins.{joined_from}
use Rattle.tables.specs.Modules.{allows}
use Rattle.tables.specs.Setups.{forward_count, charge_of}
use Rattle.tables.specs.Sheet.{entry_at}
use Rattle.counts.specs.Least.{least}

-- of module j only setting k passes, and of each other module what is allowed
abbrev pub only : Modules → ℕ → ℕ → ℕ → ℕ → Bool
only m j k i l = cond (i == j) (l == k) (allows m i l)

module _ (K : Kind) (sheet : List ℕ) where
  -- the past charge: the entries between the beginning's own modules
  abbrev pub past_charge : List ℕ → K.V
  past_charge p = charge_of K sheet p (length p)

  -- the forward count of setting k of module j: its entries with the beginning
  abbrev pub forward : List ℕ → ℕ → ℕ → K.V
  forward p j k = forward_count K sheet p (length p) j k

module _ (K : Kind) (m : Modules) (sheet : List ℕ) where
  -- the least charge of an entry between setting k of module j and an allowed setting of module i
  abbrev pub least_entry : ℕ → ℕ → ℕ → K.V
  least_entry j k i = least K (allows m i) (λ l. K.entry (entry_at sheet j k i l))

  -- the directed count of setting k of module j: that least, over each module after j
  abbrev pub directed : ℕ → ℕ → K.V
  directed j k = joined_from K (least_entry j k) (j + 1) m.count

  -- both counts of a setting
  abbrev pub both : List ℕ → ℕ → ℕ → K.V
  both p j k = K.join (forward K sheet p j k) (directed j k)

  -- what a bound counts of a setting: its forward count, or where `directed` is true both counts
  abbrev pub counted : Bool → List ℕ → ℕ → ℕ → K.V
  counted false p = forward K sheet p
  counted true p = both p

  -- the past charge joined, for each later module, with the least count of a setting that passes
  abbrev pub floor_over : (ℕ → ℕ → Bool) → (ℕ → ℕ → K.V) → List ℕ → K.V
  floor_over passes count p =
      K.join (past_charge K sheet p) (joined_from K (λ j. least K (passes j) (count j)) (length p) m.count)

  abbrev pub forward_floor : List ℕ → K.V
  forward_floor p = floor_over (allows m) (forward K sheet p) p

  abbrev pub directed_floor : List ℕ → K.V
  directed_floor p = floor_over (allows m) (both p) p

  -- for one setting k of one later module j
  abbrev pub forward_with : List ℕ → ℕ → ℕ → K.V
  forward_with p j k = floor_over (only m j k) (forward K sheet p) p

  abbrev pub directed_with : List ℕ → ℕ → ℕ → K.V
  directed_with p j k = floor_over (only m j k) (both p) p
