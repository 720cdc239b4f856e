-- What each call checks, in the order of the refusals' numbers.
use Rattle.std.specs.Prelude.{◌≡◌, ℕ, zero, suc, ◌^◌, ◌<◌, Bool, true, false, not, ◌&&◌, ◌||◌, List, [], ◌∷◌, length, ◌==◌, nat_le, nat_lt, slice_index, slice_set}
use Rattle.tables.specs.declared.modules.Modules.{Modules}
use Rattle.tables.specs.Modules.{settings_of}
use Rattle.jobs.specs.declared.refusal.Refusal.{Refusal}
use Rattle.jobs.specs.Refusals.{number_of, first}
use Rattle.jobs.specs.declared.refusal.Refusal.TheVariants.{TooShort, SearchOpen, Full, SettingsOutOfRange, NoModule, NotLower, NoSetting, ClashTooHigh, WrongMask, NoModules, WrongTicket, NoSteps}

-- a sheet has at least 12,160 entries, a row at least 20 bytes
abbrev pub short_sheet : List ℕ → Bool
short_sheet sheet = nat_lt (length sheet) 12160

abbrev pub short_row : List ℕ → Bool
short_row row = nat_lt (length row) 20

-- module i has a setting k
abbrev pub has : Modules → ℕ → ℕ → Bool
has m i k = nat_lt k (settings_of m i)

-- row has settings for the first n modules
abbrev pub has_all : Modules → List ℕ → ℕ → Bool
has_all m row zero = true
has_all m row (suc n) = has_all m row n && has m n (slice_index row n)

-- while a walk is open refusal 2 stands among the others, right after refusal 1
abbrev pub unless_walking : Bool → List (Refusal × Bool) → List (Refusal × Bool)
unless_walking walking ((TooShort, fits) ∷ checks) = (TooShort, fits) ∷ (SearchOpen, walking) ∷ checks
unless_walking walking checks = (SearchOpen, walking) ∷ checks

abbrev pub add_checks : Modules → List ℕ → ℕ → List (Refusal × Bool)
add_checks m sheet settings =
    (TooShort, short_sheet sheet)
    ∷ (Full, nat_le 20 m.count)
    ∷ (SettingsOutOfRange, (settings == 0) || nat_lt 8 settings)
    ∷ []

abbrev pub charge_checks : Modules → List ℕ → ℕ → ℕ → ℕ → ℕ → ℕ → List (Refusal × Bool)
charge_checks m sheet i k j l clash =
    (TooShort, short_sheet sheet)
    ∷ (NoModule, nat_le m.count i || nat_le m.count j)
    ∷ (NotLower, nat_le j i)
    ∷ (NoSetting, not (has m i k) || not (has m j l))
    ∷ (ClashTooHigh, nat_lt 1000 clash)
    ∷ []

abbrev pub narrow_checks : Modules → ℕ → ℕ → List (Refusal × Bool)
narrow_checks m i mask =
    (NoModule, nat_le m.count i)
    ∷ (WrongMask, (mask == 0) || nat_le (2 ^ settings_of m i) mask)
    ∷ []

abbrev pub weigh_checks : Modules → List ℕ → List ℕ → List (Refusal × Bool)
weigh_checks m sheet row =
    (TooShort, short_sheet sheet || short_row row)
    ∷ (NoSetting, not (has_all m row m.count))
    ∷ []

-- the byte that stands at i does not count
abbrev pub what_if_checks : Modules → List ℕ → List ℕ → ℕ → ℕ → List (Refusal × Bool)
what_if_checks m sheet row i k =
    (TooShort, short_sheet sheet || short_row row)
    ∷ (NoModule, nat_le m.count i)
    ∷ (NoSetting, not (has_all m (slice_set row i k) m.count))
    ∷ []

abbrev pub start_checks : Bool → Modules → List (Refusal × Bool)
start_checks walking m = (SearchOpen, walking) ∷ (NoModules, (m.count == 0)) ∷ []

-- a scratch has at least 192 charges; `ticket` is the number on the ticket
abbrev pub sit_checks : Bool → ℕ → List ℕ → ℕ → ℕ → ℕ → List (Refusal × Bool)
sit_checks walking number sheet room ticket steps =
    (TooShort, short_sheet sheet || nat_lt room 192)
    ∷ (WrongTicket, not (ticket == number) || not walking)
    ∷ (NoSteps, (steps == 0))
    ∷ []

abbrev pub close_checks : Bool → ℕ → List ℕ → ℕ → List (Refusal × Bool)
close_checks walking number row ticket = (TooShort, short_row row) ∷ (WrongTicket, not (ticket == number) || not walking) ∷ []

-- the refusals' numbers rise from check to check
abbrev pub Rises : List (Refusal × Bool) → Type 0
Rises [] = Unit {0}
Rises ((r, _) ∷ []) = Unit {0}
Rises ((r, _) ∷ (s, fits) ∷ checks) = (number_of r < number_of s) × Rises ((s, fits) ∷ checks)

-- each call goes through its checks in the order of their numbers
pub record InNumberOrder : Type 0 where
  pub add : (walking : Bool) (m : Modules) (sheet : List ℕ) (settings : ℕ) → Rises (unless_walking walking (add_checks m sheet settings))
  pub charge : (walking : Bool) (m : Modules) (sheet : List ℕ) (i k j l clash : ℕ) → Rises (unless_walking walking (charge_checks m sheet i k j l clash))
  pub narrow : (walking : Bool) (m : Modules) (i mask : ℕ) → Rises (unless_walking walking (narrow_checks m i mask))
  pub weigh : (m : Modules) (sheet row : List ℕ) → Rises (weigh_checks m sheet row)
  pub what_if : (m : Modules) (sheet row : List ℕ) (i k : ℕ) → Rises (what_if_checks m sheet row i k)
  pub start : (walking : Bool) (m : Modules) → Rises (start_checks walking m)
  pub sit : (walking : Bool) (number : ℕ) (sheet : List ℕ) (room ticket steps : ℕ) → Rises (sit_checks walking number sheet room ticket steps)
  pub close : (walking : Bool) (number : ℕ) (row : List ℕ) (ticket : ℕ) → Rises (close_checks walking number row ticket)

-- while no walk is open, a call refuses as its own checks say
abbrev pub AtRest : Type 0
AtRest = (checks : List (Refusal × Bool)) → first (unless_walking false checks) ≡ first checks
