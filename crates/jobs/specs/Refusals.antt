-- The refusals, and how a call comes to one.
use Rattle.std.specs.Prelude.{◌≡◌, ℕ, Bool, cond, List, [], ◌∷◌, Some, None, Ok, Err, Option, Result}
use Rattle.jobs.specs.declared.refusal.Refusal.{Refusal}
use Rattle.jobs.specs.declared.refusal.Refusal.TheVariants.{TooShort, SearchOpen, Full, SettingsOutOfRange, NoModule, NotLower, NoSetting, ClashTooHigh, WrongMask, NoModules, WrongTicket, NoSteps}

-- the number of each refusal
abbrev pub number_of : Refusal → ℕ
number_of TooShort = 1
number_of SearchOpen = 2
number_of Full = 3
number_of SettingsOutOfRange = 4
number_of NoModule = 5
number_of NotLower = 6
number_of NoSetting = 7
number_of ClashTooHigh = 8
number_of WrongMask = 9
number_of NoModules = 10
number_of WrongTicket = 11
number_of NoSteps = 12

-- the first refusal that fits, of a list of refusals each with whether it fits
abbrev pub first : List (Refusal × Bool) → Option Refusal
first [] = None
first ((refusal, fits) ∷ checks) = cond fits (Some refusal) (first checks)

-- What a call answers under its checks: where none fits its own answer, else the first that fits, with nothing altered.
abbrev pub Decides : {X : Type 0} → Result X Refusal → List (Refusal × Bool) → (X → Type 0) → Type 0 → Type 0
Decides (Ok x) checks Accepted Unaltered = (first checks ≡ None) × Accepted x
Decides (Err e) checks Accepted Unaltered = (first checks ≡ Some e) × Unaltered
