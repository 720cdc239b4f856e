-- What is printed of a walk that ends.
use Rattle.std.proofs.Common.{◌≡◌, ℕ, List, Some, None, Option, refl, ◌∙◌, MatchOption}
use Rattle.charges.specs.Kinds.{Kind}
use Rattle.tables.specs.declared.modules.Modules.{Modules}
use Rattle.walks.specs.declared.state.Search.{Search}
use Rattle.walks.specs.declared.outcome.Closed.{Closed}
use Rattle.walks.specs.Outcomes.{fixed, Closes}
use Rattle.told.specs.declared.figure.Figure.{Figure}
use Rattle.told.specs.declared.closing.Closing.{Closing}
use Rattle.reports.specs.Walking.{blank_row, setup_told, Ends}
use Rattle.reports.proofs.Tellings.{shown}

module _ {C : Type 0} (K : Kind) (means : C → K.V) (made : K.V → C) (shows : C → Figure)
    (stands : (v : K.V) → means (made v) ≡ v) (alike : (x y : C) → means x ≡ means y → shows x ≡ shows y) where
  -- what a close tells of the open walk is printed of it
  pub ends : (m : Modules) (w : Option (Search C)) (told : Closed C) (row : List ℕ) (x : Closing)
      → x.outcome ≡ told.outcome
      → x.charge ≡ shows told.charge
      → x.steps ≡ told.steps
      → x.setup ≡ setup_told (fixed told.outcome).with_setup row m.count
      → MatchOption w ⊥ (λ s. Closes K means s blank_row told row)
      → MatchOption w ⊥ (λ s. Ends K means (λ v. shows (made v)) m s x)
  ends m None told row x outcome charge steps setup none = none
  ends m (Some s) told row x outcome charge steps setup closes = record {
    told = told;
    row = row;
    closes = closes;
    outcome = outcome;
    charge = charge ∙ shown means made shows stands alike told.charge (means told.charge) refl;
    steps = steps;
    setup = setup;
  }
