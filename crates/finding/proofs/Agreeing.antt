-- Finished searches of jobs that are alike.
use Rattle.std.proofs.Common.{◌≡◌, ℕ, ◌/◌, ◌%◌, ◌^◌, ◌<◌, true, eqb, List, get_or, ap, ◌∙◌, subst, inl, inr, arith}
use Rattle.std.proofs.lemmas.Bool.{cases_lt, both_ways}
use Rattle.theory.specs.Tree.{Fits}
use Rattle.theory.specs.Machine.{Problem, Walk}
use Rattle.theory.specs.Finding.{Cheapest, looks}
use Rattle.theory.proofs.Tests.{T_of}
use Rattle.theory.proofs.Best.{one_answer}
use Rattle.theory.proofs.Compare.{looks_more}
use Rattle.charges.specs.Kinds.{Kind, Lawful}
use Rattle.tables.specs.declared.modules.Modules.{Modules}
use Rattle.tables.specs.Modules.{settings_of, allows}
use Rattle.tables.specs.Setups.{forward_count, charge_of}
use Rattle.tables.specs.Sheet.{entry_at}
use Rattle.tables.proofs.Masks.{none_past}
use Rattle.bounds.specs.Allowing.{allows_each}
use Rattle.walks.specs.Settings.{domains_from, domains}
use Rattle.walks.specs.States.{problem}
use Rattle.walks.proofs.Domains.{domains_same}
use Rattle.walks.proofs.Weighed.{joined_same}
use Rattle.finding.specs.Bounding.{walk_by}
use Rattle.finding.specs.Alike.{Alike}
use Rattle.finding.specs.Findings.{Agree}
use Rattle.finding.proofs.Allowed.{setup_allowed, beginning_allowed}
use Rattle.finding.proofs.Posing.{order, posed}
use Rattle.finding.proofs.Costs.{cheapest_same, looks_same}

-- an allowed setting is one that the module has
setting_own : (m : Modules) (i k : ℕ) → allows m i k ≡ true → k < settings_of m i
setting_own m i k h = elim (cases_lt k (settings_of m i)) [ inl l ↦ l | inr l ↦ absurd (both_ways (allows m i k) (none_past m i k l) h) ]

module _ (K : Kind) (m m' : Modules) (sheet sheet' : List ℕ) (alike : Alike m m' sheet sheet') where
  same_domains : domains m' ≡ domains m
  same_domains =
      ap (domains_from (allows m') 0) alike.counted
      ∙ domains_same (allows m') (allows m) 0 m.count (λ i k a b c. ap (λ mask. eqb (mask / 2 ^ k % 2) 1) (alike.masks i (omega arith)))

  -- an allowed setup is charged the same
  same_charge : (y : List ℕ) → Fits y (domains m) → charge_of K sheet' y m'.count ≡ charge_of K sheet y m.count
  same_charge y f =
      ap (charge_of K sheet' y) alike.counted
      ∙ joined_same K (λ j. forward_count K sheet' y j j (get_or y j 0)) (λ j. forward_count K sheet y j j (get_or y j 0)) m.count (λ j b.
      joined_same K (λ i. K.entry (entry_at sheet' i (get_or y i 0) j (get_or y j 0))) (λ i. K.entry (entry_at sheet i (get_or y i 0) j (get_or y j 0))) j (λ i a.
      ap K.entry (alike.entries i (get_or y i 0) j (get_or y j 0) a b (own i (omega arith)) (own j b))))
    where
      own : (i : ℕ) → i < m.count → get_or y i 0 < settings_of m i
      own i l = setting_own m i (get_or y i 0) (allows_each m y m.count i l (setup_allowed m y f))

  module _ (ceiling : K.V) where
    -- the other problem, over the domains of this one
    abbrev over : Problem K.V
    over = record { at_most = K.at_most; doms = domains m; cost = λ y. charge_of K sheet' y m'.count; ceiling = ceiling }

    is_over : problem K m' sheet' ceiling ≡ over
    is_over i = record { at_most = K.at_most; doms = same_domains i; cost = λ y. charge_of K sheet' y m'.count; ceiling = ceiling }

pub agree : (K : Kind) → Lawful K → Agree K
agree K lawful B B' m m' sheet sheet' ceiling ahead ahead' best best' charge charge' steps steps' one alike f f' = (
  same.0,
  same.1,
  λ plain lower.
      let more = looks_more P (posed K lawful m sheet ceiling one) W W' plain (λ b n g. T_of _ (lower b (beginning_allowed m b n g))) in
      let a = f.counted in
      let b : steps' ≡ looks P W' = f'.counted ∙ ap (λ Q. looks Q W') (is_over K m m' sheet sheet' alike ceiling) ∙ looks_same K.at_most (domains m) ceiling P.cost cost' (same_charge K m m' sheet sheet' alike) W' in
      omega arith,
)
  where
    P : Problem K.V
    P = problem K m sheet ceiling

    W : Walk K.V
    W = walk_by K B m sheet ahead

    W' : Walk K.V
    W' = walk_by K B' m' sheet' ahead'

    cost' : List ℕ → K.V
    cost' y = charge_of K sheet' y m'.count

    same : (best ≡ best') × (charge ≡ charge')
    same = one_answer P (order K lawful) best best' charge charge' f.cheapest
        (cheapest_same K.at_most (domains m) ceiling P.cost cost' (same_charge K m m' sheet sheet' alike) (λ y. Unit {0}) best' charge'
        (subst (λ Q. Cheapest Q (λ y. Unit {0}) best' charge') (is_over K m m' sheet sheet' alike ceiling) f'.cheapest))
