-- The first beginning.
use Rattle.std.proofs.Common.{◌≡◌, ℕ, ◌-◌, ◌^◌, ◌<◌, ◌≤◌, List, [], get_or, sym, ap, ◌∙◌, subst, arith, pow_mono}
use Rattle.theory.specs.Machine.{down}
use Rattle.tables.specs.declared.modules.Modules.{Modules}
use Rattle.tables.specs.Modules.{module_of, settings_of, mask_of, allows}
use Rattle.walks.specs.declared.trail.Trail.{Trail}
use Rattle.walks.specs.Settings.{has, domains, row_domains}
use Rattle.walks.specs.Trails.{levels_of, Live, AmongLive, GoesDown}
use Rattle.walks.proofs.Domains.{domains_same}
use Rattle.walks.proofs.Trails.{trail, live_none}

module _ (m : Modules) (row : List ℕ) (is : (j : ℕ) → j < m.count → get_or row j 0 ≡ mask_of m j) where
  pub masks_live : Live m row 0
  masks_live = record {
    some = λ j a b. subst (λ x. 1 ≤ x) (sym (is j b)) (module_of m j).allowing;
    byte = λ j a b. subst (λ x. x < 256) (sym (is j b)) (small j);
    allowed = λ j k a b c h. ap (λ x. has x k) (sym (is j b)) ∙ h;
  }
    where
      small : (j : ℕ) → mask_of m j < 256
      small j = let o = (module_of m j).own in let p : 2 ^ settings_of m j ≤ 256 = pow_mono (module_of m j).few in omega arith

  pub first_live : (path : List ℕ) (live : List (List ℕ)) (after : Trail) → 1 ≤ m.count → GoesDown (trail path live 0) row after → AmongLive m after
  first_live path live after one h = h.among m one masks_live (live_none m path live)

  pub first_path : (path : List ℕ) (live : List (List ℕ)) (after : Trail) → 1 ≤ m.count → GoesDown (trail path live 0) row after → levels_of after m.count ≡ down (domains m) []
  first_path path live after one h =
      h.first_one m.count one
      ∙ ap (λ n. down (row_domains row 0 n) []) (let z : m.count - 0 ≡ m.count = omega arith in z)
      ∙ ap (λ ds. down ds []) (domains_same (λ j. has (get_or row j 0)) (allows m) 0 m.count (λ j k a b c. ap (λ x. has x k) (is j (omega arith))))
