-- A job is a problem that the theory of the walks is about.
use Rattle.std.proofs.Common.{◌≡◌, ℕ, zero, suc, ◌^◌, ◌<◌, ◌≤◌, Bool, true, false, cond, List, [], ◌∷◌, sym, refl, subst, inl, inr, arith, pow_mono}
use Rattle.theory.specs.Order.{Order}
use Rattle.theory.specs.Tree.{Filled, Above, Ascending, Sound}
use Rattle.theory.specs.Machine.{Posed}
use Rattle.theory.proofs.Tests.{T_of, T_true}
use Rattle.charges.specs.Kinds.{Kind, Lawful}
use Rattle.tables.specs.declared.modules.Modules.{Modules}
use Rattle.tables.specs.Modules.{allows, module_of, settings_of, mask_of}
use Rattle.walks.specs.Settings.{settings_from, domains_from}
use Rattle.walks.specs.States.{problem}
use Rattle.walks.proofs.Masks.{settings_end, settings_more}
use Rattle.walks.proofs.Domains.{mask_some}
use Rattle.walks.proofs.Trails.{domains_more}
use Rattle.walks.proofs.Weighed.{no_domains}

above : (p : ℕ → Bool) (a k n : ℕ) → a < k → Above a (settings_from p k n)
above p a k zero l = subst (Above a) (sym (settings_end p k)) tt
above p a k (suc n) l = subst (Above a) (sym (settings_more p k n)) (go (p k) (above p a (suc k) n (omega arith)))
  where
    go : (b : Bool) → Above a (settings_from p (suc k) n) → Above a (cond b (k ∷ settings_from p (suc k) n) (settings_from p (suc k) n))
    go true rest = (l, rest)
    go false rest = rest

ascending : (p : ℕ → Bool) (k n : ℕ) → Ascending (settings_from p k n)
ascending p k zero = subst Ascending (sym (settings_end p k)) tt
ascending p k (suc n) = subst Ascending (sym (settings_more p k n)) (go (p k) (ascending p (suc k) n))
  where
    go : (b : Bool) → Ascending (settings_from p (suc k) n) → Ascending (cond b (k ∷ settings_from p (suc k) n) (settings_from p (suc k) n))
    go true rest = (above p k (suc k) n (omega arith), rest)
    go false rest = rest

filled : (xs : List ℕ) → (xs ≡ [] → ⊥) → Filled xs
filled [] h = h refl
filled (x ∷ xs) h = tt

-- every module allows something
some_allowed : (m : Modules) (j : ℕ) → Filled (settings_from (allows m j) 0 8)
some_allowed m j =
    let wide : 2 ^ settings_of m j ≤ 256 = pow_mono (module_of m j).few in
    let own = (module_of m j).own in
    filled (settings_from (allows m j) 0 8) (mask_some (mask_of m j) (module_of m j).allowing (omega arith))

sound : (m : Modules) (j n : ℕ) → Sound (domains_from (allows m) j n)
sound m j zero = subst Sound (sym (no_domains (allows m) j)) tt
sound m j (suc n) = subst Sound (sym (domains_more (allows m) j n)) (some_allowed m j, ascending (allows m j) 0 8, sound m (suc j) n)

some_module : (p : ℕ → ℕ → Bool) (j n : ℕ) → 1 ≤ n → Filled (domains_from p j n)
some_module p j zero l = absurd (omega arith)
some_module p j (suc n) l = subst (λ ds. Filled ds) (sym (domains_more p j n)) tt

pub order : (K : Kind) → Lawful K → Order K.at_most
order K L = record {
  total = λ a b. elim (L.total a b) [ inl h ↦ inl (T_of (K.at_most a b) h) | inr h ↦ inr (T_of (K.at_most b a) h) ];
  trans = λ a b c h k. T_of (K.at_most a c) (L.transitive a b c (T_true (K.at_most a b) h) (T_true (K.at_most b c) k));
  same = λ a b h k. L.antisymmetric a b (T_true (K.at_most a b) h) (T_true (K.at_most b a) k);
}

pub posed : (K : Kind) → Lawful K → (m : Modules) (sheet : List ℕ) (ceiling : K.V) → 1 ≤ m.count → Posed (problem K m sheet ceiling)
posed K L m sheet ceiling one = record { order = order K L; sound = sound m 0 m.count; some_module = some_module (allows m) 0 m.count one }
