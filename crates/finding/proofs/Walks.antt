-- By a lawful bounding a job is searched lawfully.
use Rattle.std.proofs.Common.{ℕ, Bool, List, ◌++◌, get_or, refl}
use Rattle.theory.specs.Machine as machine
use Rattle.theory.proofs.Tests.{T_of}
use Rattle.charges.specs.Kinds.{Kind}
use Rattle.tables.specs.declared.modules.Modules.{Modules}
use Rattle.walks.specs.States.{problem}
use Rattle.finding.specs.Bounding.{Bounding, LawfulBounding, walk_by}
use Rattle.finding.proofs.Allowed.{setup_allowed, beginning_of, starts_append}

pub lawful_walk : (K : Kind) (B : Bounding K) → LawfulBounding K B → (m : Modules) (sheet : List ℕ) (ceiling : K.V) (ahead : Bool)
    → machine.Lawful (problem K m sheet ceiling) (walk_by K B m sheet ahead)
lawful_walk K B L m sheet ceiling ahead = record {
  floors = λ b s n f. T_of _ (L.floors m sheet b (b ++ s) (beginning_of m b s n f) (starts_append b s) (setup_allowed m (b ++ s) f));
  answers = λ b s j n f l u. T_of _ (L.answers m sheet b (b ++ s) j (get_or (b ++ s) j 0) (beginning_of m b s n f) (starts_append b s) (setup_allowed m (b ++ s) f) refl);
}
