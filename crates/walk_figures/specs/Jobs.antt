-- The jobs that are walked.
use Rattle.std.specs.Prelude.{List, ◌∷◌, replicate, set, ℕ}
use Rattle.std.proofs.Common.{arith}
use Rattle.tables.specs.declared.module_record.Module.{Module}
use Rattle.tables.specs.declared.modules.Modules.{Modules}
use Rattle.tables.specs.Modules.{one_setting}
use Rattle.tables.specs.Sheet.{position}
use Rattle.figures.specs.TwoModules as two

pub record Job : Type 0 where
  pub modules : Modules
  pub sheet : List ℕ

-- a module of two settings, both allowed
abbrev pub two_settings : Module
two_settings = record { settings = 2; mask = 3; some = omega arith; few = omega arith; allowing = omega arith; own = omega arith }

-- two modules of two settings each, with the clashes (0,0) = 50, (0,1) = 70 and (1,1) = 30
abbrev pub two_modules : Job
two_modules = record {
  modules = record { records = two_settings ∷ two_settings ∷ replicate 18 one_setting; count = 2; few = omega arith };
  sheet = two.two_modules;
}

-- three modules of one setting each, with the clash 100 between modules 0 and 1
abbrev pub three_modules : Job
three_modules = record {
  modules = record { records = replicate 20 one_setting; count = 3; few = omega arith };
  sheet = set (replicate 12160 0) (position 0 0 1 0) 100;
}
