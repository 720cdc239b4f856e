use Rattle.std.proofs.Common.{refl}
use Rattle.walks.proofs.Started.{first_live, first_path}
use Rattle.walks.proofs.Steps.{same_state}
use Rattle.walks.proofs.state.Search.start.Goals as goal

pub invariant_of-result : goal.invariant_of-result
invariant_of-result g c =
    let h = first_live c.args.modules.now _ c.masks.ensures _ _ _ c.requires c.down.ensures in
    record {
      among = h;
      counted = c.down.ensures.later;
    }

pub returns : goal.returns
returns g c = record {
  modules = refl;
  ahead = refl;
  ceiling = refl;
  starts = λ sheet W. same_state _ _ _ _ _ _ _ _ (first_path c.args.modules.now _ c.masks.ensures _ _ _ c.requires c.down.ensures) refl refl refl;
}
