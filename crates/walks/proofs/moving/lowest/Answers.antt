use Rattle.std.proofs.Common.{◌≡◌, true, false, rules}
use Rattle.std.proofs.lemmas.Iterator.{first_from_Range}
use Rattle.walks.specs.Settings.{has}
use Rattle.walks.proofs.Masks.{settings_first}
use Rattle.walks.proofs.moving.lowest.Goals as goal

pub returns : goal.returns
returns c =
    settings_first (has c.args.mask) c.args.k _
    (first_from_Range _ _ _ _ (λ s. has c.args.mask s ≡ true) (λ s. has c.args.mask s ≡ false) c.find.ensures.ran (λ x q k. search rules) (λ x q k. (search rules, search rules)))
    c.requires
