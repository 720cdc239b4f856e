use Rattle.std.proofs.Common.{[], ◌∷◌, sym, refl, ap, ◌∙◌}
use Rattle.words.specs.Words.{words_of}
use Rattle.calls.specs.Names.{bound_word}
use Rattle.calls.proofs.Named.{no_higher}
use Rattle.calls.proofs.opening.read_bound.Goals as goal

pub returns-in_err-a-in-higher-default : goal.returns-in_err-a-in-higher-default
returns-in_err-a-in-higher-default c =
    let rest = words_of c.in_ok-rest.field-0.1.now in
    let begins = sym (c.in_ok-rest.ensures ∙ ap (λ w. w ∷ rest) c.in-higher-default.is-higher-0) in
    rw c.from_residual-in_err-a-in-higher-default.ensures (λ b e. no_higher rest (λ x y f. c.in_err-a-in-higher-default.ensures (bound_word x) (bound_word y) [] x y f refl refl) b (begins ∙ e))
