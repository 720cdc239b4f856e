use Rattle.std.proofs.Common.{map, [], ◌∷◌, decimal, sym, refl, ap, ◌∙◌}
use Rattle.std.proofs.Output.{has_written_append, has_written_of_eq}
use Rattle.std.proofs.lemmas.Iterator.{YieldsList-from_slice, YieldsList-from_take}
use Rattle.std.proofs.lemmas.Iterator.Consumers.{YieldsList-end}
use Rattle.std.proofs.lemmas.List.{map-append}
use Rattle.words.specs.Words.{after_spaces}
use Rattle.told.proofs.Settings.{one_more}
use Rattle.told.proofs.closing.SetupDisplay.fmt.Goals as goal

pub loop-setting-preserved : goal.loop-setting-preserved
loop-setting-preserved g c = λ plain.
    let more = ap (λ l. after_spaces (map decimal l)) (map-append (λ x. x.now) c.loop-setting.yielded (c.in-Some.setting ∷ [])) ∙ one_more _ c.in-Some.setting.now in
    has_written_of_eq g.W.Write.write_str_gives _ _ _ _ (sym more) (has_written_append g.W.Write.write_str_gives _ _ c.loop-setting.f _ _ (c.loop-setting.invariant plain) (c.in_ok-write.ensures.writes (c.loop-setting.invariant plain).plain refl))

pub returns-clause-writes : goal.returns-clause-writes
returns-clause-writes g c = λ plain ok.
    let setup = c.args.self.now in
    let all = YieldsList-end (YieldsList-from_take setup.len (YieldsList-from_slice setup.settings cc) cc) c.loop-setting.yielded _ c.loop-setting.yielded_by _ _ c.in-None.is c.next.ensures.steps in
    has_written_of_eq g.W.Write.write_str_gives _ _ _ _ (ap (λ l. after_spaces (map decimal l)) all.0) (c.loop-setting.invariant plain)
