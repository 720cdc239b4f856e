use Rattle.std.proofs.Common.{◌≡◌, take}
use Rattle.tables.specs.Modules.{allows}
use Rattle.bounds.specs.Answers.{Rows}
use Rattle.bounds.proofs.Changing.{Changing}
use Rattle.bounds.proofs.setting.SettingBound.prepare.Given as goal

abbrev pub invariant-loop-k : goal.invariant-loop-k
invariant-loop-k g l =
    let means = g.C.Charge.means in
    Changing (allows l.modules l.j) (λ k _ x. means x ≡ means (g.Self.SettingBound.answer l.self l.modules l.sheet (take l.len l.path) l.j k)) l.j l.initial.scratch l.k l.scratch

abbrev pub invariant-loop-j : goal.invariant-loop-j
invariant-loop-j g l =
    let means = g.C.Charge.means in
    Rows means (allows l.modules) (λ j k. means (g.Self.SettingBound.answer l.self l.modules l.sheet (take l.len l.path) j k)) l.len l.j l.scratch
