use Rattle.std.proofs.Common.{◌≡◌, ℕ}
use Rattle.tables.specs.Joins.{joined_from}
use Rattle.tables.specs.Modules.{allows}
use Rattle.bounds.specs.Answers.{Rows}
use Rattle.count_table.specs.Table.{Leasts, Tabled, chosen}
use Rattle.counts.specs.Least.{least}
use Rattle.count_table.proofs.write_answers.Given as goal

abbrev pub invariant-loop-j : goal.invariant-loop-j
invariant-loop-j g l =
    let K = g.C.Charge.kind in
    let means = g.C.Charge.means in
    let m = l.modules in
    let start = means l.initial.before in
    (f : ℕ → ℕ → K.V) → Tabled K means m f l.d l.initial.scratch
    → (means l.before ≡ K.join start (joined_from K (λ i. least K (allows m i) (f i)) l.d l.j))
    × Rows means (allows m) (chosen K m f start l.d) l.d l.j l.scratch
    × Rows means (allows m) f l.j m.count l.scratch
    × Leasts K means (allows m) f l.d m.count l.scratch
