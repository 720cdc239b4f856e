use Rattle.std.proofs.Common.{◌≡◌, ℕ, ◌<◌, true}
use Rattle.tables.specs.Modules.{allows}
use Rattle.counts.specs.Least.{meant, least_of}
use Rattle.counts.proofs.least.least.Given as goal

abbrev pub invariant-loop-k : goal.invariant-loop-k
invariant-loop-k g l =
    let K = g.C.Charge.kind in
    (value : ℕ → K.V) → ((k : ℕ) → k < 8 → allows l.modules l.i k ≡ true → (r : g.row.C.Denot) → goal.F-post g l.charge l.i k r → g.C.Charge.means r ≡ value k)
    → meant g.C.Charge.means l.least ≡ least_of K (allows l.modules l.i) value l.k
