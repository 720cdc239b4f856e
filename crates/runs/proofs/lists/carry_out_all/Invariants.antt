use Rattle.std.proofs.Common.{◌≡◌, length}
use Rattle.runs.specs.Stands.{stand_of}
use Rattle.runs.proofs.Carried.{Carried}
use Rattle.runs.proofs.lists.carry_out_all.Given as goal

abbrev pub invariant-loop-i : goal.invariant-loop-i
invariant-loop-i g l = record {
  number : l.desk.job.number ≡ l.initial.desk.job.number;
  walks : l.desk.job.walks ≡ l.initial.desk.job.walks;
  space : length l.scratch ≡ length l.initial.scratch;
  carried : Carried g.C.Charge.kind g.C.Charge.means (g.W.Walk.floor l.initial.desk.job.walks) (g.W.Walk.answer l.initial.desk.job.walks) l.initial.desk.job.number (length l.initial.scratch) g.X.CallOn.as_both
      (stand_of l.initial.desk l.initial.sheet l.initial.memory) l.calls l.initial.answers l.i (stand_of l.desk l.sheet l.memory) l.answers;
}
