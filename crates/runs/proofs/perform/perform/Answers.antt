use Rattle.std.proofs.Common.{length}
use Rattle.runs.specs.Stands.{stand_of}
use Rattle.runs.proofs.Performing.{performed}
use Rattle.runs.proofs.perform.perform.Goals as goal

pub returns-clause-performed : goal.returns-clause-performed
returns-clause-performed g c =
    let walks = c.args.desk.job.walks in
    let done = c.carry_out_all-n in
    performed g.C.Charge.kind g.met.C.Charge.lawful g.C.Charge.means (g.W.Walk.floor walks) (g.W.Walk.answer walks) c.args.desk.job.number (length c.args.scratch.now)
    (record {
      floors = λ m sheet p s a b d. g.met.W.Walk.lawful walks m sheet p s a b d;
      answers = λ m sheet p s j k a b d e. g.met.W.Walk.lawful_with walks m sheet p s j k a b d e;
    })
    (stand_of c.args.desk c.args.sheet.now c.args.memory.now) (stand_of done.new.desk done.new.sheet done.new.memory) _ _ c.requires done.ensures.runs
