use Rattle.std.proofs.Common.{◌-◌, ◌*◌, ◌≤◌, arith, rules}
use Rattle.std.proofs.lemmas.Nat.{mul-le}
use Rattle.std.proofs.lemmas.List.{places}
use Rattle.tables.proofs.sheet.clear.Goals as goal

pub returns : goal.returns
returns c =
    let j = c.args.j in
    let h : j * (j - 1) ≤ 19 * 18 = mul-le j (j - 1) 19 18 (omega arith) (omega arith) in
    record {
      sized = search (rules, places);
      cleared = λ p from below. search (rules, places);
      others = λ p out. search (rules, places);
    }
