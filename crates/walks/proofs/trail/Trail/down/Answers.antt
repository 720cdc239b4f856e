use Rattle.std.proofs.Common.{◌<◌, length, add-one, rules}
use Rattle.walks.proofs.Trails.{down_none, down_to}
use Rattle.walks.proofs.trail.Trail.down.Goals as goal

pub returns-in-Some : goal.returns-in-Some
returns-in-Some c =
    let t = c.args.self.now in
    let long : t.len < length t.path = search rules in
    let wide : t.len < length t.live = search rules in
    let f = c.in-Some.ensures in
    rw add-one (down_to t.path t.live t.len c.in-Some.k c.args.row long wide f.1 f.2 f.3)

pub returns-in-None : goal.returns-in-None
returns-in-None c =
    let t = c.args.self.now in
    down_none t.path t.live t.len c.args.row _ c.in-None.ensures c.next.ensures
