use Rattle.beside.proofs.Joining.{boxes_told}
use Rattle.beside.proofs.pair.Beside.boxes_joined.Goals as goal

pub returns : goal.returns
returns g c =
    let s = c.args.self.now in
    boxes_told (g.A.Space.meaning s.first) (g.B.Space.meaning s.second) c.args.p.now c.objectives.result c.in_ok-first.first c.in_ok-second.second c.numbers_joined.result c.objectives.ensures c.in_ok-first.ensures c.in_ok-second.ensures c.numbers_joined.ensures
