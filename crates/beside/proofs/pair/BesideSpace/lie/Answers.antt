use Rattle.space.proofs.Looks.{lies_at_once}
use Rattle.beside.specs.Laws.{lawful_pair}
use Rattle.beside.specs.Pair.{meaning_of}
use Rattle.beside.proofs.pair.BesideSpace.lie.Goals as goal

pub returns : goal.returns
returns g c =
    λ q mine.
    let s = c.args.self.now in
    lies_at_once (meaning_of g.A.Space.meaning g.B.Space.meaning s) (lawful_pair _ _ (g.met.A.Space.lawful s.first) (g.met.B.Space.lawful s.second)) q c.args.p.now c.args.mine.now c.unwrap_or.result c.boxes.result c.of.result mine c.boxes.ensures c.unwrap_or.ensures c.of.ensures
