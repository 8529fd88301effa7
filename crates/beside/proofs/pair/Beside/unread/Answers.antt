use Rattle.beside.specs.Pair.{fit}
use Rattle.beside.specs.Recorded.{pair_blank}
use Rattle.beside.proofs.pair.Beside.unread.Goals as goal

pub returns : goal.returns
returns g c =
    let s = c.args.self.now in
    let both = pair_blank (g.A.Recorded.recording s.first) (g.B.Recorded.recording s.second) (fit (g.A.Space.meaning s.first) (g.B.Space.meaning s.second)) in
    cc
