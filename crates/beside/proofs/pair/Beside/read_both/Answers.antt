use Rattle.std.proofs.Common.{◌<◌, arith}
use Rattle.beside.specs.Pair.{fit}
use Rattle.beside.specs.Recorded.{pair_read}
use Rattle.beside.proofs.pair.Beside.read_both.Goals as goal

pub returns : goal.returns
returns g c =
    let s = c.args.self.now in
    let R = g.A.Recorded.recording s.first in
    let S = g.B.Recorded.recording s.second in
    let fits = fit (g.A.Space.meaning s.first) (g.B.Space.meaning s.second) in
    let some : 0 < S.width = omega (arith, c.read_or_blank-2.ensures.four_each, (g.met.B.Space.lawful s.second).few.0) in
    let both = pair_read R S fits c.args.bytes.now some c.requires.0 in
    cc
