use Rattle.standing.specs.Standing.{Related}
use Rattle.standing.proofs.Places.{decides_pair}
use Rattle.standing.proofs.among.Tried.meets.Goals as goal

pub returns-then-on_grid : goal.returns-then-on_grid
returns-then-on_grid g c =
    let there = c.on_grid.ensures.0 c.if-on_grid.true in
    let pair = decides_pair c.args.self.now.trials.now c.args.k c.args.i there.0 c.requires (λ t u. Related c.args.relation (g.S.Space.meaning c.args.self.now.space.now) t.point u.point) c.index-self-k.result c.index-self-i.result c.related.result c.related.ensures in
    (λ e. (there, pair.0 e), λ h. pair.1 h.1)
