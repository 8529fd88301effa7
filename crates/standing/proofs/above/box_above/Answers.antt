use Rattle.standing.proofs.Tops.{above}
use Rattle.standing.proofs.above.box_above.Goals as goal

pub returns : goal.returns
returns g c = above _ (g.met.S.Space.lawful c.args.space.now)
