use Rattle.standing.proofs.Tops.{within}
use Rattle.standing.proofs.above.trial_within.Goals as goal

pub returns : goal.returns
returns g c = within _ (g.met.S.Space.lawful c.args.space.now)
