use Rattle.ratio.specs.Climbing.{enclose}
use Rattle.ratio.proofs.edges.edges_enclose.Goals as goal

pub returns : goal.returns
returns c = enclose
