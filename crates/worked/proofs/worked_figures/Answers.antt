use Rattle.worked.proofs.Shown.{figures}
use Rattle.worked.proofs.worked_figures.Goals as goal

pub returns : goal.returns
returns c = figures
