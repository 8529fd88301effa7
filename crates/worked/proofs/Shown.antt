-- All figures, gathered.
use Rattle.worked.specs.Figures.{Figures}
use Rattle.worked.proofs.Spaces.{step_figures, ratio_figures}
use Rattle.worked.proofs.Archives.{archive_figures}
use Rattle.worked.proofs.Blocks.{block_figures}

pub figures : Figures
figures = record { steps = step_figures; ratios = ratio_figures; archives = archive_figures; blocks = block_figures }
