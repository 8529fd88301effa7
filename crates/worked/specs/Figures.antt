-- The worked figures of the product under one statement.
use Rattle.worked.specs.Spaces.{StepFigures, RatioFigures}
use Rattle.worked.specs.Archives.{ArchiveFigures}
use Rattle.worked.specs.Blocks.{BlockFigures}

-- all of them
pub record Figures : Type 0 where
  pub steps : StepFigures
  pub ratios : RatioFigures
  pub archives : ArchiveFigures
  pub blocks : BlockFigures
