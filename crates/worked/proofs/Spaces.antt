-- Each figure of the spaces computes.
use Rattle.std.proofs.Common.{refl}
use Rattle.ratio.specs.Edges.{edge, climb}
use Rattle.worked.specs.Spaces.{StepFigures, RatioFigures}

pub step_figures : StepFigures
step_figures = record {
  extent = refl;
  larger = refl;
  off = refl;
  smaller = refl;
  covered = refl;
  uncovered = refl;
  finest = (refl, refl);
  too_fine = refl;
}

pub ratio_figures : RatioFigures
unfolding edge climb
ratio_figures = record {
  edges = refl;
  boxes = refl;
  covered = refl;
  uncovered = refl;
}
