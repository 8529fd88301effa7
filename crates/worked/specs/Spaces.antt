-- The worked figures of the spaces, as statements about the definitions.
use Rattle.std.specs.Prelude.{◌≡◌, ℕ, true, false, List, [], ◌∷◌, map, ℤ, pos, negsuc, Some, None, Option}
use Rattle.std.specs.List.{range_with_len}
use Rattle.std.specs.Option.{option_map}
use Rattle.space.specs.Refusal.{bad_grid_number, told_place}
use Rattle.grid.specs.Making.{grid_fault}
use Rattle.step.specs.declared.scaling.Direction.{Direction}
use Rattle.step.specs.declared.scaling.Direction.TheVariants.{LargerIsBetter, SmallerIsBetter}
use Rattle.step.specs.declared.scaling.Scale as steps
use Rattle.step.specs.Rule.{extent_of, step_line, step_sound}
use Rattle.ratio.specs.declared.scaling.Scale as ratios
use Rattle.ratio.specs.Edges.{edge, box_of}
use Rattle.ratio.specs.Rule.{ratio_line}

-- from -10 to 10 in steps of 4
abbrev pub short : Direction → steps.Scale
short d = record { direction = d; low = negsuc 9; high = pos 10; step = 4 }

-- all signed figures of 32 bits in steps of so many
abbrev pub wide : ℕ → steps.Scale
wide n = record { direction = LargerIsBetter; low = negsuc 2147483647; high = pos 2147483647; step = n }

-- boxes half as great again
abbrev pub half_more : ratios.Scale
half_more = record { per_cent = 50; ceiling = 1000 }

-- the boxes of these figures are these
abbrev pub boxes_of : Direction → List ℤ → List ℕ
boxes_of d vs = map (step_line (short d)).box vs

-- the step space: extent and boxes in both directions, the figures off the grid, what covers what, and the finest grid over
-- all figures: a finer one is refused by its number, 7, with the objective at fault
pub record StepFigures : Type 0 where
  pub extent : extent_of (short LargerIsBetter) ≡ 6
  pub larger : boxes_of LargerIsBetter (negsuc 9 ∷ negsuc 6 ∷ negsuc 5 ∷ pos 1 ∷ pos 2 ∷ pos 10 ∷ []) ≡ 0 ∷ 0 ∷ 1 ∷ 2 ∷ 3 ∷ 5 ∷ []
  pub off : map (step_line (short LargerIsBetter)).admits (negsuc 10 ∷ pos 11 ∷ []) ≡ false ∷ false ∷ []
  pub smaller : boxes_of SmallerIsBetter (pos 10 ∷ pos 7 ∷ pos 6 ∷ negsuc 9 ∷ []) ≡ 0 ∷ 0 ∷ 1 ∷ 5 ∷ []
  pub covered : (step_line (short LargerIsBetter)).covers (pos 2) (pos 5) ≡ true
  pub uncovered : (step_line (short LargerIsBetter)).covers (pos 2) (pos 6) ≡ false
  pub finest : (grid_fault step_sound (wide 4194304 ∷ []) ≡ None) × (extent_of (wide 4194304) ≡ 1024)
  pub too_fine : ◌≡◌ {A = Option (ℕ × ℕ)} (option_map (λ e. (bad_grid_number, told_place e)) (grid_fault step_sound (wide 4194303 ∷ []))) (Some (7, 0))

-- the ratio space at 50 per cent: the first edges, three boxes, and what covers what
pub record RatioFigures : Type 0 where
  pub edges : map (edge 50) (range_with_len 0 8) ≡ 1 ∷ 2 ∷ 3 ∷ 4 ∷ 6 ∷ 9 ∷ 13 ∷ 19 ∷ []
  pub boxes : map (box_of 50) (5 ∷ 8 ∷ 12 ∷ []) ≡ 3 ∷ 4 ∷ 5 ∷ []
  pub covered : (ratio_line half_more).covers 9 13 ≡ true
  pub uncovered : (ratio_line half_more).covers 9 14 ≡ false
