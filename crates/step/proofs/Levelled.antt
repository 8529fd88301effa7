-- What the levels of a box tell, by heights.
use Rattle.std.proofs.Common.{◌≡◌, ℕ, ◌+◌, ◌-◌, ◌*◌, ◌≤◌, Bool, true, cond, ◌&&◌, min, sym, ap, ◌∙◌}
use Rattle.std.specs.Prelude.{ℤ, pos, ◌+ℤ◌, ◌-ℤ◌, ◌≤ℤ◌, int_le, nat_le, unsigned_abs}
use Rattle.grid.specs.Bits.{signed_bits}
use Rattle.grid.specs.Levels.{LevelsOf, level}
use Rattle.grid.specs.Levels as grid
use Rattle.step.specs.Levels.{levels_above}
use Rattle.step.specs.Rule.{box_of, height, on_grid, step_line}
use Rattle.step.specs.declared.scaling.Scale.{Scale}
use Rattle.step.proofs.Heights.{bottom_by_level, bottom_tells, grid_by_heights, grid_by_level, top_by_level, top_tells}

module _ (s : Scale) (n : ℕ) (turned : Bool) (lowest highest : ℤ) (some : 1 ≤ s.step) (order : s.low ≤ℤ s.high)
    (counted : (v : ℤ) → level signed_bits (levels_above s n turned lowest highest) v ≡ lowest +ℤ height s v) (end : highest ≡ lowest +ℤ pos (unsigned_abs (s.high -ℤ s.low))) where
  -- a level is of the grid where the height is, and so is the figure
  by_height : (v : ℤ) → grid.on_grid signed_bits (levels_above s n turned lowest highest) v ≡ (int_le (pos 0) (height s v) && int_le (height s v) (pos (unsigned_abs (s.high -ℤ s.low))))
  by_height v = grid_by_level lowest highest (level signed_bits (levels_above s n turned lowest highest) v) (height s v) (unsigned_abs (s.high -ℤ s.low)) (counted v) end

  by_figure : (v : ℤ) → (int_le (pos 0) (height s v) && int_le (height s v) (pos (unsigned_abs (s.high -ℤ s.low)))) ≡ on_grid s v
  by_figure v = grid_by_heights s.direction s.low s.high v order

  -- on the grid the box is the one that the height has
  boxed : (v : ℤ) → on_grid s v ≡ true → (step_line s).box v ≡ box_of s v
  boxed v on = ap (λ b. cond b (box_of s v) 0) on

  pub levels_by_heights : (x : ℤ) → (step_line s).admits x ≡ true → (step_line s).box x ≡ n → LevelsOf signed_bits (step_line s) n (levels_above s n turned lowest highest)
  levels_by_heights x there box =
      let L = levels_above s n turned lowest highest in
      let way = unsigned_abs (s.high -ℤ s.low) in
      let inside : (v : ℤ) → grid.on_grid signed_bits L v ≡ true → (int_le (pos 0) (height s v) && int_le (height s v) (pos way)) ≡ true = λ v on. sym (by_height v) ∙ on in
      let admitted : (v : ℤ) → grid.on_grid signed_bits L v ≡ true → on_grid s v ≡ true = λ v on. sym (by_figure v) ∙ inside v on in
      record {
        admitted = admitted;
        most = λ v on. top_by_level lowest (level signed_bits L v) (height s v) (min ((n + 1) * s.step - 1) way) (counted v) ∙ top_tells (height s v) s.step n way some (inside v on) ∙ ap (λ b. nat_le b n) (sym (boxed v (admitted v on)));
        least = λ v on. bottom_by_level lowest (level signed_bits L v) (height s v) (min (n * s.step) way) (counted v) ∙ bottom_tells (height s v) (height s x) s.step n way some (inside v on) (by_figure x ∙ there) (sym (boxed x there) ∙ box) ∙ ap (nat_le n) (sym (boxed v (admitted v on)));
      }
