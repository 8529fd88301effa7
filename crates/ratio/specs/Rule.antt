-- What a scale means: which scales are sound, and the line that a sound one makes.
use Rattle.std.specs.Prelude.{ℕ, ◌+◌, ◌*◌, Bool, cond, ◌&&◌, nat_le}
use Rattle.grid.specs.Line.{Line}
use Rattle.ratio.specs.declared.scaling.Scale.{Scale}
use Rattle.ratio.specs.Edges.{box_of}

-- the per cent is 1 to 100, and the ceiling 1 to 1,000,000
abbrev pub in_range : Scale → Bool
in_range s = nat_le 1 s.per_cent && nat_le s.per_cent 100 && nat_le 1 s.ceiling && nat_le s.ceiling 1000000

-- how many boxes there are: the box of the ceiling is the last
abbrev pub extent_of : Scale → ℕ
extent_of s = box_of s.per_cent s.ceiling + 1

-- a scale in range that makes at most 1,024 boxes
abbrev pub ratio_sound : Scale → Bool
ratio_sound s = in_range s && nat_le (extent_of s) 1024

-- the figures from 1 to the ceiling are admitted
abbrev pub on_grid : Scale → ℕ → Bool
on_grid s v = nat_le 1 v && nat_le v s.ceiling

-- greater figures are better, and v covers w where v grown by the per cent is at least w
abbrev pub ratio_line : Scale → Line ℕ
ratio_line s = record {
  admits = on_grid s;
  no_worse = λ v w. nat_le w v;
  extent = extent_of s;
  box = λ v. cond (on_grid s v) (box_of s.per_cent v) 0;
  covers = λ v w. nat_le (100 * w) ((100 + s.per_cent) * v);
}
