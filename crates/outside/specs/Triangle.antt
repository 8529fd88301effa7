-- Ten parts shared out among three uses: the points of a triangle. More of each is better, so no share dominates another,
-- but boxes of four parts do.
use Rattle.std.specs.Prelude.{ℕ, ◌+◌, ◌-◌, ◌/◌, Bool, cond, ◌&&◌, ◌==◌, nat_le, nat_lt}
use Rattle.space.specs.Meaning.{Meaning}
use Rattle.outside.specs.declared.triangle.Share.{Share}

-- at most ten parts are given away
abbrev pub fair : Share → Bool
fair p = nat_le (p.reads + p.writes) 10

-- the parts of use i; the third has what is left
abbrev pub part : ℕ → Share → ℕ
part i p = cond (i == 0) p.reads (cond (i == 1) p.writes (cond (i == 2) (10 - (p.reads + p.writes)) 0))

-- each use has at least as many parts
abbrev pub as_much : Share → Share → Bool
as_much p q = nat_le (part 0 q) (part 0 p) && nat_le (part 1 q) (part 1 p) && nat_le (part 2 q) (part 2 p)

-- no use has more than three parts fewer
abbrev pub within_three : Share → Share → Bool
within_three p q = nat_le (part 0 q) (part 0 p + 3) && nat_le (part 1 q) (part 1 p + 3) && nat_le (part 2 q) (part 2 p + 3)

-- boxes of four parts, three to a use
abbrev pub triangle : Meaning Share
triangle = record {
  objectives = 3;
  admits = fair;
  no_worse = as_much;
  extent = λ i. cond (nat_lt i 3) 3 1;
  box = λ i p. cond (fair p) (part i p / 4) 0;
  covers = within_three;
}
