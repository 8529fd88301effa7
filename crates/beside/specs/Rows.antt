-- Two rows of six numbers side by side, as one.
use Rattle.std.specs.Prelude.{ℕ, ◌-◌, cond, List, nat_lt, slice_index}

-- what stands at place i of both: the front of the first, and then the second
abbrev pub row_joined : ℕ → List ℕ → List ℕ → ℕ → ℕ
row_joined front first second i = cond (nat_lt i front) (slice_index first i) (slice_index second (i - front))
