-- Row need: so many rows are always enough.
use Rattle.std.specs.Prelude.{ℕ, zero, suc, ◌*◌, cond, ◌==◌, nat_lt}
use Rattle.space.specs.Meaning.{Meaning}

-- the product of the first k extents, with that of objective i left out
unfoldable pub product_but : {P : Type 0} → Meaning P → ℕ → ℕ → ℕ
product_but M i zero = 1
product_but M i (suc k) = cond (k == i) (product_but M i k) (product_but M i k * M.extent k)

-- the product of all extents but that of objective i
abbrev pub all_but : {P : Type 0} → Meaning P → ℕ → ℕ
all_but M i = product_but M i M.objectives

-- of the first k objectives, the first with a largest extent
unfoldable pub first_largest : {P : Type 0} → Meaning P → ℕ → ℕ
first_largest M zero = 0
first_largest M (suc k) = cond (nat_lt (M.extent (first_largest M k)) (M.extent k)) k (first_largest M k)

-- an objective with a largest extent
abbrev pub largest : {P : Type 0} → Meaning P → ℕ
largest M = first_largest M M.objectives

-- the product of all extents but one largest
abbrev pub row_need : {P : Type 0} → Meaning P → ℕ
row_need M = all_but M (largest M)
