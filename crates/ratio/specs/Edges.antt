-- The edges that divide the figures from 1 on into boxes, each box greater than the one before by a per cent p.
use Rattle.std.specs.Prelude.{◌≡◌, ℕ, zero, suc, ◌+◌, ◌*◌, ◌/◌, ◌<◌, ◌≤◌, max, cond, nat_le}

-- the edge after e: one more, or the per cent more, rounded down, where that is greater
abbrev pub after : ℕ → ℕ → ℕ
after p e = max (e + 1) (e * (100 + p) / 100)

-- the edge at which box k begins
unfoldable pub edge : ℕ → ℕ → ℕ
edge p zero = 1
edge p (suc k) = after p (edge p k)

-- the box that n steps up from box 0 reach, a step being taken while the next box begins at v or below
unfoldable pub climb : ℕ → ℕ → ℕ → ℕ
climb p v zero = 0
climb p v (suc n) = cond (nat_le (edge p (suc (climb p v n))) v) (suc (climb p v n)) (climb p v n)

-- the box that holds v; v steps suffice, since each edge is at least one above the last
abbrev pub box_of : ℕ → ℕ → ℕ
box_of p v = climb p v v

-- box k begins at v or below, and the next box above v
abbrev pub Holds : ℕ → ℕ → ℕ → Type 0
Holds p k v = (edge p k ≤ v) × (v < edge p (k + 1))

-- each figure from 1 on is held by its box, and by no other
abbrev pub EdgesEnclose : Type 0
EdgesEnclose = (p v : ℕ) → 1 ≤ v → Holds p (box_of p v) v × ((k : ℕ) → Holds p k v → k ≡ box_of p v)
