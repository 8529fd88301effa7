-- Finding the box of a figure among the edges.
use Rattle.std.proofs.Common.{◌≡◌, ℕ, ◌+◌, ◌-◌, ◌*◌, ◌<◌, ◌≤◌, cond, nat_le, arith}
use Rattle.std.specs.Cmp.{both_ways}
use Rattle.std.proofs.lemmas.Bool.{leb-true, le-leb}
use Rattle.std.proofs.lemmas.Bool.Decides.{nat_tests}
use Rattle.ratio.specs.Edges.{edge, box_of}
use Rattle.ratio.specs.Climbing.{edge_mono, box_holds, box_from}

-- a box begins at v or below where it is the box of v or one before it
pub begun_by_box : (p v k : ℕ) → 1 ≤ v → nat_le (edge p k) v ≡ nat_le k (box_of p v)
begun_by_box p v k some =
    both_ways _ _
    (λ e. le-leb _ _ (box_from p v k some (leb-true _ _ e)))
    (λ e. le-leb _ _ (omega (arith, edge_mono p k (box_of p v) (leb-true _ _ e), (box_holds p v some).0)))

-- the box is among those from first on, and the sum of three comparisons says in which quarter, the last holding what is left over
pub in_quarter : (first count quarter box a b c : ℕ) → 4 * quarter ≤ count → first ≤ box → box < first + count → a ≡ cond (nat_le (first + quarter) box) 1 0 → b ≡ cond (nat_le (first + 2 * quarter) box) 1 0 → c ≡ cond (nat_le (first + 3 * quarter) box) 1 0 → (first + quarter * (a + b + c) ≤ box) × (box < first + quarter * (a + b + c) + (count - 3 * quarter)) × (first + quarter * (a + b + c) + (count - 3 * quarter) ≤ first + count)
in_quarter first count quarter box a b c small low high is-a is-b is-c = grind (arith, nat_tests)
