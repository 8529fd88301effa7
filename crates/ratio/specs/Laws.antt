-- A sound scale's line keeps the laws.
use Rattle.std.specs.Prelude.{◌≡◌, ℕ, ◌+◌, ◌*◌, ◌≤◌, true}
use Rattle.std.proofs.Common.{arith, mul_comm}
use Rattle.std.proofs.lemmas.Nat.{mul-le}
use Rattle.std.proofs.lemmas.Bool.{and_parts, leb-true, le-leb, cond-true}
use Rattle.grid.specs.Line.{LineLawful}
use Rattle.ratio.specs.declared.scaling.Scale.{Scale}
use Rattle.ratio.specs.Edges.{edge, box_of}
use Rattle.ratio.specs.Rule.{on_grid, ratio_sound, ratio_line}
use Rattle.ratio.specs.Climbing.{edge_more, edge_mono, box_holds, box_mono}

-- w is below the end of its box, which is at most that of v's; and the end of v's is v's edge and one, or the per cent more
box_covers : (p v w : ℕ) → 1 ≤ v → 1 ≤ w → box_of p w ≤ box_of p v → 100 * w ≤ (100 + p) * v
box_covers p v w some-v some-w h =
    let in-v = box_holds p v some-v in
    let in-w = box_holds p w some-w in
    let next = edge_mono p (box_of p w + 1) (box_of p v + 1) (omega arith) in
    let step = edge_more p (box_of p v) in
    let more = mul-le (edge p (box_of p v)) (100 + p) v (100 + p) in-v.0 (omega arith) in
    let same = mul-le v 100 v (100 + p) (omega arith) (omega arith) in
    omega (arith, mul_comm v (100 + p))

module _ (s : Scale) (sound : ratio_sound s ≡ true) where
  admitted : (v : ℕ) → on_grid s v ≡ true → (1 ≤ v) × (v ≤ s.ceiling)
  admitted v a = let h = and_parts _ _ a in (leb-true _ _ h.0, leb-true _ _ h.1)

  boxed : (v : ℕ) → on_grid s v ≡ true → (ratio_line s).box v ≡ box_of s.per_cent v
  boxed v a = cond-true (on_grid s v) _ _ a

  pub ratio_lawful : LineLawful (ratio_line s)
  ratio_lawful = record {
    reflexive = λ v a. le-leb v v (omega arith);
    transitive = λ u v w a b c d e. le-leb w u (omega (arith, leb-true w v e, leb-true v u d));
    monotone = λ v w a b d.
        omega (arith, boxed v a, boxed w b, box_mono s.per_cent w v (admitted w b).0 (leb-true w v d));
    bounded = λ v a.
        let on = admitted v a in
        omega (arith, boxed v a, box_mono s.per_cent v s.ceiling on.0 on.1);
    small = (omega arith, leb-true _ _ (and_parts _ _ sound).1);
    covering = λ v w a b h.
        le-leb _ _ (box_covers s.per_cent v w (admitted v a).0 (admitted w b).0 (omega (arith, boxed v a, boxed w b)));
  }
