-- The edges rise, so that one box alone holds a figure, and climbing finds it.
use Rattle.std.specs.Prelude.{◌≡◌, ℕ, zero, suc, ◌+◌, ◌<◌, ◌≤◌, ◌⊎◌, nat_le, refl}
use Rattle.std.proofs.Common.{ap, ◌∙◌, inl, inr, ⊎_elim, add-one, arith}
use Rattle.std.proofs.lemmas.Bool.{cases_lt, cond_both, leb-true, leb-false}
use Rattle.ratio.specs.Edges.{after, edge, climb, box_of, Holds, EdgesEnclose}

pub edge_first : (p : ℕ) → edge p 0 ≡ 1
unfolding edge
edge_first p = refl

edge_after : (p k : ℕ) → edge p (suc k) ≡ after p (edge p k)
unfolding edge
edge_after p k = refl

pub edge_more : (p k : ℕ) → edge p (k + 1) ≡ after p (edge p k)
edge_more p k = ap (edge p) (add-one k) ∙ edge_after p k

edge_high : (p k : ℕ) → k < edge p k
edge_high p zero = omega (arith, edge_first p)
edge_high p (suc k) = omega (arith, edge_high p k, edge_after p k)

-- an edge further up is at least as great
pub edge_mono : (p j k : ℕ) → j ≤ k → edge p j ≤ edge p k
edge_mono p j zero h = let e : j ≡ 0 = omega arith in omega (arith, ap (edge p) e)
edge_mono p j (suc k) h =
    ⊎_elim
    (λ (l : j < suc k). omega (arith, edge_mono p j k (omega arith), edge_after p k))
    (λ (g : suc k ≤ j). let e : j ≡ suc k = omega arith in omega (arith, ap (edge p) e))
    (cases_lt j (suc k))

-- a climb ends at the figure's edge or below
climb_low : (p v n : ℕ) → 1 ≤ v → edge p (climb p v n) ≤ v
unfolding climb
climb_low p v zero h = omega (arith, edge_first p)
climb_low p v (suc n) h =
    let r = climb p v n in
    cond_both (nat_le (edge p (suc r)) v) (suc r) r (λ k. edge p k ≤ v) (λ e. leb-true _ _ e) (λ _. climb_low p v n h)

-- and below the next one, unless each of its steps went up
climb_high : (p v n : ℕ) → (v < edge p (suc (climb p v n))) ⊎ (climb p v n ≡ n)
unfolding climb
climb_high p v zero = inr refl
climb_high p v (suc n) =
    let r = climb p v n in
    cond_both (nat_le (edge p (suc r)) v) (suc r) r (λ k. (v < edge p (suc k)) ⊎ (k ≡ suc n))
    (λ e. ⊎_elim (λ l. absurd (omega (arith, leb-true _ _ e))) (λ i. inr (ap suc i)) (climb_high p v n))
    (λ e. inl (leb-false _ _ e))

pub box_holds : (p v : ℕ) → 1 ≤ v → Holds p (box_of p v) v
box_holds p v h = (
  climb_low p v v h,
  ⊎_elim
      (λ l. omega (arith, ap (edge p) (add-one (box_of p v))))
      (λ e. rw e (omega (arith, edge_high p (v + 1))))
      (climb_high p v v),
)

-- a box that begins at v or below is the box of v or one before it
pub box_from : (p v k : ℕ) → 1 ≤ v → edge p k ≤ v → k ≤ box_of p v
box_from p v k h low =
    ⊎_elim
    (λ (l : box_of p v < k). absurd (omega (arith, (box_holds p v h).1, edge_mono p (box_of p v + 1) k (omega arith))))
    (λ g. g)
    (cases_lt (box_of p v) k)

-- a box that begins above v is one after it
pub box_before : (p v k : ℕ) → 1 ≤ v → v < edge p k → box_of p v < k
box_before p v k h above =
    ⊎_elim
    (λ l. l)
    (λ (g : k ≤ box_of p v). absurd (omega (arith, (box_holds p v h).0, edge_mono p k (box_of p v) g)))
    (cases_lt (box_of p v) k)

pub box_mono : (p v w : ℕ) → 1 ≤ v → v ≤ w → box_of p v ≤ box_of p w
box_mono p v w h l = box_from p w (box_of p v) (omega arith) (omega (arith, (box_holds p v h).0))

pub enclose : EdgesEnclose
enclose p v h =
    (box_holds p v h, λ k a. omega (arith, box_from p v k h a.0, box_before p v (k + 1) h a.1))
