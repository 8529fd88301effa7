-- A box by its six numbers, held against another whose numbers are asked one by one.
use Rattle.std.proofs.Common.{◌≡◌, ℕ, zero, suc, ◌+◌, ◌<◌, ◌≤◌, Bool, true, false, ◌&&◌, leb, List, get_or, sym, refl, ap, ◌∙◌, ⊎_elim, add-one, arith}
use Rattle.std.proofs.lemmas.Bool.{and_right, cases_lt}
use Rattle.space.specs.Meaning.{Meaning, Lawful}
use Rattle.space.specs.Boxes.{at_least_in, six_boxes}
use Rattle.space.specs.Looking.{lie_between}
use Rattle.space.proofs.Looks.{number_of}

-- of any point with these box numbers: whether in each of the first k objectives its number is at least q's, and q's at least its own
abbrev pub LiesIn : {P : Type 0} → Meaning P → ℕ → List ℕ → P → Bool → Bool → Type 0
LiesIn {P} M k mine q over under = (p : P) → mine ≡ six_boxes M p → (over ≡ at_least_in M k p q) × (under ≡ at_least_in M k q p)

and_comm : (a b : Bool) → (a && b) ≡ (b && a)
and_comm true true = refl
and_comm true false = refl
and_comm false true = refl
and_comm false false = refl

module _ {P : Type 0} (M : Meaning P) where
  -- one objective more, whose two numbers are a and b
  in_more : (p q : P) (i a b : ℕ) (so_far : Bool) → a ≡ M.box i p → b ≡ M.box i q → so_far ≡ at_least_in M i p q → (so_far && leb b a) ≡ at_least_in M (i + 1) p q
  in_more p q i a b so_far ea eb es =
      rw add-one (and_comm so_far (leb b a) ∙ ap (λ x. leb x a && so_far) eb ∙ ap (λ x. leb (M.box i q) x && so_far) ea ∙ ap (λ x. leb (M.box i q) (M.box i p) && x) es)

  -- what fails in the first objectives fails in more of them
  fails_later : (p q : P) (k n : ℕ) → k ≤ n → at_least_in M k p q ≡ false → at_least_in M n p q ≡ false
  fails_later p q k zero l e = let z : k ≡ 0 = omega arith in rw z at e
  fails_later p q k (suc n) l e =
      ⊎_elim
      (λ (h : k < suc n). and_right (leb (M.box n q) (M.box n p)) (at_least_in M n p q) (fails_later p q k n (omega arith) e))
      (λ (h : suc n ≤ k). let z : k ≡ suc n = omega arith in rw z at e)
      (cases_lt k (suc n))

  module _ (L : Lawful M) (mine : List ℕ) (q : P) (i theirs : ℕ) (over under : Bool) (inside : i < M.objectives) (asked : theirs ≡ M.box i q) (so_far : LiesIn M i mine q over under) where
    -- one objective more is compared
    pub lies_more : LiesIn M (i + 1) mine q (over && leb theirs (get_or mine i 0)) (under && leb (get_or mine i 0) theirs)
    lies_more p e =
        let few = L.few.1 in
        let ours = ap (λ b. get_or b i 0) e ∙ number_of M p i (omega arith) in
        (in_more p q i (get_or mine i 0) theirs over ours asked (so_far p e).0, in_more q p i theirs (get_or mine i 0) under asked ours (so_far p e).1)

    -- once it holds in neither direction, it never will again
    pub lies_never : (over && leb theirs (get_or mine i 0)) ≡ false → (under && leb (get_or mine i 0) theirs) ≡ false → (p : P) → mine ≡ six_boxes M p → record { over = false; under = false } ≡ lie_between M p q
    lies_never no-over no-under p e =
        let more = lies_more p e in
        let first = fails_later p q (i + 1) M.objectives (omega arith) (sym more.0 ∙ no-over) in
        let second = fails_later q p (i + 1) M.objectives (omega arith) (sym more.1 ∙ no-under) in
        cc
