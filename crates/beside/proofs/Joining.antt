-- Two rows of six, joined place by place.
use Rattle.std.proofs.Common.{◌≡◌, ℕ, ◌-◌, ◌<◌, ◌≤◌, Bool, true, false, cond, ◌&&◌, List, get_or, length, map, nat_lt, Some, None, refl, sym, ap, ◌∙◌, arith}
use Rattle.std.specs.List.{range_with_len}
use Rattle.std.proofs.lemmas.Bool.{and_from, cond-true}
use Rattle.std.proofs.lemmas.List.FromFn.{fill_by_all, get_or-map-range_with_len, length-map-range_with_len}
use Rattle.space.specs.Boxes.{boxes_on, six_boxes}
use Rattle.space.specs.Meaning.{Meaning}
use Rattle.space.proofs.Looks.{number_of}
use Rattle.beside.specs.Pair.{boxes_joined}
use Rattle.beside.specs.Rows.{row_joined}

module _ (front : ℕ) (first second : List ℕ) where
  -- a place of the joined row
  row_at : (i : ℕ) → i < 6 → get_or (map (row_joined front first second) (range_with_len 0 6)) i 0 ≡ row_joined front first second i
  row_at i l = get_or-map-range_with_len (row_joined front first second) 0 6 i i 0 l (omega arith)

  -- the places below n are joined, and the others as in the first row
  pub record Joined (row : List ℕ) (n : ℕ) : Type 0 where
    pub long : length row ≡ 6
    pub done : (k : ℕ) → k < n → get_or row k 0 ≡ row_joined front first second k
    pub rest : (k : ℕ) → n ≤ k → get_or row k 0 ≡ get_or first k 0

  -- all places
  pub joined_all : (row : List ℕ) (n : ℕ) → 6 ≤ n → Joined row n → row ≡ map (row_joined front first second) (range_with_len 0 6)
  joined_all row n all J = fill_by_all (row_joined front first second) row 6 0 J.long (λ k l. J.done k (omega arith))

-- numbers that are told are those of a point on its grid
numbers_on : (on : Bool) (told asked : List ℕ) → Some told ≡ cond on (Some asked) None → (on ≡ true) × (told ≡ asked)
numbers_on true told asked e = (refl, cc)
numbers_on false told asked e = let never : ⊥ = cc in absurd never

-- the numbers of both points joined are those of the pair
pub boxes_told : {P Q : Type 0} (M : Meaning P) (N : Meaning Q) (p : P × Q) (front : ℕ) (first second row : List ℕ) → front ≡ M.objectives → Some first ≡ boxes_on M p.0 → Some second ≡ boxes_on N p.1 → row ≡ map (row_joined front first second) (range_with_len 0 6) → Some row ≡ boxes_joined M N p
boxes_told M N p front first second row same one two told =
    let m = M.objectives in
    let a = numbers_on (M.admits p.0) first (six_boxes M p.0) one in
    let b = numbers_on (N.admits p.1) second (six_boxes N p.1) two in
    let all = map (row_joined m (six_boxes M p.0) (six_boxes N p.1)) (range_with_len 0 6) in
    let whole : row ≡ all = cc in
    let number : ℕ → ℕ = λ i. cond (nat_lt i m) (M.box i p.0) (N.box (i - m) p.1) in
    let here : (i : ℕ) → i < 6 → row_joined m (six_boxes M p.0) (six_boxes N p.1) i ≡ number i = λ i l.
    ap (λ x. cond (nat_lt i m) x (get_or (six_boxes N p.1) (i - m) 0)) (number_of M p.0 i l) ∙ ap (cond (nat_lt i m) (M.box i p.0)) (number_of N p.1 (i - m) (omega arith)) in
    let rows : row ≡ map number (range_with_len 0 6) =
    whole ∙ fill_by_all number all 6 0 (length-map-range_with_len (row_joined m (six_boxes M p.0) (six_boxes N p.1)) 0 6) (λ i l. row_at m (six_boxes M p.0) (six_boxes N p.1) i l ∙ here i l) in
    ap Some rows ∙ sym (cond-true (M.admits p.0 && N.admits p.1) (Some (map number (range_with_len 0 6))) None (and_from (M.admits p.0) (N.admits p.1) a.0 b.0))
