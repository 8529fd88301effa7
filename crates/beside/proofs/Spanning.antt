-- What two spans joined tell of the bytes of a pair.
use Rattle.std.proofs.Common.{◌≡◌, ℕ, zero, suc, ◌+◌, ◌*◌, ◌<◌, ◌≤◌, Bool, true, false, ◌&&◌, List, get_or, take, drop, add-zero, add-suc, refl, sym, ap, subst, ◌∙◌, arith}
use Rattle.std.specs.Prelude.{ℤ, pos, int_le, nat_le}
use Rattle.std.proofs.ByRecursion.{All-take, All-drop}
use Rattle.std.proofs.Math.Bool.{and-true}
use Rattle.std.proofs.Math.Nat.{add-sub_cancel_left}
use Rattle.std.proofs.lemmas.Bool.{and_from, cond-true, cond-false, lt-ltb, le-ltb}
use Rattle.std.proofs.lemmas.List.{get_or-take, get_or-drop, length-take, length-drop}
use Rattle.space.specs.Boxes.{at_least, each_at_least}
use Rattle.space.specs.Meaning.{Meaning, Lawful}
use Rattle.space.specs.Recording.{Recording, FourEach}
use Rattle.space.specs.Spans.{Alike, SpansOf, each_in, in_span, signed_at}
use Rattle.space.specs.declared.spans.Span.{Span}
use Rattle.space.specs.declared.spans.Spans.{Spans}
use Rattle.space.proofs.Looks.{each_alike}
use Rattle.space.proofs.Tests.{and_told}
use Rattle.beside.specs.Laws.{box_of}
use Rattle.beside.specs.Pair.{joined, joined_bytes}

-- three tests, and two pairs of tests, in another order
and_swap : (x a b : Bool) → (x && (a && b)) ≡ (a && (x && b))
and_swap x true b = refl
and_swap true false b = refl
and_swap false false b = refl

and_pairs : (a x b y : Bool) → ((a && x) && (b && y)) ≡ ((a && b) && (x && y))
and_pairs false x b y = refl
and_pairs true x b y = and_swap x b y

-- numbers are compared in front and behind
least_parts : (a b : ℕ → ℕ) (m n : ℕ) → each_at_least (m + n) a b ≡ (each_at_least m a b && each_at_least n (λ j. a (m + j)) (λ j. b (m + j)))
least_parts a b m zero = ap (λ k. each_at_least k a b) (add-zero m) ∙ sym (and-true (each_at_least m a b))
least_parts a b m (suc n) =
    ap (λ k. each_at_least k a b) (add-suc m n)
    ∙ ap (λ x. nat_le (b (m + n)) (a (m + n)) && x) (least_parts a b m n)
    ∙ and_swap (nat_le (b (m + n)) (a (m + n))) (each_at_least m a b) (each_at_least n (λ j. a (m + j)) (λ j. b (m + j)))

module _ (bs : List ℕ) (m w : ℕ) (middle : w ≡ 4 * m) where
  -- a number in front is one of the bytes of the first point, and one behind is of those of the second
  signed_front : (i : ℕ) → i < m → signed_at bs i ≡ signed_at (take w bs) i
  signed_front i l =
      let b0 = get_or-take w bs (4 * i) 0 (omega arith) in
      let b1 = get_or-take w bs (4 * i + 1) 0 (omega arith) in
      let b2 = get_or-take w bs (4 * i + 2) 0 (omega arith) in
      let b3 = get_or-take w bs (4 * i + 3) 0 (omega arith) in
      cc

  signed_back : (j : ℕ) → signed_at bs (m + j) ≡ signed_at (drop w bs) j
  signed_back j =
      let byte : (a b : ℕ) → w + a ≡ b → get_or (drop w bs) a 0 ≡ get_or bs b 0 = λ a b place. get_or-drop w bs a 0 ∙ ap (λ k. get_or bs k 0) place in
      let b0 = byte (4 * j) (4 * (m + j)) (omega arith) in
      let b1 = byte (4 * j + 1) (4 * (m + j) + 1) (omega arith) in
      let b2 = byte (4 * j + 2) (4 * (m + j) + 2) (omega arith) in
      let b3 = byte (4 * j + 3) (4 * (m + j) + 3) (omega arith) in
      cc

-- a row in front of which are the first m numbers of one, and behind them the first n of another
pub record Behind (m : ℕ) (first second row : List ℤ) (n : ℕ) : Type 0 where
  pub front : (i : ℕ) → i < m → get_or row i (pos 0) ≡ get_or first i (pos 0)
  pub back : (j : ℕ) → j < n → get_or row (m + j) (pos 0) ≡ get_or second j (pos 0)

-- so it is from a place on, where the second are written and nothing before them is altered
behind_from : (at' m n : ℕ) (before row : List ℤ) → ((i : ℕ) → i < at' + m → get_or row i (pos 0) ≡ get_or before i (pos 0)) → Behind m (drop at' before) (drop (at' + m) row) (drop at' row) n
behind_from at' m n before row kept = record {
  front = λ i l. get_or-drop at' row i (pos 0) ∙ kept (at' + i) (omega (arith, l)) ∙ sym (get_or-drop at' before i (pos 0));
  back = λ j l.
      let place : at' + (m + j) ≡ at' + m + j = omega arith in
      get_or-drop at' row (m + j) (pos 0) ∙ ap (λ k. get_or row k (pos 0)) place ∙ sym (get_or-drop (at' + m) row j (pos 0));
}

-- a span of which both rows are so
pub record SpanBehind (m : ℕ) (s t u : Span) (n : ℕ) : Type 0 where
  pub from : Behind m s.from t.from u.from n
  pub to : Behind m s.to t.to u.to n

pub span_behind : (at' m n : ℕ) (before row : Span) → Alike (at' + m) row before
    → SpanBehind m (record { from = drop at' before.from; to = drop at' before.to }) (record { from = drop (at' + m) row.from; to = drop (at' + m) row.to }) (record { from = drop at' row.from; to = drop at' row.to }) n
span_behind at' m n before row kept = record {
  from = behind_from at' m n before.from row.from (λ i l. (kept i l).0);
  to = behind_from at' m n before.to row.to (λ i l. (kept i l).1);
}

-- what stands before both is as it was
pub alike_before : (at' m : ℕ) (s t u : Span) → Alike (at' + m) s t → Alike at' t u → Alike at' s u
alike_before at' m s t u later first = λ i l. let a = later i (omega (arith, l)) in let b = first i l in (a.0 ∙ b.0, a.1 ∙ b.1)

module _ (m n : ℕ) (s t u : Span) (J : SpanBehind m s t u n) where
  -- a place of a joined span, in front and behind
  span_front : (i : ℕ) (v : ℤ) → i < m → in_span u i v ≡ in_span s i v
  span_front i v l = ap (λ a. int_le a v && int_le v (get_or u.to i (pos 0))) (J.from.front i l) ∙ ap (λ b. int_le (get_or s.from i (pos 0)) v && int_le v b) (J.to.front i l)

  span_back : (j : ℕ) (v : ℤ) → j < n → in_span u (m + j) v ≡ in_span t j v
  span_back j v l = ap (λ a. int_le a v && int_le v (get_or u.to (m + j) (pos 0))) (J.from.back j l) ∙ ap (λ b. int_le (get_or t.from j (pos 0)) v && int_le v b) (J.to.back j l)

  module _ (bs : List ℕ) (w : ℕ) (middle : w ≡ 4 * m) where
    -- the numbers in front are in the first span where they are in the joined one
    each_front : (k : ℕ) → k ≤ m → each_in k u bs ≡ each_in k s (take w bs)
    each_front zero l = refl
    each_front (suc k) l =
        ap (λ x. in_span u k (signed_at bs k) && x) (each_front k (omega arith))
        ∙ ap (λ x. x && each_in k s (take w bs)) (span_front k (signed_at bs k) (omega arith) ∙ ap (in_span s k) (signed_front bs m w middle k (omega arith)))

    -- and all numbers are in the joined one where those of both points are in their own
    each_parts : (k : ℕ) → k ≤ n → each_in (m + k) u bs ≡ (each_in m s (take w bs) && each_in k t (drop w bs))
    each_parts zero l = ap (λ k. each_in k u bs) (add-zero m) ∙ each_front m (omega arith) ∙ sym (and-true (each_in m s (take w bs)))
    each_parts (suc k) l =
        ap (λ i. each_in i u bs) (add-suc m k)
        ∙ ap (λ x. in_span u (m + k) (signed_at bs (m + k)) && x) (each_parts k (omega arith))
        ∙ ap (λ x. x && (each_in m s (take w bs) && each_in k t (drop w bs))) (span_back k (signed_at bs (m + k)) (omega arith) ∙ ap (in_span t k) (signed_back bs m w middle k))
        ∙ and_swap (in_span t k (signed_at (drop w bs) k)) (each_in m s (take w bs)) (each_in k t (drop w bs))

module _ {P Q : Type 0} (M : Meaning P) (N : Meaning Q) (LM : Lawful M) (LN : Lawful N) where
  -- on the grid, the boxes of two pairs compare as those of both points
  both_at_least : (p q : P × Q) → (joined M N).admits p ≡ true → (joined M N).admits q ≡ true → at_least (joined M N) p q ≡ (at_least M p.0 q.0 && at_least N p.1 q.1)
  both_at_least p q a b =
      let m = M.objectives in
      let n = N.objectives in
      let front : (r : P × Q) → (joined M N).admits r ≡ true → (i : ℕ) → i < m → (joined M N).box i r ≡ M.box i r.0 = λ r on i l. box_of M N LM LN r on i ∙ cond-true _ _ _ (lt-ltb i m l) in
      let back : (r : P × Q) → (joined M N).admits r ≡ true → (j : ℕ) → j < n → (joined M N).box (m + j) r ≡ N.box j r.1 = λ r on j l. box_of M N LM LN r on (m + j) ∙ cond-false _ _ _ (le-ltb (m + j) m (omega arith)) ∙ ap (λ k. N.box k r.1) (add-sub_cancel_left m j) in
      least_parts (λ i. (joined M N).box i p) (λ i. (joined M N).box i q) m n
      ∙ ap (λ x. x && each_at_least n (λ j. (joined M N).box (m + j) p) (λ j. (joined M N).box (m + j) q)) (each_alike m (λ i. (joined M N).box i p) (λ i. (joined M N).box i q) (λ i. M.box i p.0) (λ i. M.box i q.0) (front p a) (front q b))
      ∙ ap (λ x. at_least M p.0 q.0 && x) (each_alike n (λ j. (joined M N).box (m + j) p) (λ j. (joined M N).box (m + j) q) (λ j. N.box j p.1) (λ j. N.box j q.1) (back p a) (back q b))

  -- what both spans tell of both points is what the joined one tells of the pair
  parts_told : (q : P × Q) (x y z : Bool) → ((joined M N).admits q ≡ true → z ≡ (x && y)) → ((M.admits q.0 && x) && (N.admits q.1 && y)) ≡ ((joined M N).admits q && z)
  parts_told q x y z told = and_pairs (M.admits q.0) x (N.admits q.1) y ∙ and_told (M.admits q.0 && N.admits q.1) (x && y) z (λ on. sym (told on))

  -- the joined spans of both points are those of the pair
  pub pair_spans : (R : Recording P) (S : Recording Q) → FourEach M R → FourEach N S → (p : P × Q) (s t u : Spans) → SpansOf M R p.0 s → SpansOf N S p.1 t
      → (m n : ℕ) → m ≡ M.objectives → N.objectives ≤ n → SpanBehind m s.most t.most u.most n → SpanBehind m s.least t.least u.least n
      → SpansOf (joined M N) (joined_bytes R S) p u
  pair_spans R S wide_r wide_s p s t u A B m n same all up down =
      let reads : List ℕ → P × Q = (joined_bytes R S).reads in
      let on = and_from (M.admits p.0) (N.admits p.1) A.on B.on in
      record {
        on = on;
        most = λ bs small long.
            let q = reads bs in
            let front = A.most (take R.width bs) (All-take _ R.width bs small) (length-take R.width bs ∙ omega arith) in
            let back = B.most (drop R.width bs) (All-drop _ R.width bs small) (length-drop R.width bs ∙ omega arith) in
            each_parts M.objectives n s.most t.most u.most (subst (λ k. SpanBehind k s.most t.most u.most n) same up) bs R.width wide_r N.objectives all
            ∙ ap (λ x. x && each_in N.objectives t.most (drop R.width bs)) front ∙ ap (λ y. (M.admits q.0 && at_least M p.0 q.0) && y) back
            ∙ parts_told q (at_least M p.0 q.0) (at_least N p.1 q.1) (at_least (joined M N) p q) (both_at_least p q on);
        least = λ bs small long.
            let q = reads bs in
            let front = A.least (take R.width bs) (All-take _ R.width bs small) (length-take R.width bs ∙ omega arith) in
            let back = B.least (drop R.width bs) (All-drop _ R.width bs small) (length-drop R.width bs ∙ omega arith) in
            each_parts M.objectives n s.least t.least u.least (subst (λ k. SpanBehind k s.least t.least u.least n) same down) bs R.width wide_r N.objectives all
            ∙ ap (λ x. x && each_in N.objectives t.least (drop R.width bs)) front ∙ ap (λ y. (M.admits q.0 && at_least M q.0 p.0) && y) back
            ∙ parts_told q (at_least M q.0 p.0) (at_least N q.1 p.1) (at_least (joined M N) q p) (λ a. both_at_least q p a on);
      }
