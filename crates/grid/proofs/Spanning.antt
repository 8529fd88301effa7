-- What the spans of a box tell of the bytes of a point.
use Rattle.std.proofs.Common.{◌≡◌, ℕ, zero, suc, ◌+◌, ◌*◌, ◌<◌, ◌≤◌, Bool, true, ◌&&◌, leb, List, map, length, get_or, set, drop, get_or-set_other, get_or-set_same, subst, sym, refl, ap, ◌∙◌, ⊎_elim, arith}
use Rattle.std.specs.Prelude.{ℤ, pos}
use Rattle.std.proofs.lemmas.List.{get_or-drop}
use Rattle.std.proofs.lemmas.Bool.{cases_lt, le-leb}
use Rattle.word.specs.Word.{Bytes, number_at}
use Rattle.space.specs.Spans.{SpansOf, each_in, in_span, signed_at}
use Rattle.space.specs.declared.spans.Span.{Span}
use Rattle.grid.specs.Bits.{Bits, Exact}
use Rattle.grid.specs.Bytes.{figures_read, grid_recording}
use Rattle.grid.specs.Laws.{past_the_last}
use Rattle.grid.specs.Line.{Line}
use Rattle.grid.specs.Ranges.{NumbersPass, box_at_least, box_at_most}
use Rattle.grid.specs.Recorded.{figure_read, number_none, number_small}
use Rattle.grid.specs.Space.{all_below, box_at, figure_at, grid_meaning, line_at}
use Rattle.grid.proofs.Boxing.{all_least, all_most, below_alike, below_past, boxed, nothing_past}
use Rattle.grid.proofs.Lines.{used}

-- the numbers are held against a span one by one
each_below : (k : ℕ) (s : Span) (bs : List ℕ) → each_in k s bs ≡ all_below (λ i. in_span s i (signed_at bs i)) k
unfolding all_below
each_below zero s bs = refl
each_below (suc k) s bs = ap (λ x. in_span s k (signed_at bs k) && x) (each_below k s bs)

-- the numbers from one to another say the figures at place i that pass a test by the line there and by p's box on it
abbrev pub SpansAt : {F : Type 0} → Bits F → List (Line F) → List F → (Line F → ℕ → F → Bool) → ℕ → ℤ × ℤ → Type 0
SpansAt B lines p test i = NumbersPass B (test (line_at B lines i) (box_at B lines p i))

-- so do the ends of a range that the rule of the place tells
pub span_here : {A F : Type 0} (B : Bits F) (line : A → Line F) (axes : List A) (p : List F) (i : ℕ) (axis : A) → i < length axes → axis ≡ get_or axes i axis
    → (test : Line F → ℕ → F → Bool) (range : F → Bool) (ends : ℤ × ℤ) (v : F) (n : ℕ) → NumbersPass B range ends → ((w : F) → range w ≡ test (line axis) n w) → n ≡ (line axis).box v → v ≡ figure_at B p i
    → SpansAt B (map line axes) p test i ends
span_here B line axes p i axis inside is test range ends v n told ranged boxed at' =
    let this : line axis ≡ line_at B (map line axes) i = ap line is ∙ sym (used B line axes i axis inside) in
    λ k small.
    told k small ∙ ranged (B.from k) ∙ ap (λ x. test (line axis) x (B.from k)) (boxed ∙ ap (line axis).box at')
    ∙ ap (λ L. test L (L.box (figure_at B p i)) (B.from k)) this

-- two rows of six: at the places from `at` on the first n are told, and those before are as they were
pub record Placed (Told : ℕ → ℤ × ℤ → Type 0) (at' : ℕ) (from₀ to₀ from to : List ℤ) (n : ℕ) : Type 0 where
  pub each : (k : ℕ) → k < n → Told k (get_or from (at' + k) (pos 0), get_or to (at' + k) (pos 0))
  pub before : (k : ℕ) → k < at' → (get_or from k (pos 0) ≡ get_or from₀ k (pos 0)) × (get_or to k (pos 0) ≡ get_or to₀ k (pos 0))

module _ (Told : ℕ → ℤ × ℤ → Type 0) (at' : ℕ) (from₀ to₀ : List ℤ) where
  pub placed_none : Placed Told at' from₀ to₀ from₀ to₀ 0
  placed_none = record { each = λ k l. absurd (omega arith); before = λ k l. (refl, refl) }

  -- one place more
  pub placed_more : (from to : List ℤ) (n : ℕ) (a b : ℤ) → at' + n < 6 → length from ≡ 6 → length to ≡ 6 → Told n (a, b) → Placed Told at' from₀ to₀ from to n → Placed Told at' from₀ to₀ (set from (at' + n) a) (set to (at' + n) b) (n + 1)
  placed_more from to n a b six lf lt here R = record {
    each = λ k l.
        ⊎_elim
        (λ (before : k < n).
        subst (λ x. Told k (x, get_or (set to (at' + n) b) (at' + k) (pos 0))) (sym (get_or-set_other from (at' + n) (at' + k) a (pos 0) (omega arith)))
        (subst (λ x. Told k (get_or from (at' + k) (pos 0), x)) (sym (get_or-set_other to (at' + n) (at' + k) b (pos 0) (omega arith))) (R.each k before)))
        (λ (past : n ≤ k).
        let same : n ≡ k = omega arith in
        subst (λ j. Told j (get_or (set from (at' + n) a) (at' + j) (pos 0), get_or (set to (at' + n) b) (at' + j) (pos 0))) same
        (subst (λ x. Told n (x, get_or (set to (at' + n) b) (at' + n) (pos 0))) (sym (get_or-set_same from (at' + n) a (pos 0) (omega (arith, lf))))
        (subst (λ x. Told n (a, x)) (sym (get_or-set_same to (at' + n) b (pos 0) (omega (arith, lt)))) here)))
        (cases_lt k n);
    before = λ k l. (get_or-set_other from (at' + n) k a (pos 0) (omega arith) ∙ (R.before k l).0, get_or-set_other to (at' + n) k b (pos 0) (omega arith) ∙ (R.before k l).1);
  }

  -- what is told stands in front of the rows from there on
  pub placed_from : (from to : List ℤ) (n : ℕ) → Placed Told at' from₀ to₀ from to n → (k : ℕ) → k < n → Told k (get_or (drop at' from) k (pos 0), get_or (drop at' to) k (pos 0))
  placed_from from to n R k l =
      subst (λ x. Told k (x, get_or (drop at' to) k (pos 0))) (sym (get_or-drop at' from k (pos 0)))
      (subst (λ x. Told k (get_or from (at' + k) (pos 0), x)) (sym (get_or-drop at' to k (pos 0))) (R.each k l))

module _ {F : Type 0} (B : Bits F) (E : Exact B) where
  -- the numbers of all objectives are in a span where the figures that the bytes say pass at each place
  each_passes : (test : ℕ → F → Bool) (s : Span) (m : ℕ) → ((i : ℕ) → i < m → NumbersPass B (test i) (get_or s.from i (pos 0), get_or s.to i (pos 0))) → m ≤ 6 → ((i : ℕ) → m ≤ i → test i B.zero ≡ true) → (bs : List ℕ) → Bytes bs → length bs ≡ 4 * m
      → each_in m s bs ≡ all_below (λ i. test i (figure_at B (figures_read B bs) i)) 6
  each_passes test s m S few past bs small long =
      let q = figures_read B bs in
      each_below m s bs
      ∙ below_alike (λ i. in_span s i (signed_at bs i)) (λ i. test i (figure_at B q i)) m
      (λ i l. S i l (number_at bs i) (number_small bs small i (omega arith)) ∙ ap (test i) (sym (figure_read B bs i (omega arith))))
      ∙ below_past (λ i. test i (figure_at B q i)) m 6 few
      (λ i l six. ap (test i) (figure_read B bs i six ∙ ap B.from (number_none bs i (omega arith)) ∙ E.zero_bits) ∙ past i l)

  module _ (lines : List (Line F)) (few : length lines ≤ 6) (p : List F) (on : (grid_meaning B lines).admits p ≡ true) where
    -- the spans of the boxes up to a point's, and from it on, as they are told place by place, are those of the point, where it is on the grid
    pub spans_told : (m : ℕ) → m ≡ length lines → (most least : Span) (n : ℕ) → m ≤ n
        → ((i : ℕ) → i < n → SpansAt B lines p box_at_most i (get_or most.from i (pos 0), get_or most.to i (pos 0)))
        → ((i : ℕ) → i < n → SpansAt B lines p box_at_least i (get_or least.from i (pos 0), get_or least.to i (pos 0)))
        → SpansOf (grid_meaning B lines) (grid_recording B m) p (record { most = most; least = least })
    spans_told m counted most least n all up down =
        let M = grid_meaning B lines in
        record {
          on = on;
          most = λ bs small long.
              each_passes (λ i. box_at_most (line_at B lines i) (M.box i p)) most (length lines)
              (λ i l k h. up i (omega arith) k h ∙ ap (λ x. box_at_most (line_at B lines i) x (B.from k)) (boxed B lines few p p on i))
              few
              (λ i l. ap (λ L. box_at_most L (M.box i p) B.zero) (past_the_last B lines i l) ∙ ap (λ a. a && leb 0 (M.box i p)) E.zero_tested ∙ le-leb 0 (M.box i p) (omega arith))
              bs small (omega arith)
              ∙ all_most B lines few p (figures_read B bs);
          least = λ bs small long.
              each_passes (λ i. box_at_least (line_at B lines i) (M.box i p)) least (length lines)
              (λ i l k h. down i (omega arith) k h ∙ ap (λ x. box_at_least (line_at B lines i) x (B.from k)) (boxed B lines few p p on i))
              few
              (λ i l. ap (λ L. box_at_least L (M.box i p) B.zero) (past_the_last B lines i l) ∙ ap (λ k. B.is_zero B.zero && leb k 0) (nothing_past B lines few p i l) ∙ ap (λ a. a && true) E.zero_tested)
              bs small (omega arith)
              ∙ all_least B lines few p (figures_read B bs);
        }
