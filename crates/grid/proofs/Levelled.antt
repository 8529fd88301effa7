-- What levels tell of figures.
use Rattle.std.proofs.Common.{◌≡◌, ℕ, ◌+◌, ◌<◌, ◌≤◌, Bool, true, false, ◌&&◌, ◌||◌, leb, List, map, length, get_or, set, get_or-set_other, get_or-set_same, subst, sym, ap, ◌∙◌, ⊎_elim, arith}
use Rattle.std.specs.Prelude.{ℤ, int_le}
use Rattle.std.proofs.Math.Bool.{and_comm, or_comm}
use Rattle.std.proofs.lemmas.Int.{ints}
use Rattle.std.proofs.lemmas.Bool.{and_parts, cases_lt, le-leb, or_cases}
use Rattle.std.proofs.lemmas.List.{get_or-map}
use Rattle.grid.specs.Bits.{Bits, Exact}
use Rattle.grid.specs.Levels.{LevelsOf, from_on, levels_at, on_grid, turned, up_to}
use Rattle.grid.specs.Line.{Line}
use Rattle.grid.specs.Ranges.{between, box_at_least, box_at_most}
use Rattle.grid.specs.Space.{admits_at, box_at, figure_at, grid_meaning, line_at, unused}
use Rattle.grid.specs.Tests.{all_below_each}
use Rattle.grid.specs.declared.levels.Levels.{Levels}

-- a figure on the grid passes one of these tests at least, and its level tells which
pub record Halves {F : Type 0} (B : Bits F) (below above : F → Bool) (L : Levels) : Type 0 where
  pub either : (v : F) → on_grid B L v ≡ true → (below v || above v) ≡ true
  pub most : (v : F) → on_grid B L v ≡ true → up_to B L v ≡ below v
  pub least : (v : F) → on_grid B L v ≡ true → from_on B L v ≡ above v

-- two ranges of numbers that meet: from the first of the one to the last of the other each number is in one of them, and one end tells of each
either_range : (a b c d x v : ℤ) → (int_le a x && int_le x b) ≡ true → (int_le c x && int_le x d) ≡ true → (int_le a v && int_le v d) ≡ true → ((int_le a v && int_le v b) || (int_le c v && int_le v d)) ≡ true
either_range a b c d x v one two on = grind (arith, ints)

first_range : (a b d v : ℤ) → (int_le a v && int_le v d) ≡ true → int_le v b ≡ (int_le a v && int_le v b)
first_range a b d v on = grind (arith, ints)

second_range : (a c d v : ℤ) → (int_le a v && int_le v d) ≡ true → int_le c v ≡ (int_le c v && int_le v d)
second_range a c d v on = grind (arith, ints)

-- turned round, numbers are in the other order
turned_le : (a b : ℤ) → int_le (turned a) (turned b) ≡ int_le b a
turned_le a b = grind (arith, ints)

-- and so it is where the numbers are turned round
turn_on : (b c v : ℤ) → (int_le (turned b) (turned v) && int_le (turned v) (turned c)) ≡ true → (int_le c v && int_le v b) ≡ true
turn_on b c v on =
    and_comm (int_le c v) (int_le v b) ∙ sym (ap (λ x. x && int_le (turned v) (turned c)) (turned_le b v) ∙ ap (λ x. int_le v b && x) (turned_le v c)) ∙ on

turn_first : (a b c v : ℤ) → (int_le c v && int_le v b) ≡ true → int_le (turned v) (turned a) ≡ (int_le a v && int_le v b)
turn_first a b c v on = turned_le v a ∙ second_range c a b v on

turn_second : (b c d v : ℤ) → (int_le c v && int_le v b) ≡ true → int_le (turned d) (turned v) ≡ (int_le c v && int_le v d)
turn_second b c d v on = turned_le d v ∙ first_range c d b v on

module _ {F : Type 0} (B : Bits F) (E : Exact B) where
  -- a range of figures is one of ranks
  ranks : (a b v : F) → between B (a, b) v ≡ (int_le (B.rank a) (B.rank v) && int_le (B.rank v) (B.rank b))
  ranks a b v = ap (λ x. x && B.at_most v b) (E.ranked a v) ∙ ap (λ x. int_le (B.rank a) (B.rank v) && x) (E.ranked v b)

  module _ (a b c d x : F) (one : between B (a, b) x ≡ true) (two : between B (c, d) x ≡ true) where
    -- in one of two ranges by figures as by ranks
    in_either : (v : F) → ((int_le (B.rank a) (B.rank v) && int_le (B.rank v) (B.rank b)) || (int_le (B.rank c) (B.rank v) && int_le (B.rank v) (B.rank d))) ≡ true → (between B (a, b) v || between B (c, d) v) ≡ true
    in_either v told = ap (λ y. y || between B (c, d) v) (ranks a b v) ∙ ap (λ y. (int_le (B.rank a) (B.rank v) && int_le (B.rank v) (B.rank b)) || y) (ranks c d v) ∙ told

    -- the levels of two ranges that meet, straight on and turned round
    pub straight_halves : Halves B (between B (a, b)) (between B (c, d)) (record { turned = false; lowest = B.rank a; highest = B.rank d; bottom = B.rank c; top = B.rank b })
    straight_halves = record {
      either = λ v on. in_either v (either_range (B.rank a) (B.rank b) (B.rank c) (B.rank d) (B.rank x) (B.rank v) (sym (ranks a b x) ∙ one) (sym (ranks c d x) ∙ two) on);
      most = λ v on. first_range (B.rank a) (B.rank b) (B.rank d) (B.rank v) on ∙ sym (ranks a b v);
      least = λ v on. second_range (B.rank a) (B.rank c) (B.rank d) (B.rank v) on ∙ sym (ranks c d v);
    }

    pub turned_halves : Halves B (between B (a, b)) (between B (c, d)) (record { turned = true; lowest = turned (B.rank b); highest = turned (B.rank c); bottom = turned (B.rank d); top = turned (B.rank a) })
    turned_halves = record {
      either = λ v on.
          in_either v (or_comm (int_le (B.rank a) (B.rank v) && int_le (B.rank v) (B.rank b)) (int_le (B.rank c) (B.rank v) && int_le (B.rank v) (B.rank d)) ∙ either_range (B.rank c) (B.rank d) (B.rank a) (B.rank b) (B.rank x) (B.rank v) (sym (ranks c d x) ∙ two) (sym (ranks a b x) ∙ one) (turn_on (B.rank b) (B.rank c) (B.rank v) on));
      most = λ v on. turn_first (B.rank a) (B.rank b) (B.rank c) (B.rank v) (turn_on (B.rank b) (B.rank c) (B.rank v) on) ∙ sym (ranks a b v);
      least = λ v on. turn_second (B.rank b) (B.rank c) (B.rank d) (B.rank v) (turn_on (B.rank b) (B.rank c) (B.rank v) on) ∙ sym (ranks c d v);
    }

-- tests of figures by their boxes are told by levels where the ranges of these boxes are
pub levelled : {F : Type 0} (B : Bits F) (line : Line F) (n : ℕ) (most least : F → Bool) (L : Levels) → ((v : F) → most v ≡ box_at_most line n v) → ((v : F) → least v ≡ box_at_least line n v) → Halves B most least L → LevelsOf B line n L
levelled B line n most least L up down H =
    let inside : (v : _) → on_grid B L v ≡ true → line.admits v ≡ true =
    λ v on.
    ⊎_elim
    (λ (yes : most v ≡ true). (and_parts (line.admits v) (leb (line.box v) n) (sym (up v) ∙ yes)).0)
    (λ (yes : least v ≡ true). (and_parts (line.admits v) (leb n (line.box v)) (sym (down v) ∙ yes)).0)
    (or_cases (most v) (least v) (H.either v on)) in
    record {
      admitted = inside;
      most = λ v on. H.most v on ∙ up v ∙ ap (λ a. a && leb (line.box v) n) (inside v on);
      least = λ v on. H.least v on ∙ down v ∙ ap (λ a. a && leb n (line.box v)) (inside v on);
    }

-- two ranges of a line's figures meet where a figure has the box itself
pub levels_by_ranges : {F : Type 0} (B : Bits F) (line : Line F) (n : ℕ) (most least : F × F) (L : Levels) → ((v : F) → between B most v ≡ box_at_most line n v) → ((v : F) → between B least v ≡ box_at_least line n v)
    → ((v : F) → between B most v ≡ true → between B least v ≡ true → Halves B (between B most) (between B least) L)
    → (v : F) → line.admits v ≡ true → line.box v ≡ n → LevelsOf B line n L
levels_by_ranges B line n most least L up down halves v admitted box =
    let in_most : between B most v ≡ true = up v ∙ ap (λ a. a && leb (line.box v) n) admitted ∙ le-leb (line.box v) n (omega (arith, box)) in
    let in_least : between B least v ≡ true = down v ∙ ap (λ a. a && leb n (line.box v)) admitted ∙ le-leb n (line.box v) (omega (arith, box)) in
    levelled B line n (between B most) (between B least) L up down (halves v in_most in_least)

-- the levels of one objective more
pub levels_more : {A F : Type 0} (B : Bits F) (line : A → Line F) (axes : List A) (p : List F) → (grid_meaning B (map line axes)).admits p ≡ true
    → (i : ℕ) (axis : A) (numbers : ℕ → ℕ) (levels : List Levels) (L : Levels) → i < length axes → i < 6 → axis ≡ get_or axes i axis → length levels ≡ 6 → numbers i ≡ box_at B (map line axes) p i
    → ((v : F) → (line axis).admits v ≡ true → (line axis).box v ≡ numbers i → LevelsOf B (line axis) (numbers i) L)
    → ((k : ℕ) → k < i → LevelsOf B (line_at B (map line axes) k) (numbers k) (levels_at levels k))
    → (k : ℕ) → k < i + 1 → LevelsOf B (line_at B (map line axes) k) (numbers k) (levels_at (set levels i L) k)
levels_more B line axes p on i axis numbers levels L inside six is long number told before k l =
    let this : line_at B (map line axes) i ≡ line axis = get_or-map line axes i axis (unused B) inside ∙ ap line (sym is) in
    let v = figure_at B p i in
    let admitted : (line axis).admits v ≡ true = ap (λ L. L.admits v) (sym this) ∙ all_below_each (admits_at B (map line axes) p) 6 on i six in
    let box : numbers i ≡ (line axis).box v = number ∙ ap (λ L. L.box v) this in
    let here : LevelsOf B (line axis) (numbers i) L = told v admitted (sym box) in
    ⊎_elim
    (λ (earlier : k < i). subst (LevelsOf B (line_at B (map line axes) k) (numbers k)) (sym (get_or-set_other levels i k L _ (λ e. omega (arith, e, earlier)))) (before k earlier))
    (λ (at : i ≤ k).
    let same : i ≡ k = omega (arith, l, at) in
    subst (λ j. LevelsOf B (line_at B (map line axes) j) (numbers j) (levels_at (set levels i L) j)) same
    (subst (λ M. LevelsOf B M (numbers i) (levels_at (set levels i L) i)) (sym this) (subst (LevelsOf B (line axis) (numbers i)) (sym (get_or-set_same levels i L _ (omega (arith, long, six)))) here)))
    (cases_lt k i)
