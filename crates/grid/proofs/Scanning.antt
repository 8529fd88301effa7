-- What a look at many trials sees, trial by trial and place by place.
use Rattle.std.proofs.Common.{◌≡◌, ℕ, suc, ◌+◌, ◌<◌, ◌≤◌, Bool, true, false, cond, ◌&&◌, ◌||◌, not, leb, ltb, List, [], ◌∷◌, length, get_or, set, length-set, get_or-set_other, get_or-set_same, take, bit_or, subst, sym, refl, ap, ◌∙◌, ⊎_elim, arith}
use Rattle.std.specs.Prelude.{ℤ, pos, ◌≤ℤ◌, int_le, int_lt, slice_index, slice_index_or}
use Rattle.std.specs.Int.{int_max, int_min}
use Rattle.std.specs.List.{list_all}
use Rattle.std.proofs.lemmas.Int.{ints, clamps}
use Rattle.std.proofs.lemmas.Bool.{and_from, both_ways, cases_Bool, cases_lt, le-ltb, or_cases}
use Rattle.std.proofs.lemmas.List.{get_or_default}
use Rattle.std.proofs.lemmas.List.Folds.{list_all_at, list_all_more}
use Rattle.space.specs.Boxes.{at_least, six_boxes}
use Rattle.space.specs.Looking.{look_by, look_of}
use Rattle.space.specs.declared.tagged.Trial.{Trial}
use Rattle.space.proofs.Looks.{look_alike, number_of}
use Rattle.grid.specs.Bits.{Bits}
use Rattle.grid.specs.Bytes.{zero_from}
use Rattle.grid.specs.Laws.{past_the_last}
use Rattle.grid.specs.Levels.{InReach, LevelsOf, Reached, each_place, from_on, level_of, levels_at, on_grid, up_to}
use Rattle.grid.specs.Line.{Line}
use Rattle.grid.specs.Space.{admits_at, all_below, box_at, figure_at, grid_meaning, line_at}
use Rattle.grid.specs.Tests.{all_below_each, all_below_from}
use Rattle.grid.specs.declared.levels.Levels.{Levels}
use Rattle.grid.proofs.Boxing.{below_alike, below_none, over_places, below_next, under_places}

-- one trial more passes
pub all_more : {T : Type 0} (f : T → Bool) (ts : List T) (k : ℕ) (d : T) → k < length ts → list_all f (take k ts) ≡ true → f (get_or ts k d) ≡ true → list_all f (take (k + 1) ts) ≡ true
all_more f ts k d inside before here = list_all_more f ts k d inside ∙ ap (λ b. b && f (get_or ts k d)) before ∙ here

-- all pass where each does
all_from : {T : Type 0} (f : T → Bool) (ts : List T) → ((k : ℕ) (t : T) → k < length ts → t ≡ get_or ts k t → f t ≡ true) → list_all f ts ≡ true
all_from f [] each = refl
all_from f (t ∷ ts) each = and_from (f t) (list_all f ts) (each 0 t (omega arith) refl) (all_from f ts (λ k u l read. each (suc k) u (omega (arith, l)) read))

-- as many, counted on
pub take_next : {T : Type 0} (f : T → Bool) (ts : List T) (k i : ℕ) → list_all f (take (k + i + 1) ts) ≡ true → list_all f (take (k + (i + 1)) ts) ≡ true
take_next f ts k i all = let on : k + (i + 1) ≡ k + i + 1 = omega arith in ap (λ n. list_all f (take n ts)) on ∙ all

-- what passes for all of these passes for each of them
each_listed : {T : Type 0} (f : T → Bool) (ts : List T) (i : ℕ) (t : T) → i < length ts → t ≡ get_or ts i t → list_all f ts ≡ true → f t ≡ true
each_listed f ts i t l read all =
    ⊎_elim
    (λ (passes : f t ≡ true). passes)
    (λ (fails : f t ≡ false). absurd (both_ways (list_all f ts) (list_all_at f ts i t l (sym (ap f read) ∙ fails)) all))
    (cases_Bool (f t))

-- the first i places of q are held: what they missed is told, they have been reached, and the places from there on are as they were
pub record Held {F : Type 0} (B : Bits F) (levels : List Levels) (q : List F) (lowest₀ highest₀ : List ℤ) (i m n : ℕ) (lowest highest : List ℤ) : Type 0 where
  pub most : m ≡ cond (each_place B up_to levels q i) 0 1
  pub least : n ≡ cond (each_place B from_on levels q i) 0 1
  pub reach : Reached i (level_of B levels q) lowest₀ highest₀ lowest highest
  pub rest : (k : ℕ) → i ≤ k → (slice_index_or lowest k (pos 0) ≡ slice_index_or lowest₀ k (pos 0)) × (slice_index_or highest k (pos 0) ≡ slice_index_or highest₀ k (pos 0))
  pub long_low : length lowest ≡ 6
  pub long_high : length highest ≡ 6

-- what is not less than another is as great at least
pub not_less : (a b : ℤ) → not (int_lt a b) ≡ int_le b a
not_less a b = grind (arith, ints)

-- one miss more
missed_more : (a x : Bool) → bit_or (cond a 0 1) (cond x 1 0) ≡ cond (a && not x) 0 1
missed_more a x = elim a as (λ a. bit_or (cond a 0 1) (cond x 1 0) ≡ cond (a && not x) 0 1) [ true ↦ elim x as (λ x. bit_or 0 (cond x 1 0) ≡ cond (not x) 0 1) [ true ↦ refl | false ↦ refl ] | false ↦ elim x as (λ x. bit_or 1 (cond x 1 0) ≡ 1) [ true ↦ refl | false ↦ refl ] ]

module _ {F : Type 0} (B : Bits F) (levels : List Levels) (q : List F) (lowest₀ highest₀ : List ℤ) where
  pub held_none : length lowest₀ ≡ 6 → length highest₀ ≡ 6 → Held B levels q lowest₀ highest₀ 0 0 0 lowest₀ highest₀
  held_none low high = record {
    most = ap (λ b. cond b 0 1) (below_none (λ i. up_to B (levels_at levels i) (figure_at B q i)));
    least = ap (λ b. cond b 0 1) (below_none (λ i. from_on B (levels_at levels i) (figure_at B q i)));
    reach = record { low = λ k l. absurd (omega (arith, l)); high = λ k l. absurd (omega (arith, l)) };
    rest = λ k l. (refl, refl);
    long_low = low;
    long_high = high;
  }

  -- one place more: x tells whether its level is past the top, y whether it is short of the bottom
  pub held_more : (i m n : ℕ) (lowest highest : List ℤ) (x y : Bool) (m' n' : ℕ) (a b : ℤ) → i < 6 → Held B levels q lowest₀ highest₀ i m n lowest highest
      → m' ≡ bit_or m (cond x 1 0) → n' ≡ bit_or n (cond y 1 0)
      → not x ≡ up_to B (levels_at levels i) (figure_at B q i) → not y ≡ from_on B (levels_at levels i) (figure_at B q i)
      → a ≡ int_min (slice_index_or lowest i (pos 0)) (level_of B levels q i) → b ≡ int_max (slice_index_or highest i (pos 0)) (level_of B levels q i)
      → Held B levels q lowest₀ highest₀ (i + 1) m' n' (set lowest i a) (set highest i b)
  held_more i m n lowest highest x y m' n' a b six H em en ex ey ea eb =
      let tops : ℕ → Bool = λ i. up_to B (levels_at levels i) (figure_at B q i) in
      let bottoms : ℕ → Bool = λ i. from_on B (levels_at levels i) (figure_at B q i) in
      let this = level_of B levels q i in
      let low = slice_index_or lowest i (pos 0) in
      let high = slice_index_or highest i (pos 0) in
      let low_here : slice_index_or (set lowest i a) i (pos 0) ≡ a = get_or-set_same lowest i a (pos 0) (omega (arith, six, H.long_low)) in
      let high_here : slice_index_or (set highest i b) i (pos 0) ≡ b = get_or-set_same highest i b (pos 0) (omega (arith, six, H.long_high)) in
      let was = H.rest i (omega arith) in
      record {
        most = em ∙ ap (λ z. bit_or z (cond x 1 0)) H.most ∙ missed_more (all_below tops i) x ∙ ap (λ b. cond b 0 1) (below_next tops i (all_below tops i) (not x) refl ex);
        least = en ∙ ap (λ z. bit_or z (cond y 1 0)) H.least ∙ missed_more (all_below bottoms i) y ∙ ap (λ b. cond b 0 1) (below_next bottoms i (all_below bottoms i) (not y) refl ey);
        reach = record {
          low = λ k l.
              ⊎_elim
              (λ (before : k < i). let same = get_or-set_other lowest i k a (pos 0) (λ e. omega (arith, e, before)) in let R = H.reach.low k before in (subst (λ z. z ≤ℤ slice_index_or lowest₀ k (pos 0)) (sym same) R.0, subst (λ z. z ≤ℤ level_of B levels q k) (sym same) R.1))
              (λ (at : i ≤ k).
              let same : i ≡ k = omega (arith, l, at) in
              subst (λ j. (slice_index_or (set lowest i a) j (pos 0) ≤ℤ slice_index_or lowest₀ j (pos 0)) × (slice_index_or (set lowest i a) j (pos 0) ≤ℤ level_of B levels q j)) same
              (omega (arith, ints, clamps, low_here, ea, was.0), omega (arith, ints, clamps, low_here, ea)))
              (cases_lt k i);
          high = λ k l.
              ⊎_elim
              (λ (before : k < i). let same = get_or-set_other highest i k b (pos 0) (λ e. omega (arith, e, before)) in let R = H.reach.high k before in (subst (λ z. slice_index_or highest₀ k (pos 0) ≤ℤ z) (sym same) R.0, subst (λ z. level_of B levels q k ≤ℤ z) (sym same) R.1))
              (λ (at : i ≤ k).
              let same : i ≡ k = omega (arith, l, at) in
              subst (λ j. (slice_index_or highest₀ j (pos 0) ≤ℤ slice_index_or (set highest i b) j (pos 0)) × (level_of B levels q j ≤ℤ slice_index_or (set highest i b) j (pos 0))) same
              (omega (arith, ints, clamps, high_here, eb, was.1), omega (arith, ints, clamps, high_here, eb)))
              (cases_lt k i);
        };
        rest = λ k l. (get_or-set_other lowest i k a (pos 0) (λ e. omega (arith, e, l)) ∙ (H.rest k (omega (arith, l))).0, get_or-set_other highest i k b (pos 0) (λ e. omega (arith, e, l)) ∙ (H.rest k (omega (arith, l))).1);
        long_low = length-set lowest i a ∙ H.long_low;
        long_high = length-set highest i b ∙ H.long_high;
      }

-- all levels of these trials at the first N places are reached
abbrev pub Reaches : {F : Type 0} → Bits F → List Levels → ℕ → List (Trial (List F)) → ℕ → List ℤ → List ℤ → Type 0
Reaches {F = F} B levels N trials n lowest highest =
    (k : ℕ) (t : Trial (List F)) → k < n → t ≡ get_or trials k t → (i : ℕ) → i < N → (slice_index_or lowest i (pos 0) ≤ℤ level_of B levels t.point i) × (level_of B levels t.point i ≤ℤ slice_index_or highest i (pos 0))

module _ {F : Type 0} (B : Bits F) (levels : List Levels) (N : ℕ) (trials : List (Trial (List F))) where
  -- one trial more
  pub reaches_more : (n : ℕ) (t : Trial (List F)) (lowest highest lowest' highest' : List ℤ) → n < length trials → t ≡ get_or trials n t → Reaches B levels N trials n lowest highest → Reached N (level_of B levels t.point) lowest highest lowest' highest'
      → Reaches B levels N trials (n + 1) lowest' highest'
  reaches_more n t lowest highest lowest' highest' short read before R k u l this i inside =
      let low = R.low i inside in
      let high = R.high i inside in
      ⊎_elim
      (λ (earlier : k < n). let old = before k u earlier this i inside in (omega (arith, ints, old.0, low.0), omega (arith, ints, old.1, high.0)))
      (λ (at : n ≤ k).
      let same : k ≡ n = omega (arith, l, at) in
      let listed : u ≡ t = this ∙ ap (λ j. get_or trials j u) same ∙ get_or_default trials n u t short ∙ sym read in
      subst (λ (v : Trial (List F)). (slice_index_or lowest' i (pos 0) ≤ℤ level_of B levels v.point i) × (level_of B levels v.point i ≤ℤ slice_index_or highest' i (pos 0))) (sym listed) (low.1, high.1))
      (cases_lt k n)

  -- where the reach is on the grid all trials are
  pub all_reached : (lowest highest : List ℤ) → Reaches B levels N trials (length trials) lowest highest → ((i : ℕ) → i < N → InReach levels lowest highest i) → list_all (λ t. each_place B on_grid levels t.point N) trials ≡ true
  all_reached lowest highest R inside = all_from (λ t. each_place B on_grid levels t.point N) trials (λ k t l read. all_below_from (λ i. on_grid B (levels_at levels i) (figure_at B t.point i)) N (λ i small. let here = R k t l read i small in let ends = inside i small in grind (arith, ints, here.0, here.1, ends.0, ends.1)))

module _ {F : Type 0} (B : Bits F) (lines : List (Line F)) (few : length lines ≤ 6) (p : List F) (admitted : (grid_meaning B lines).admits p ≡ true) (levels : List Levels) (numbers : List ℕ) (N : ℕ) (all : length lines ≡ N)
    (numbered : numbers ≡ six_boxes (grid_meaning B lines) p)
    (levelled : (i : ℕ) → i < N → LevelsOf B (line_at B lines i) (slice_index numbers i) (levels_at levels i)) where
  module _ (q : List F) (zero : zero_from B N q ≡ true) (on : each_place B on_grid levels q N ≡ true) where
    on_at : (i : ℕ) → i < N → on_grid B (levels_at levels i) (figure_at B q i) ≡ true
    on_at = all_below_each (λ i. on_grid B (levels_at levels i) (figure_at B q i)) N on

    -- past the last objective there are zeros alone
    zero_there : (i : ℕ) → N ≤ i → i < 6 → B.is_zero (figure_at B q i) ≡ true
    zero_there i from l = ⊎_elim (λ t. absurd (both_ways (ltb i N) (le-ltb i N from) t)) (λ z. z) (or_cases (ltb i N) (B.is_zero (figure_at B q i)) (all_below_each (λ k. ltb k N || B.is_zero (figure_at B q k)) 6 zero i l))

    -- a trial whose levels are on the grid is admitted,
    on_it : (grid_meaning B lines).admits q ≡ true
    on_it = all_below_from (admits_at B lines q) 6 (λ i six.
        ⊎_elim (λ (l : i < N). (levelled i l).admitted (figure_at B q i) (on_at i l))
        (λ (past : N ≤ i). ap (λ L. L.admits (figure_at B q i)) (past_the_last B lines i (omega (arith, past, all))) ∙ zero_there i past six)
        (cases_lt i N))

    number : (i : ℕ) → i < N → slice_index numbers i ≡ (grid_meaning B lines).box i p
    number i l = ap (λ n. slice_index n i) numbered ∙ number_of (grid_meaning B lines) p i (omega (arith, l, few, all))

    -- and they tell how the boxes compare
    over_told : each_place B up_to levels q N ≡ at_least (grid_meaning B lines) p q
    over_told =
        below_alike (λ i. up_to B (levels_at levels i) (figure_at B q i)) (λ i. leb (box_at B lines q i) ((grid_meaning B lines).box i p)) N
        (λ i l. (levelled i l).most (figure_at B q i) (on_at i l) ∙ ap (leb (box_at B lines q i)) (number i l))
        ∙ over_places B lines few p q N (omega (arith, all)) on_it

    under_told : each_place B from_on levels q N ≡ at_least (grid_meaning B lines) q p
    under_told =
        below_alike (λ i. from_on B (levels_at levels i) (figure_at B q i)) (λ i. leb ((grid_meaning B lines).box i p) (box_at B lines q i)) N
        (λ i l. (levelled i l).least (figure_at B q i) (on_at i l) ∙ ap (λ n. leb n (box_at B lines q i)) (number i l))
        ∙ under_places B lines few p q N (omega (arith, all)) on_it

  -- so a look by levels is a look at the boxes
  pub scanned : (trials : List (Trial (List F))) → list_all (λ t. zero_from B N t.point) trials ≡ true → list_all (λ t. each_place B on_grid levels t.point N) trials ≡ true
      → look_by (λ t. each_place B up_to levels t.point N) (λ t. each_place B from_on levels t.point N) trials ≡ look_of (grid_meaning B lines) p trials
  scanned trials zeros on =
      look_alike (λ t. each_place B up_to levels t.point N) (λ t. each_place B from_on levels t.point N) (λ t. at_least (grid_meaning B lines) p t.point) (λ t. at_least (grid_meaning B lines) t.point p) trials
      (λ i t l read. over_told t.point (each_listed (λ t. zero_from B N t.point) trials i t l read zeros) (each_listed (λ t. each_place B on_grid levels t.point N) trials i t l read on))
      (λ i t l read. under_told t.point (each_listed (λ t. zero_from B N t.point) trials i t l read zeros) (each_listed (λ t. each_place B on_grid levels t.point N) trials i t l read on))
