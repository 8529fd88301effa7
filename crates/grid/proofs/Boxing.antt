-- How the boxes of points compare, place by place.
use Rattle.std.proofs.Common.{◌≡◌, ℕ, zero, suc, ◌+◌, ◌<◌, ◌≤◌, Bool, true, false, cond, ◌&&◌, leb, List, length, sym, refl, ap, ◌∙◌, ⊎_elim, add-one, arith}
use Rattle.std.proofs.lemmas.Bool.{cases_lt, cond-true}
use Rattle.space.specs.Boxes.{at_least, each_at_least}
use Rattle.space.proofs.Looks.{each_alike, none_past}
use Rattle.space.proofs.Tests.{and_told}
use Rattle.grid.specs.Bits.{Bits}
use Rattle.grid.specs.Line.{Line}
use Rattle.grid.specs.Ranges.{box_at_least, box_at_most}
use Rattle.grid.specs.Space.{admits_at, all_below, box_at, figure_at, grid_meaning, line_at}
use Rattle.grid.specs.Laws.{past_the_last}

-- no place
pub below_none : (f : ℕ → Bool) → true ≡ all_below f 0
unfolding all_below
below_none f = refl

-- one place more
pub below_more : (f : ℕ → Bool) (n : ℕ) → (all_below f n && f n) ≡ all_below f (n + 1)
unfolding all_below
below_more f n =
    (elim (all_below f n) as (λ a. (a && f n) ≡ (f n && a)) [
      | true ↦ (elim (f n) as (λ b. b ≡ (b && true)) [ true ↦ refl | false ↦ refl ])
      | false ↦ (elim (f n) as (λ b. false ≡ (b && false)) [ true ↦ refl | false ↦ refl ])
    ])
    ∙ ap (all_below f) (sym (add-one n))

-- the place at hand passes too, or not
pub below_next : (f : ℕ → Bool) (i : ℕ) (acc x : Bool) → acc ≡ all_below f i → x ≡ f i → (acc && x) ≡ all_below f (i + 1)
below_next f i acc x so_far here = ap (λ a. a && x) so_far ∙ ap (λ y. all_below f i && y) here ∙ below_more f i

-- the same tests, place by place
pub below_alike : (f g : ℕ → Bool) (n : ℕ) → ((k : ℕ) → k < n → f k ≡ g k) → all_below f n ≡ all_below g n
unfolding all_below
below_alike f g zero h = refl
below_alike f g (suc n) h = ap (λ b. b && all_below f n) (h n (omega arith)) ∙ ap (λ b. g n && b) (below_alike f g n (λ k l. h k (omega arith)))

-- places more that all pass
pub below_past : (f : ℕ → Bool) (n m : ℕ) → n ≤ m → ((k : ℕ) → n ≤ k → k < m → f k ≡ true) → all_below f n ≡ all_below f m
unfolding all_below
below_past f n zero l h = let z : n ≡ 0 = omega (arith, l) in ap (all_below f) z
below_past f n (suc m) l h =
    ⊎_elim
    (λ (in' : n < suc m). below_past f n m (omega arith) (λ k from lt. h k from (omega arith)) ∙ sym (ap (λ b. b && all_below f m) (h m (omega arith) (omega arith))))
    (λ (e : suc m ≤ n). let z : n ≡ suc m = omega arith in ap (all_below f) z)
    (cases_lt n (suc m))

-- two tests at each place
below_both : (f g : ℕ → Bool) (n : ℕ) → all_below (λ i. f i && g i) n ≡ (all_below f n && all_below g n)
unfolding all_below
below_both f g zero = refl
below_both f g (suc n) =
    ap (λ x. (f n && g n) && x) (below_both f g n)
    ∙ (elim (f n) as (λ a. ((a && g n) && (all_below f n && all_below g n)) ≡ ((a && all_below f n) && (g n && all_below g n))) [
      | true ↦ (elim (all_below f n) as (λ b. (g n && (b && all_below g n)) ≡ (b && (g n && all_below g n))) [
        | true ↦ refl
        | false ↦ (elim (g n) as (λ b. (b && false) ≡ false) [ true ↦ refl | false ↦ refl ])
      ])
      | false ↦ refl
    ])

-- numbers are compared one by one
below_each : (a b : ℕ → ℕ) (n : ℕ) → all_below (λ i. leb (b i) (a i)) n ≡ each_at_least n a b
unfolding all_below
below_each a b zero = refl
below_each a b (suc n) = ap (λ x. leb (b n) (a n) && x) (below_each a b n)

-- and so they are where they are told by others
compared : (a b a' b' : ℕ → ℕ) (n : ℕ) → ((i : ℕ) → i < n → a i ≡ a' i) → ((i : ℕ) → i < n → b i ≡ b' i) → all_below (λ i. leb (b i) (a i)) n ≡ each_at_least n a' b'
compared a b a' b' n ea eb = below_each a b n ∙ each_alike n a b a' b' ea eb

module _ {F : Type 0} (B : Bits F) (lines : List (Line F)) (few : length lines ≤ 6) where
  -- past the last objective all numbers are zero
  pub nothing_past : (x : List F) (i : ℕ) → length lines ≤ i → (grid_meaning B lines).box i x ≡ 0
  nothing_past x i past =
      let none : box_at B lines x i ≡ 0 = ap (λ l. l.box (figure_at B x i)) (past_the_last B lines i past) in
      elim (all_below (admits_at B lines x) 6) as (λ b. cond b (box_at B lines x i) 0 ≡ 0) [ true ↦ none | false ↦ refl ]

  module _ (p q : List F) where
    -- on the grid a box number is the one on the line
    pub boxed : (grid_meaning B lines).admits q ≡ true → (i : ℕ) → box_at B lines q i ≡ (grid_meaning B lines).box i q
    boxed on i = sym (cond-true ((grid_meaning B lines).admits q) (box_at B lines q i) 0 on)

    -- on the grid the boxes compare as the numbers on the lines do, in all objectives and any places past them
    pub over_places : (n : ℕ) → length lines ≤ n → (grid_meaning B lines).admits q ≡ true → all_below (λ i. leb (box_at B lines q i) ((grid_meaning B lines).box i p)) n ≡ at_least (grid_meaning B lines) p q
    over_places n enough on =
        let M = grid_meaning B lines in
        compared (λ i. M.box i p) (box_at B lines q) (λ i. M.box i p) (λ i. M.box i q) n (λ i l. refl) (λ i l. boxed on i) ∙ none_past M nothing_past p q n enough

    pub under_places : (n : ℕ) → length lines ≤ n → (grid_meaning B lines).admits q ≡ true → all_below (λ i. leb ((grid_meaning B lines).box i p) (box_at B lines q i)) n ≡ at_least (grid_meaning B lines) q p
    under_places n enough on =
        let M = grid_meaning B lines in
        compared (box_at B lines q) (λ i. M.box i p) (λ i. M.box i q) (λ i. M.box i p) n (λ i l. boxed on i) (λ i l. refl) ∙ none_past M nothing_past q p n enough

    -- the figures of q are of boxes up to those of p where q is on the grid and p's box is at least its box
    pub all_most : all_below (λ i. box_at_most (line_at B lines i) ((grid_meaning B lines).box i p) (figure_at B q i)) 6 ≡ ((grid_meaning B lines).admits q && at_least (grid_meaning B lines) p q)
    all_most =
        let M = grid_meaning B lines in
        below_both (admits_at B lines q) (λ i. leb (box_at B lines q i) (M.box i p)) 6
        ∙ and_told (M.admits q) (all_below (λ i. leb (box_at B lines q i) (M.box i p)) 6) (at_least M p q) (over_places 6 few)

    -- and of boxes from those of p on where its box is at least p's
    pub all_least : all_below (λ i. box_at_least (line_at B lines i) ((grid_meaning B lines).box i p) (figure_at B q i)) 6 ≡ ((grid_meaning B lines).admits q && at_least (grid_meaning B lines) q p)
    all_least =
        let M = grid_meaning B lines in
        below_both (admits_at B lines q) (λ i. leb (M.box i p) (box_at B lines q i)) 6
        ∙ and_told (M.admits q) (all_below (λ i. leb (M.box i p) (box_at B lines q i)) 6) (at_least M q p) (under_places 6 few)
