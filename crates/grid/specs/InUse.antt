-- What a space rests on that holds its rules and asks the first n: it keeps the laws, and its admitted points are writable.
use Rattle.std.proofs.Common.{◌≡◌, ℕ, ◌*◌, ◌/◌, ◌<◌, ◌≤◌, true, ◌&&◌, ◌||◌, eqb, ltb, List, [], ◌∷◌, map, length, take, refl, ap, ◌∙◌, subst, ⊎_elim, arith, rules}
use Rattle.std.specs.List.{AllByRecursion}
use Rattle.std.proofs.ByRecursion.{All-map}
use Rattle.std.proofs.lemmas.List.{length-map, length-take-le}
use Rattle.std.proofs.lemmas.Bool.{and_from, cases_lt, eq-eqb, lt-ltb, or_left, or_right}
use Rattle.space.specs.Meaning.{Lawful}
use Rattle.grid.specs.Bits.{Bits, Exact, signed_bits, unsigned_bits}
use Rattle.grid.specs.Bytes.{all_held, sextuple, zero_from}
use Rattle.grid.specs.Line.{Line, LineLawful}
use Rattle.grid.specs.Space.{admits_at, figure_at, grid_meaning}
use Rattle.grid.specs.Laws.{lawful_grid, past_the_last}
use Rattle.grid.specs.Tests.{all_below_each, all_below_from}

-- the laws of the two kinds of figures
pub signed_exact : Exact signed_bits
signed_exact = search rules

pub unsigned_exact : Exact unsigned_bits
unsigned_exact = search rules

-- 32 bits hold zero
pub signed_zero_held : signed_bits.holds signed_bits.zero ≡ true
signed_zero_held = refl

pub unsigned_zero_held : unsigned_bits.holds unsigned_bits.zero ≡ true
unsigned_zero_held = refl

-- what holds of everything holds of each in a list
all_always : {X : Type 0} (P : X → Type 0) → ((x : X) → P x) → (xs : List X) → AllByRecursion P xs
all_always P h [] = tt
all_always P h (x ∷ xs) = (h x, all_always P h xs)

module _ {A F : Type 0} (B : Bits F) (line : A → Line F) (axes : List A) (n : ℕ) (enough : n ≤ length axes) where
  -- there are as many lines as rules in use
  pub lines_counted : length (map line (take n axes)) ≡ n
  lines_counted = length-map (take n axes) line ∙ length-take-le n axes enough

  -- the grid keeps the laws where each rule does
  pub lawful_rules : ((a : A) → LineLawful (line a)) → 1 ≤ n → n ≤ 6 → Lawful (grid_meaning B (map line (take n axes)))
  lawful_rules each one few =
      lawful_grid B (map line (take n axes))
      (All-map LineLawful line (take n axes) (all_always (λ a. LineLawful (line a)) each (take n axes)))
      (omega (arith, lines_counted))
      (omega (arith, lines_counted))

  -- past the last rule in use an admitted point is zero
  zero_past : (p : List F) → (grid_meaning B (map line (take n axes))).admits p ≡ true → (i : ℕ) → i < 6 → n ≤ i → B.is_zero (figure_at B p i) ≡ true
  zero_past p a i six past =
      subst
      (λ (L : Line F). L.admits (figure_at B p i) ≡ true)
      (past_the_last B (map line (take n axes)) i (omega (arith, lines_counted)))
      (all_below_each (admits_at B (map line (take n axes)) p) 6 a i six)

  -- and past it 32 bits hold its figures, as they hold those that were written
  written_held : Exact B → B.holds B.zero ≡ true → (p : List F) → (grid_meaning B (map line (take n axes))).admits p ≡ true → ((k : ℕ) → k < 4 * n → B.holds (figure_at B p (k / 4)) ≡ true) → all_held B p ≡ true
  written_held exact zero_held p a held =
      all_below_from (λ i. B.holds (figure_at B p i)) 6 (λ i six.
      ⊎_elim
      (λ in'.
      let place : 4 * i / 4 ≡ i = omega arith in
      subst (λ j. B.holds (figure_at B p j) ≡ true) place (held (4 * i) (omega arith)))
      (λ past. ap B.holds (exact.zero_alone (figure_at B p i) (zero_past p a i six past)) ∙ zero_held)
      (cases_lt i n))

  -- so that an admitted point of six figures is writable, where it is written
  pub writable_rules : Exact B → B.holds B.zero ≡ true → (p : List F) → length p ≡ 6 → ((k : ℕ) → k < 4 * n → B.holds (figure_at B p (k / 4)) ≡ true) → (grid_meaning B (map line (take n axes))).admits p ≡ true → sextuple B n p ≡ true
  writable_rules exact zero_held p six held a =
      and_from (eqb (length p) 6) (all_held B p && zero_from B n p) (eq-eqb (length p) 6 six)
      (and_from (all_held B p) (zero_from B n p) (written_held exact zero_held p a held)
      (all_below_from (λ i. ltb i n || B.is_zero (figure_at B p i)) 6 (λ i l.
      ⊎_elim
      (λ in'. or_left (ltb i n) (B.is_zero (figure_at B p i)) (lt-ltb i n in'))
      (λ past. or_right (ltb i n) (B.is_zero (figure_at B p i)) (zero_past p a i l past))
      (cases_lt i n))))
