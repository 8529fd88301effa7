-- A grid keeps the laws where each of its lines does.
use Rattle.std.proofs.Common.{◌≡◌, ℕ, ◌<◌, ◌≤◌, true, List, length, sym, refl, ap, subst, ⊎_elim, arith}
use Rattle.std.proofs.lemmas.List.{get_or_past}
use Rattle.std.proofs.lemmas.Bool.{cond-true, cond-false, cond_both, cases_lt}
use Rattle.std.specs.List.{AllByRecursion}
use Rattle.std.proofs.ByRecursion.{All-get_or}
use Rattle.space.specs.Meaning.{Lawful}
use Rattle.grid.specs.Bits.{Bits}
use Rattle.grid.specs.Line.{Line, LineLawful}
use Rattle.grid.specs.Space.{unused, line_at, figure_at, admits_at, no_worse_at, covers_at, box_at, grid_meaning}
use Rattle.grid.specs.Tests.{all_below_each, all_below_from}

-- an objective that is not there keeps the laws
unused_lawful : {F : Type 0} (B : Bits F) → LineLawful (unused B)
unused_lawful B = record {
  reflexive = λ v a. refl;
  transitive = λ u v w a b c d e. refl;
  monotone = λ v w a b d. omega arith;
  bounded = λ v a. omega arith;
  small = (omega arith, omega arith);
  covering = λ v w a b h. refl;
}

-- past the last line there is the unused one
pub past_the_last : {F : Type 0} (B : Bits F) (lines : List (Line F)) (i : ℕ) → length lines ≤ i → line_at B lines i ≡ unused B
past_the_last B lines i l = get_or_past lines i (unused B) l

module _ {F : Type 0} (B : Bits F) (lines : List (Line F)) (each : AllByRecursion LineLawful lines) where
  -- each line of six keeps the laws
  line_lawful : (i : ℕ) → LineLawful (line_at B lines i)
  line_lawful i = ⊎_elim (λ l. All-get_or LineLawful lines i (unused B) l each) (λ l. subst LineLawful (sym (past_the_last B lines i l)) (unused_lawful B)) (cases_lt i (length lines))

  -- an admitted point is so on each line
  admitted_at : (p : List F) → (grid_meaning B lines).admits p ≡ true → (i : ℕ) → i < 6 → admits_at B lines p i ≡ true
  admitted_at p a i six = all_below_each (admits_at B lines p) 6 a i six

  -- its boxes are those on the lines
  box_is : (p : List F) → (grid_meaning B lines).admits p ≡ true → (i : ℕ) → (grid_meaning B lines).box i p ≡ box_at B lines p i
  box_is p a i = cond-true ((grid_meaning B lines).admits p) (box_at B lines p i) 0 a

  -- and past the sixth there is no box
  box_past : length lines ≤ 6 → (p : List F) (i : ℕ) → 6 ≤ i → box_at B lines p i ≡ 0
  box_past few p i l = ap (λ (L : Line F). L.box (figure_at B p i)) (past_the_last B lines i (omega arith))

  pub lawful_grid : 1 ≤ length lines → length lines ≤ 6 → Lawful (grid_meaning B lines)
  lawful_grid one six = record {
    few = (one, six);
    reflexive = λ p a. all_below_from (no_worse_at B lines p p) 6 (λ i l. (line_lawful i).reflexive _ (admitted_at p a i l));
    transitive = λ p q r a b c d e. all_below_from (no_worse_at B lines p r) 6 (λ i l. (line_lawful i).transitive _ _ _ (admitted_at p a i l) (admitted_at q b i l) (admitted_at r c i l) (all_below_each (no_worse_at B lines p q) 6 d i l) (all_below_each (no_worse_at B lines q r) 6 e i l));
    monotone = λ p q a b d i.
        let at_p = box_is p a i in
        let at-q = box_is q b i in
        let here : i < 6 → box_at B lines q i ≤ box_at B lines p i = λ l. (line_lawful i).monotone _ _ (admitted_at p a i l) (admitted_at q b i l) (all_below_each (no_worse_at B lines p q) 6 d i l) in
        ⊎_elim (λ l. omega (arith, here l)) (λ l. omega (arith, box_past six q i l)) (cases_lt i 6);
    bounded = λ p a i.
        let at_p = box_is p a i in
        ⊎_elim (λ l. omega (arith, (line_lawful i).bounded _ (admitted_at p a i l))) (λ l. omega (arith, box_past six p i l, (line_lawful i).small.0)) (cases_lt i 6);
    small = λ i. (line_lawful i).small;
    covering = λ p q a b h. all_below_from (covers_at B lines p q) 6 (λ i l. (line_lawful i).covering _ _ (admitted_at p a i l) (admitted_at q b i l) (omega (arith, h i, box_is p a i, box_is q b i)));
    outside_box = λ p i l. cond_both ((grid_meaning B lines).admits p) (box_at B lines p i) 0 (λ n. n ≡ 0) (λ e. ap (λ (L : Line F). L.box (figure_at B p i)) (past_the_last B lines i l)) (λ e. refl);
    outside_extent = λ i l. ap (λ (L : Line F). L.extent) (past_the_last B lines i l);
    off_grid = λ p a i. cond-false ((grid_meaning B lines).admits p) (box_at B lines p i) 0 a;
  }
