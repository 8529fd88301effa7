-- Each figure of the archive computes.
use Rattle.std.proofs.Common.{◌≡◌, ℕ, ltb, List, ℤ, sym, refl, subst}
use Rattle.std.proofs.lemmas.Bool.{cond_both}
use Rattle.space.specs.Meaning.{Meaning}
use Rattle.grid.specs.Space.{all_below}
use Rattle.history.specs.Step.{judge}
use Rattle.history.specs.State.{members_after}
use Rattle.history.specs.Feeding.{tally}
use Rattle.history.specs.RowNeed.{product_but, first_largest}
use Rattle.worked.specs.Archives.{ArchiveFigures}

-- of one objective nothing is left
alone : (M : Meaning (List ℤ)) (n : ℕ) → n ≡ 1 → product_but M (first_largest M n) n ≡ 1
unfolding product_but first_largest
alone M n e =
    subst (λ k. product_but M (first_largest M k) k ≡ 1) (sym e)
    (cond_both (ltb (M.extent 0) (M.extent 0)) 0 0 (λ i. product_but M i 1 ≡ 1) (λ _. refl) (λ _. refl))

pub archive_figures : ArchiveFigures
unfolding all_below judge members_after tally product_but first_largest
archive_figures = record {
  two_extents = refl;
  three_extents = refl;
  one_objective = λ M e. alone M M.objectives e;
  four_enter = refl;
  displaces = refl;
  rows_then = refl;
  two_fill = refl;
  denied = refl;
  yet_enters = refl;
  rows_last = refl;
  three_enter = refl;
  one_finds_no_row = refl;
  three_passed_over = refl;
}
