-- The worked figures of the archive, as statements about the definitions.
use Rattle.std.specs.Prelude.{◌≡◌, ℕ, ◌-◌, List, [], ◌∷◌, map, ℤ, pos, Ok, Err, Result}
use Rattle.std.specs.Result.{result_map_both}
use Rattle.space.specs.declared.tagged.Trial.{Trial}
use Rattle.space.specs.Meaning.{Meaning}
use Rattle.grid.specs.Bits.{signed_bits}
use Rattle.grid.specs.Space.{grid_meaning}
use Rattle.step.specs.declared.scaling.Scale.{Scale}
use Rattle.step.specs.declared.scaling.Direction.TheVariants.{LargerIsBetter}
use Rattle.step.specs.Rule.{step_line}
use Rattle.history.specs.Numbers.{verdict_number, denial_number}
use Rattle.history.specs.Reports.{first_report}
use Rattle.history.specs.BlockTrials.{TrialAt}
use Rattle.history.specs.State.{members_after}
use Rattle.history.specs.Feeding.{tally}
use Rattle.history.specs.Answers.{offer_answer}
use Rattle.history.specs.RowNeed.{row_need}

-- the figures from 0 up to n - 1 in steps of 1, so that there are n boxes
abbrev pub boxes : ℕ → Scale
boxes n = record { direction = LargerIsBetter; low = pos 0; high = pos (n - 1); step = 1 }

-- the step space of objectives with these extents
abbrev pub steps_of : List ℕ → Meaning (List ℤ)
steps_of extents = grid_meaning signed_bits (map (λ n. step_line (boxes n)) extents)

-- two objectives from 0 to 9
abbrev pub square : Meaning (List ℤ)
square = steps_of (10 ∷ 10 ∷ [])

-- a trial with this tag and these two figures
abbrev pub at : ℕ → ℤ → ℤ → Trial (List ℤ)
at tag x y = record { point = x ∷ y ∷ pos 0 ∷ pos 0 ∷ pos 0 ∷ pos 0 ∷ []; tag = tag }

-- what an offer is answered, in numbers: the verdict and how many members went, or the denial
abbrev pub answered : ℕ → List (Trial (List ℤ)) → Trial (List ℤ) → Result (ℕ × ℕ) ℕ
answered rows members t = result_map_both (λ o. (verdict_number o.verdict, o.displaced)) denial_number (offer_answer square rows members rows rows t)

-- the tags of the members once these trials were judged
abbrev pub tags_after : ℕ → List (Trial (List ℤ)) → List (Trial (List ℤ)) → List ℕ
tags_after rows members ts = map (λ r. r.tag) (members_after square rows members ts)

-- four trials that are all members, and two that fill an archive of two rows
abbrev pub four : List (Trial (List ℤ))
four = at 1 (pos 1) (pos 9) ∷ at 2 (pos 3) (pos 3) ∷ at 3 (pos 5) (pos 1) ∷ at 4 (pos 9) (pos 0) ∷ []

abbrev pub two : List (Trial (List ℤ))
two = at 1 (pos 1) (pos 9) ∷ at 2 (pos 9) (pos 0) ∷ []

-- the trials of a block, each at its place; the second is off the grid
abbrev pub block : List (TrialAt (List ℤ))
block =
    record { place = 8; read = at 7 (pos 1) (pos 9) }
    ∷ record { place = 22; read = at 8 (pos 10) (pos 3) }
    ∷ record { place = 36; read = at 9 (pos 9) (pos 0) }
    ∷ record { place = 50; read = at 10 (pos 5) (pos 5) }
    ∷ []

-- what a feed of it is answered, in numbers: entered, passed over, denied and displaced, and the first denied trial's number, layer and place
abbrev pub fed : ℕ → List (Trial (List ℤ)) → List ℕ
fed rows members =
    let f = tally square rows members block in
    let r = first_report f.first in
    f.entered ∷ f.passed ∷ f.denied ∷ f.displaced ∷ r.number ∷ r.layer ∷ r.place ∷ []

-- row need; a trial that takes the place of two members; a full archive that denies one trial and takes another; and three feeds
pub record ArchiveFigures : Type 0 where
  pub two_extents : row_need (steps_of (20 ∷ 17 ∷ [])) ≡ 17
  pub three_extents : row_need (steps_of (6 ∷ 6 ∷ 4 ∷ [])) ≡ 24
  pub one_objective : (M : Meaning (List ℤ)) → M.objectives ≡ 1 → row_need M ≡ 1
  pub four_enter : tags_after 10 [] four ≡ 1 ∷ 2 ∷ 3 ∷ 4 ∷ []
  pub displaces : answered 10 four (at 5 (pos 6) (pos 4)) ≡ Ok (2, 2)
  pub rows_then : tags_after 10 four (at 5 (pos 6) (pos 4) ∷ []) ≡ 1 ∷ 4 ∷ 5 ∷ []
  pub two_fill : tags_after 2 [] two ≡ 1 ∷ 2 ∷ []
  pub denied : answered 2 two (at 3 (pos 5) (pos 5)) ≡ Err 6
  pub yet_enters : answered 2 two (at 4 (pos 9) (pos 1)) ≡ Ok (2, 1)
  pub rows_last : tags_after 2 two (at 4 (pos 9) (pos 1) ∷ []) ≡ 1 ∷ 4 ∷ []
  pub three_enter : fed 10 [] ≡ 3 ∷ 0 ∷ 1 ∷ 0 ∷ 5 ∷ 3 ∷ 22 ∷ []
  pub one_finds_no_row : fed 2 (at 1 (pos 0) (pos 8) ∷ []) ≡ 2 ∷ 0 ∷ 2 ∷ 1 ∷ 5 ∷ 3 ∷ 22 ∷ []
  pub three_passed_over : fed 2 (at 1 (pos 9) (pos 9) ∷ []) ≡ 0 ∷ 3 ∷ 1 ∷ 0 ∷ 5 ∷ 3 ∷ 22 ∷ []
