-- The lines of a grid, by its rules.
use Rattle.std.proofs.Common.{◌≡◌, ℕ, ◌<◌, ◌≤◌, List, map, length, get_or, arith}
use Rattle.std.proofs.lemmas.List.{get_or-map, length-map}
use Rattle.grid.specs.Bits.{Bits}
use Rattle.grid.specs.Line.{Line}
use Rattle.grid.specs.Space.{unused, line_at}
use Rattle.grid.specs.Laws.{past_the_last}

module _ {A F : Type 0} (B : Bits F) (line : A → Line F) (axes : List A) where
  -- objective i has the line of its rule
  pub used : (i : ℕ) (d : A) → i < length axes → line_at B (map line axes) i ≡ line (get_or axes i d)
  used i d l = get_or-map line axes i d (unused B) l

  -- past the last objective no rule is asked
  pub past : (i : ℕ) → length axes ≤ i → line_at B (map line axes) i ≡ unused B
  past i l = past_the_last B (map line axes) i (omega (arith, length-map axes line))
