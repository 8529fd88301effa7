-- Spans: points by the numbers that their bytes say.
use Rattle.std.specs.Prelude.{◌≡◌, ℕ, zero, suc, ◌<◌, Bool, true, ◌&&◌, List, drop, length, ℤ, pos, int_le, slice_index_or}
use Rattle.std.specs.Int.{w32, cast_signed}
use Rattle.word.specs.Word.{Bytes, number_at}
use Rattle.space.specs.Meaning.{Meaning}
use Rattle.space.specs.Recording.{Recording}
use Rattle.space.specs.Boxes.{at_least}
use Rattle.space.specs.declared.spans.Span.{Span}
use Rattle.space.specs.declared.spans.Spans.{Spans}

-- the number that the four bytes of place i say, as a signed one
abbrev pub signed_at : List ℕ → ℕ → ℤ
signed_at bs i = cast_signed w32 (number_at bs i)

-- the number is in the span at place i
abbrev pub in_span : Span → ℕ → ℤ → Bool
in_span s i v = int_le (slice_index_or s.from i (pos 0)) v && int_le v (slice_index_or s.to i (pos 0))

-- each of the first k numbers of these bytes is
abbrev pub each_in : ℕ → Span → List ℕ → Bool
each_in zero s bs = true
each_in (suc k) s bs = in_span s k (signed_at bs k) && each_in k s bs

-- the spans of p's box, where p is on the grid: all numbers of a point's bytes are in the one where the point is on the grid and p's box is at
-- least its box, and in the other where it is on the grid and its box is at least p's
pub record SpansOf {P : Type 0} (M : Meaning P) (R : Recording P) (p : P) (s : Spans) : Type 0 where
  pub on : M.admits p ≡ true
  pub most : (bs : List ℕ) → Bytes bs → length bs ≡ R.width → each_in M.objectives s.most bs ≡ (M.admits (R.reads bs) && at_least M p (R.reads bs))
  pub least : (bs : List ℕ) → Bytes bs → length bs ≡ R.width → each_in M.objectives s.least bs ≡ (M.admits (R.reads bs) && at_least M (R.reads bs) p)

-- the spans that stand at the places from this one on
abbrev pub spans_from : ℕ → Spans → Spans
spans_from at s = record { most = record { from = drop at s.most.from; to = drop at s.most.to }; least = record { from = drop at s.least.from; to = drop at s.least.to } }

-- two spans that have the same ends at the first n places
abbrev pub Alike : ℕ → Span → Span → Type 0
Alike n s s' =
    (i : ℕ) → i < n
    → (slice_index_or s.from i (pos 0) ≡ slice_index_or s'.from i (pos 0)) × (slice_index_or s.to i (pos 0) ≡ slice_index_or s'.to i (pos 0))
