-- What is known of the members: the spans of their boxes.
use Rattle.std.specs.Prelude.{◌≡◌, ℕ, ◌*◌, ◌<◌, ◌≤◌, ◌≢◌, ⊤, Bool, true, false, List, [], map, length, ℤ, pos, slice_index_or}
use Rattle.std.specs.List.{range_with_len}
use Rattle.space.specs.Meaning.{Meaning}
use Rattle.space.specs.Boxes.{at_least, same_box}
use Rattle.space.specs.Recording.{FourEach, Recording}
use Rattle.space.specs.Spans.{SpansOf, each_in}
use Rattle.space.specs.declared.spans.Span.{Span}
use Rattle.space.specs.declared.spans.Spans.{Spans}
use Rattle.space.specs.declared.tagged.Trial.{Trial}
use Rattle.history.specs.State.{on_grid}
use Rattle.archive.specs.declared.knowing.Ends.{Ends}
use Rattle.archive.specs.declared.knowing.Known.{Known}
use Rattle.archive.specs.declared.knowing.Glance.{Glance}
use Rattle.archive.specs.declared.knowing.Glance.TheVariants.{Shut, Rival, Unclear}

-- the numbers of member k, where those of each place stand together
abbrev pub column : List (List ℤ) → ℕ → List ℤ
column rows k = map (λ i. slice_index_or (slice_index_or rows i []) k (pos 0)) (range_with_len 0 6)

-- there is room for the numbers of 64 members at each place
abbrev pub AllLong : List (List ℤ) → Type 0
AllLong rows = (i : ℕ) → i < 6 → length (slice_index_or rows i []) ≡ 64

abbrev pub Roomy : Ends → Type 0
Roomy e = AllLong e.from × AllLong e.to

-- the span of member k, and both of its spans
abbrev pub span_at : Ends → ℕ → Span
span_at e k = record { from = column e.from k; to = column e.to k }

abbrev pub spans_at : Known → ℕ → Spans
spans_at known k = record { most = span_at known.most k; least = span_at known.least k }

-- what is known is so: the spans are those of the members' boxes, all of them
pub record Knows {P : Type 0} (M : Meaning P) (R : Recording P) (members : List (Trial P)) (known : Known) : Type 0 where
  pub all : known.count ≡ length members
  pub room : known.count ≤ 64
  pub objectives : known.objectives ≡ M.objectives
  pub four_each : FourEach M R
  pub each : (i : ℕ) (t : Trial P) → i < known.count → t ≡ slice_index_or members i t → SpansOf M R t.point (spans_at known i)

-- and so it is where the spans are known
abbrev pub KnowsIfTold : {P : Type 0} → Meaning P → Recording P → List (Trial P) → Known → Type 0
KnowsIfTold M R members known = known.told ≡ true → Knows M R members known

-- there is room for the members, and there are one to six objectives
abbrev pub Fitting : Known → Type 0
Fitting known = (known.count ≤ 64) × (1 ≤ known.objectives) × (known.objectives ≤ 6)

-- the trial is on the grid and shut out, and the member in this row decides alone whether it enters: there is no other that it can beat, and none whose box its
-- own dominates
abbrev pub MeetsAlone : {P : Type 0} → Meaning P → Trial P → ℕ → List (Trial P) → Type 0
MeetsAlone {P = P} M t row members =
    (on_grid M t ≡ true) × (row < length members) × ((m : Trial P) → m ≡ slice_index_or members row m → same_box M t.point m.point ≡ true)
    × ((k : ℕ) (m : Trial P) → k < length members → k ≢ row → m ≡ slice_index_or members k m → at_least M t.point m.point ≡ false)

-- all numbers of these bytes are in the one span of member k, and in the other
abbrev pub in_most : Known → List ℕ → ℕ → Bool
in_most known bs k = each_in known.objectives (span_at known.most k) bs

abbrev pub in_least : Known → List ℕ → ℕ → Bool
in_least known bs k = each_in known.objectives (span_at known.least k) bs

-- what a glance at these bytes tells: they are in the one span of some member, and in the other of none; or in both of one, and in the other of it
-- alone
abbrev pub Tells : Known → List ℕ → Glance → Type 0
Tells known bs Shut = (known.told ≡ true) × (length bs ≡ 4 * known.objectives) × ((k : ℕ) × ((k < known.count) × (in_most known bs k ≡ true))) × ((k : ℕ) → k < known.count → in_least known bs k ≡ false)
Tells known bs (Rival row) =
    (known.told ≡ true) × (length bs ≡ 4 * known.objectives) × (row < known.count) × (in_most known bs row ≡ true) × (in_least known bs row ≡ true)
    × ((k : ℕ) → k < known.count → k ≢ row → in_least known bs k ≡ false)
Tells known bs Unclear = ⊤
