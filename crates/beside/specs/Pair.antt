-- Two spaces side by side, by their meanings and by their bytes.
use Rattle.std.specs.Prelude.{ℕ, ◌+◌, ◌-◌, Bool, false, cond, ◌&&◌, List, ◌++◌, map, take, drop, nat_le, nat_lt, Option, Some, None}
use Rattle.std.specs.List.{range_with_len}
use Rattle.space.specs.Meaning.{Meaning}
use Rattle.space.specs.Recording.{Recording, blank_point}
use Rattle.beside.specs.declared.pair.Beside.{Beside}

-- at most six objectives together
abbrev pub fit : {P Q : Type 0} → Meaning P → Meaning Q → Bool
fit M N = nat_le (M.objectives + N.objectives) 6

-- the first one's objectives in front; admitted, no worse and covering where both are
abbrev pub joined : {P Q : Type 0} → Meaning P → Meaning Q → Meaning (P × Q)
joined M N = record {
  objectives = M.objectives + N.objectives;
  admits = λ p. M.admits p.0 && N.admits p.1;
  no_worse = λ p q. M.no_worse p.0 q.0 && N.no_worse p.1 q.1;
  extent = λ i. cond (nat_lt i M.objectives) (M.extent i) (N.extent (i - M.objectives));
  box = λ i p. cond (M.admits p.0 && N.admits p.1) (cond (nat_lt i M.objectives) (M.box i p.0) (N.box (i - M.objectives) p.1)) 0;
  covers = λ p q. M.covers p.0 q.0 && N.covers p.1 q.1;
}

-- the first space alone, admitting nothing
abbrev pub first_alone : {P Q : Type 0} → Meaning P → Meaning (P × Q)
first_alone M = record {
  objectives = M.objectives;
  admits = λ p. false;
  no_worse = λ p q. M.no_worse p.0 q.0;
  extent = M.extent;
  box = λ i p. 0;
  covers = λ p q. M.covers p.0 q.0;
}

-- the meaning of a pair, of one that is refused too
abbrev pub pair_meaning : {P Q : Type 0} → Meaning P → Meaning Q → Meaning (P × Q)
pair_meaning M N = cond (fit M N) (joined M N) (first_alone M)

-- the first one's bytes in front
abbrev pub joined_bytes : {P Q : Type 0} → Recording P → Recording Q → Recording (P × Q)
joined_bytes R S = record {
  width = R.width + S.width;
  writable = λ p. R.writable p.0 && S.writable p.1;
  reads = λ bs. (R.reads (take R.width bs), S.reads (drop R.width bs));
  writes = λ p. R.writes p.0 ++ S.writes p.1;
}

-- the first one's bytes alone; the second point reads as from zero bytes, and nothing is writable
abbrev pub first_bytes : {P Q : Type 0} → Recording P → Recording Q → Recording (P × Q)
first_bytes R S = record {
  width = R.width;
  writable = λ p. false;
  reads = λ bs. (R.reads bs, blank_point S);
  writes = λ p. R.writes p.0;
}

-- the bytes of a pair, of one that is refused too
abbrev pub pair_recording : {P Q : Type 0} → Bool → Recording P → Recording Q → Recording (P × Q)
pair_recording fits R S = cond fits (joined_bytes R S) (first_bytes R S)

-- what a value of the type means, by the meanings of its two spaces, and how its points are bytes, by theirs
abbrev pub meaning_of : {A B P Q : Type 0} → (A → Meaning P) → (B → Meaning Q) → Beside A B → Meaning (P × Q)
meaning_of M N s = pair_meaning (M s.first) (N s.second)

abbrev pub recording_of : {A B P Q : Type 0} → (A → Meaning P) → (B → Meaning Q) → (A → Recording P) → (B → Recording Q) → Beside A B → Recording (P × Q)
recording_of M N R S s = pair_recording (fit (M s.first) (N s.second)) (R s.first) (S s.second)

-- the box numbers of both points in six objectives, those of the first in front, where both are on their grids
abbrev pub boxes_joined : {P Q : Type 0} → Meaning P → Meaning Q → P × Q → Option (List ℕ)
boxes_joined M N p = cond (M.admits p.0 && N.admits p.1) (Some (map (λ i. cond (nat_lt i M.objectives) (M.box i p.0) (N.box (i - M.objectives) p.1)) (range_with_len 0 6))) None
