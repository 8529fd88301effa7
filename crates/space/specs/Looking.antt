-- How a box lies to another, and to those of some trials.
use Rattle.std.specs.Prelude.{ℕ, suc, Bool, true, false, cond, not, ◌&&◌, ◌||◌, List, [], ◌∷◌, length, Option, Some, None, filter, ◌==◌, slice_index}
use Rattle.std.specs.List.{list_any}
use Rattle.space.specs.Meaning.{Meaning}
use Rattle.space.specs.Boxes.{at_least, each_at_least}
use Rattle.space.specs.declared.looking.Lie.{Lie}
use Rattle.space.specs.declared.looking.Look.{Look}
use Rattle.space.specs.declared.looking.Holders.{Holders}
use Rattle.space.specs.declared.looking.Holders.TheVariants.{Nobody, One, Several}
use Rattle.space.specs.declared.tagged.Trial.{Trial}

-- a box, by its six numbers, to another
abbrev pub lie_of : List ℕ → List ℕ → Lie
lie_of mine theirs = record { over = each_at_least 6 (slice_index mine) (slice_index theirs); under = each_at_least 6 (slice_index theirs) (slice_index mine) }

-- p's box to q's
abbrev pub lie_between : {P : Type 0} → Meaning P → P → P → Lie
lie_between M p q = record { over = at_least M p q; under = at_least M q p }

-- how many of these come before the first that passes the test
abbrev pub before_first : {A : Type 0} → (A → Bool) → List A → ℕ
before_first f [] = 0
before_first f (x ∷ xs) = cond (f x) 0 (suc (before_first f xs))

-- nobody passes the test, or one alone, at this place, or several do
abbrev pub holders_of : {A : Type 0} → (A → Bool) → List A → Holders
holders_of f xs = cond (length (filter f xs) == 0) Nobody (cond (length (filter f xs) == 1) (One (before_first f xs)) Several)

-- a look at a list by two tests: whether one of it passes the first test alone, who passes both, and whether one passes the second
abbrev pub look_by : {T : Type 0} → (T → Bool) → (T → Bool) → List T → Look
look_by over under ts = record {
  below = list_any (λ t. over t && not (under t)) ts;
  holders = holders_of (λ t. over t && under t) ts;
  shut = list_any under ts;
}

-- p's box dominates that of some of these trials; these have the same box; the box of some equals or dominates p's
abbrev pub look_of : {P : Type 0} → Meaning P → P → List (Trial P) → Look
look_of M p trials = look_by (λ t. at_least M p t.point) (λ t. at_least M t.point p) trials

-- so it is where p is on the grid
abbrev pub look_on : {P : Type 0} → Meaning P → P → List (Trial P) → Option Look
look_on M p trials = cond (M.admits p) (Some (look_of M p trials)) None

-- a look at no trial
abbrev pub look_at_none : Look
look_at_none = record { below = false; holders = Nobody; shut = false }

-- who passes, with one more, at place k, that passes or does not
abbrev pub holders_with : Holders → ℕ → Bool → Holders
holders_with holders k false = holders
holders_with Nobody k true = One k
holders_with (One first) k true = Several
holders_with Several k true = Several

-- what a look tells with one trial more, at place k, whose box the point's box lies to so
abbrev pub look_with : Look → ℕ → Lie → Look
look_with look k lie = record {
  below = look.below || (lie.over && not lie.under);
  holders = holders_with look.holders k (lie.over && lie.under);
  shut = look.shut || lie.under;
}
