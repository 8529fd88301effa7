-- A saved block is fed: its trials are the members that it was made of.
use Rattle.std.proofs.Common.{◌≡◌, ℕ, ◌+◌, ◌-◌, ◌*◌, ◌/◌, ◌^◌, ◌<◌, ◌≤◌, true, eqb, List, [], ◌∷◌, map, length, drop, Ok, Err, refl, ap, ◌∙◌, mod-lt, mul-le-mul_left, div-add-mod', le-div_iff_mul-le, mul-suc, arith, length-append, length-take}
use native.Mathlib.Nat.{mul-div-le}
use Rattle.std.specs.List.{flat_map, AllByRecursion}
use Rattle.std.specs.Result.{result_map_both}
use Rattle.std.proofs.ByRecursion.{All-drop, All-map, All-take, All-weaker}
use Rattle.std.proofs.lemmas.Bool.{cond_both, cond-true, eq-eqb, eqb-true}
use Rattle.log_block.specs.Items.{item_bytes, item_size}
use Rattle.log_block.specs.Block.{front}
use Rattle.log_block.specs.Theorems.{Holds, placed_from}
use Rattle.log_block.proofs.Back.{reads_back}
use Rattle.space.specs.Meaning.{Meaning}
use Rattle.space.specs.Recording.{Recording, as_wide, read_point, blank_point}
use Rattle.space.specs.declared.tagged.Trial.{Trial}
use Rattle.history.specs.declared.faults.FeedFault.TheVariants.{StrangeRows}
use Rattle.history.specs.BlockTrials.{TrialAt, trials_of, block_trials}
use Rattle.history.specs.Saving.{per_block, block_count, item_for, part, saved_block}
use Rattle.history.specs.Checks.{feed_check}
use Rattle.history.specs.State.{on_grid}
use Rattle.history.specs.Reports.{from_log}
use Rattle.history.specs.RoundTrip.{RecordedLaws}

-- the blocks have room for all members
pub enough_blocks : (q n : ℕ) → 1 ≤ q → n ≤ block_count q n * q
enough_blocks q n l =
    cond_both (eqb n 0) 1 ((n + (q - 1)) / q) (λ b. n ≤ b * q)
    (λ e. let z = eqb-true n 0 e in omega arith)
    (λ e. omega (arith, div-add-mod' (n + (q - 1)) q, mod-lt (n + (q - 1)) l))

-- a member that can be saved: it is on the grid, its tag has 32 bits, and its point is writable
abbrev pub Saves : {P : Type 0} → Meaning P → Recording P → Trial P → Type 0
Saves M R r = (on_grid M r ≡ true) × ((r.tag < 2 ^ 32) × (R.writable r.point ≡ true))

-- what a feed finds in block k of the members
pub found : {P : Type 0} → Meaning P → Recording P → List (Trial P) → ℕ → List (TrialAt P)
found M R ms k = trials_of (read_point R) (placed_from 8 (map (item_for R) (part (per_block M) ms k)))

module _ {P : Type 0} (M : Meaning P) (R : Recording P) (laws : RecordedLaws M R) where
  pub some_room : 1 ≤ per_block M
  some_room = let few = laws.lawful.few.1 in (le-div_iff_mul-le {k = 6 + 4 * M.objectives} {x = 1} {y = 500} (omega arith)).1 (omega arith)

  -- a writable point reads back
  read_back : (p : P) → R.writable p ≡ true → read_point R (R.writes p) ≡ p
  read_back p a =
      cond-true (as_wide R (R.writes p)) (R.reads (R.writes p)) (blank_point R) (eq-eqb (length (R.writes p)) R.width (laws.faithful.long p))
      ∙ laws.faithful.reads_back p a

  -- the records of members read as these members
  items_read : (at : ℕ) (rs : List (Trial P)) → AllByRecursion (Saves M R) rs → map (λ x. x.read) (trials_of (read_point R) (placed_from at (map (item_for R) rs))) ≡ rs
  items_read at [] s = refl
  items_read at (r ∷ rs) s =
      let items = placed_from (at + item_size (item_for R r)) (map (item_for R) rs) in
      ap (λ p. record { point = p; tag = r.tag } ∷ map (λ x. x.read) (trials_of (read_point R) items)) (read_back r.point s.0.1.1)
      ∙ ap (λ l. r ∷ l) (items_read (at + item_size (item_for R r)) rs s.1)

  items_held : (rs : List (Trial P)) → AllByRecursion (Saves M R) rs → AllByRecursion (Holds M.objectives) (map (item_for R) rs)
  items_held rs s =
      All-map (Holds M.objectives) (item_for R) rs
      (All-weaker (Saves M R) (λ r. Holds M.objectives (item_for R r)) (λ r h. (h.1.0, laws.faithful.long r.point ∙ laws.four_each)) rs s)

  items_long : (rs : List (Trial P)) → length (flat_map item_bytes (map (item_for R) rs)) ≡ (6 + 4 * M.objectives) * length rs
  items_long [] = omega arith
  items_long (r ∷ rs) =
      let bytes = R.writes r.point in
      omega (arith, length-append bytes (flat_map item_bytes (map (item_for R) rs)), laws.faithful.long r.point, laws.four_each, items_long rs, mul-suc (6 + 4 * M.objectives) (length rs))

  items_fit : (number : ℕ) (rs : List (Trial P)) → length rs ≤ per_block M → length (front M.objectives number (map (item_for R) rs)) ≤ 508
  items_fit number rs l =
      let size = 6 + 4 * M.objectives in
      omega (arith, items_long rs, mul-le-mul_left size l, mul-div-le 500 size)

  module _ (ms : List (Trial P)) (savable : AllByRecursion (Saves M R) ms) (k : ℕ) where
    pub part_savable : AllByRecursion (Saves M R) (part (per_block M) ms k)
    part_savable =
        All-take (Saves M R) (per_block M) (drop (k * per_block M) ms) (All-drop (Saves M R) (k * per_block M) ms savable)

    -- the trials of block k are the members of that part
    pub found_are : map (λ x. x.read) (found M R ms k) ≡ part (per_block M) ms k
    unfolding found
    found_are = items_read 8 (part (per_block M) ms k) part_savable

    -- and block k passes the check of a feed
    pub found_passes : (rows : ℕ) → feed_check M (read_point R) rows rows (saved_block M R ms k) ≡ Ok (found M R ms k)
    unfolding saved_block found
    found_passes rows =
        let rs = part (per_block M) ms k in
        let fits : length rs ≤ per_block M = omega (arith, length-take (per_block M) (drop (k * per_block M) ms)) in
        cond-true (eqb rows rows) (block_trials M (read_point R) (saved_block M R ms k)) (Err StrangeRows) (eq-eqb rows rows refl)
        ∙ ap (result_map_both (trials_of (read_point R)) from_log) (reads_back M.objectives k (map (item_for R) rs) (items_held rs part_savable) (items_fit k rs fits))
