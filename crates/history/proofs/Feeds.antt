-- Feeding all saved blocks, one after the other.
use Rattle.std.proofs.Common.{◌≡◌, ℕ, zero, suc, ◌+◌, ◌*◌, ◌≤◌, min, true, List, [], ◌∷◌, ◌++◌, map, reverse, length, take, drop, filter, sym, refl, ap, ◌∙◌, subst, suc-mul, zero-mul, add-one, arith, length-append, length-drop, length-take, take-add}
use mathlib.Core.List.{map-map, reverse-append, reverse-reverse}
use Rattle.std.specs.List.{range_with_len, AllByRecursion}
use Rattle.std.specs.Result.{result_map_both, result_unwrap_or}
use Rattle.std.proofs.lemmas.List.FromFn.{map-range_with_len_more}
use Rattle.std.proofs.ByRecursion.{All-weaker}
use Rattle.std.proofs.lemmas.List.{length-map, take_all}
use Rattle.space.specs.Meaning.{Meaning}
use Rattle.space.specs.Recording.{Recording, read_point}
use Rattle.space.specs.declared.tagged.Trial.{Trial}
use Rattle.history.specs.declared.answers.Answer.{Answer}
use Rattle.history.specs.declared.answers.Answer.TheVariants.{Fed}
use Rattle.history.specs.Lists.{Pairwise}
use Rattle.history.specs.Comparing.{Apart}
use Rattle.history.specs.Calls.{Call, Event}
use Rattle.history.specs.Calls.Call.{feed}
use Rattle.history.specs.Saving.{per_block, block_count, in_block, part, saved_block, saved_blocks}
use Rattle.history.specs.State.{brought, on_grid, state, state_of, members_after, members_called}
use Rattle.history.specs.Feeding.{all_entered, tally}
use Rattle.history.specs.Answers.{answer_of, told_feed}
use Rattle.history.specs.Truthful.{TruthfulOf}
use Rattle.history.specs.RoundTrip.{RecordedLaws}
use Rattle.history.specs.Theorems.{RoundTrip}
use Rattle.history.proofs.Membership.{each_all}
use Rattle.history.proofs.Pairs.{pairwise_take}
use Rattle.history.proofs.Steps.{holds}
use Rattle.history.proofs.Sums.{members_of_all}
use Rattle.history.proofs.Entering.{all_enter}
use Rattle.history.proofs.Returning.{Saves, enough_blocks, some_room, part_savable, found, found_passes, found_are}

-- what comes last of a count comes first the other way round
newest : {A : Type 0} (f : ℕ → A) (j : ℕ) → reverse (map f (range_with_len 0 (suc j))) ≡ f j ∷ reverse (map f (range_with_len 0 j))
newest f j =
    ap reverse (ap (λ n. map f (range_with_len 0 n)) (sym (add-one j)) ∙ map-range_with_len_more f 0 j j (omega arith))
    ∙ reverse-append (map f (range_with_len 0 j)) (f j ∷ [])

module _ {P : Type 0} (M : Meaning P) (R : Recording P) (laws : RecordedLaws M R) (rows : ℕ) (ms : List (Trial P))
    (savable : AllByRecursion (Saves M R) ms) (apart : Pairwise (Apart M) ms) (fits : length ms ≤ rows) where
  -- the members before block k
  abbrev front : ℕ → List (Trial P)
  front k = take (k * per_block M) ms

  -- the call that feeds block k, and its answer
  abbrev fed : ℕ → Call P
  fed k = feed rows (saved_block M R ms k)

  abbrev entered : ℕ → Answer
  entered k = Fed (all_entered (in_block (per_block M) (length ms) k))

  -- with the members before a block, its feed gives the members before the next
  one_fed : (k : ℕ) → (answer_of M (read_point R) rows (front k) (fed k) ≡ entered k) × (members_called M (read_point R) rows (front k) (fed k) ≡ front (suc k))
  one_fed k =
      let q = per_block M in
      let xs = found M R ms k in
      let are = found_are M R laws ms savable k in
      let passes = found_passes M R laws ms savable k rows in
      let joins : front k ++ map (λ x. x.read) xs ≡ front (suc k) = ap (λ l. front k ++ l) are ∙ sym (take-add (k * q) q ms) ∙ ap (λ n. take n ms) (sym (suc-mul k q)) in
      let good : AllByRecursion (λ t. on_grid M t ≡ true) (map (λ x. x.read) xs) = subst (AllByRecursion (λ t. on_grid M t ≡ true)) (sym are) (All-weaker (Saves M R) (λ t. on_grid M t ≡ true) (λ t s. s.0) (part q ms k) (part_savable M R laws ms savable k)) in
      let long : length xs ≡ in_block q (length ms) k = sym (length-map xs (λ x. x.read)) ∙ ap length are ∙ length-take q (drop (k * q) ms) ∙ ap (min q) (length-drop (k * q) ms) in
      let room : length (front k) + length xs ≤ rows = omega (arith, length-append (front k) (map (λ x. x.read) xs), length-map xs (λ x. x.read), ap length joins, length-take (suc k * q) ms) in
      let all = all_enter M laws.lawful rows (front k) xs (subst (Pairwise (Apart M)) (sym joins) (pairwise_take (Apart M) (suc k * q) ms apart)) good room in (
        ap (λ c. told_feed (result_map_both (tally M rows (front k)) (λ f. f) c)) passes
            ∙ ap Fed all.0
            ∙ ap (λ n. Fed (all_entered n)) long,
        ap (λ c. members_after M rows (front k) (filter (on_grid M) (map (λ x. x.read) (result_unwrap_or c [])))) passes
            ∙ all.1
            ∙ joins,
      )

  -- the events of feeding the first j blocks, the newest first
  all_fed : (j : ℕ) (es : List (Event P)) → map (λ e. e.call) es ≡ reverse (map fed (range_with_len 0 j)) → TruthfulOf M (read_point R) rows es
      → ((state_of M (read_point R) rows es).members ≡ front j) × (map (λ e. e.answer) es ≡ reverse (map entered (range_with_len 0 j)))
  unfolding state_of
  all_fed zero [] calls truth = (ap (λ n. take n ms) (sym (zero-mul (per_block M))), refl)
  all_fed zero (e ∷ es) calls truth = let z : ◌≡◌ {A = ℕ} 0 1 = cc in absurd (omega arith)
  all_fed (suc j) [] calls truth =
      let more = calls ∙ newest fed j in
      let z : ◌≡◌ {A = ℕ} 0 1 = cc in
      absurd (omega arith)
  all_fed (suc j) (e ∷ es) calls truth =
      let more : e.call ∷ map (λ e. e.call) es ≡ fed j ∷ reverse (map fed (range_with_len 0 j)) = calls ∙ newest fed j in
      let here : e.call ≡ fed j = cc in
      let rest : map (λ e. e.call) es ≡ reverse (map fed (range_with_len 0 j)) = cc in
      let before = all_fed j es rest truth.0 in
      let now = one_fed j in
      let s = state_of M (read_point R) rows es in (
        members_of_all M rows s (brought M (read_point R) rows e.call)
            ∙ ap (λ c. members_called M (read_point R) rows s.members c) here
            ∙ ap (λ l. members_called M (read_point R) rows l (fed j)) before.0
            ∙ now.1,
        ap (λ a. a ∷ map (λ e. e.answer) es) (truth.1 ∙ ap (λ c. answer_of M (read_point R) rows s.members c) here ∙ ap (λ l. answer_of M (read_point R) rows l (fed j)) before.0 ∙ now.0)
            ∙ ap (λ l. entered j ∷ l) before.1
            ∙ sym (newest entered j),
      )

pub round_trip : {P : Type 0} → RoundTrip P
round_trip M R laws reads h saved k back =
    let ms = (state M reads h).members in
    let S = (holds M laws.lawful h.rows reads h.events).sound in
    let savable : AllByRecursion (Saves M R) ms = each_all (Saves M R) ms (λ r m. let on = S.admitted r (S.own r m) in (on, (saved.tags r m, saved.writable r m on))) in
    let n = block_count (per_block M) (length ms) in
    let fed : ℕ → Call _ = λ i. feed k.rows (saved_block M R ms i) in
    let calls : map (λ e. e.call) k.events ≡ reverse (map fed (range_with_len 0 n)) = sym (reverse-reverse (map (λ e. e.call) k.events)) ∙ ap reverse (back.feeds ∙ map-map (feed k.rows) (saved_block M R ms) (range_with_len 0 n)) in
    let all = all_fed M R laws k.rows ms savable S.apart back.enough n k.events calls back.truthful in
    let same : (state M (read_point R) k).members ≡ ms = all.0 ∙ take_all (n * per_block M) ms (enough_blocks (per_block M) (length ms) (some_room M R laws)) in
    record {
      same_members = same;
      same_blocks = ap (saved_blocks M R) same;
      entered = ap reverse all.1 ∙ reverse-reverse (map (λ i. Fed (all_entered (in_block (per_block M) (length ms) i))) (range_with_len 0 n));
    }
