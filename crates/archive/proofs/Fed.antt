-- What holds of a feed, by its checks and by the trials of its block.
use Rattle.std.proofs.Common.{◌≡◌, ℕ, zero, suc, ◌≤◌, eqb, List, [], ◌∷◌, map, length, take, get_or, Ok, Err, filter, Result, sym, refl, ap, ◌∙◌, arith}
use Rattle.std.specs.Result.{result_map_both, result_unwrap_or}
use Rattle.std.proofs.lemmas.Bool.{cond-true, cond-false, eq-eqb, ne_eqb, false≢true}
use Rattle.std.proofs.lemmas.List.{length-take-le}
use Rattle.space.specs.Meaning.{Meaning, Lawful}
use Rattle.space.specs.declared.tagged.Trial.{Trial}
use Rattle.log_block.specs.declared.faults.BlockFault.{BlockFault}
use Rattle.log_block.specs.declared.faults.RecordFault.{RecordFault}
use Rattle.log_block.specs.declared.faults.Fault as log
use Rattle.log_block.specs.Block.{checked, checked_block, checked_records, header_check, records_check, records_in, records_of, room}
use Rattle.log_block.specs.Items.{Item, ItemAt, first_item, place_of}
use Rattle.history.specs.declared.answers.Fed.{Fed}
use Rattle.history.specs.declared.faults.FeedFault.{FeedFault}
use Rattle.history.specs.declared.faults.FeedFault.TheVariants.{StrangeRows}
use Rattle.history.specs.Answers.{told_feed}
use Rattle.history.specs.BlockTrials.{TrialAt, block_trials, trials_of}
use Rattle.history.specs.Calls.{Event}
use Rattle.history.specs.Calls.Call.{feed}
use Rattle.history.specs.Checks.{feed_check}
use Rattle.history.specs.Feeding.{tally}
use Rattle.history.specs.Reports.{from_log}
use Rattle.history.specs.State.{members_after, on_grid}
use Rattle.history.proofs.Kept.{call_keeps, idle_call_keeps}
use Rattle.archive.specs.declared.members.Members.{Members}
use Rattle.archive.specs.Held.{held_by}
use Rattle.archive.specs.Feeding.{FeedRight, TakenRight, members_taken}
use Rattle.archive.specs.Lent.{Lent, members}

-- a block that is accepted has no more records than its second byte says
first_and_rest : (place n : ℕ) (r : Result (Item × List ℕ) RecordFault) (rest : List ℕ → List ItemAt) → ((bs : List ℕ) → length (rest bs) ≤ n) → length {A = ItemAt} (elim r [ Ok p ↦ record { place = place; item = p.0 } ∷ rest p.1 | Err f ↦ [] ]) ≤ suc n
first_and_rest place n (Ok p) rest few = omega (arith, few p.1)
first_and_rest place n (Err f) rest few = omega arith

records_few : (m n : ℕ) (bs : List ℕ) → length (records_in m n bs) ≤ n
unfolding records_in
records_few m zero bs = omega arith
records_few m (suc n) bs = first_and_rest (place_of bs) n (first_item m bs) (records_in m n) (records_few m n)

records_found : (h : Result (Unit {0}) BlockFault) (r : Result (Unit {0}) RecordFault) (found xs : List ItemAt) → checked_block h (checked_records r found) ≡ Ok xs → found ≡ xs
records_found (Ok g) (Ok k) found xs e = cc
records_found (Ok g) (Err f) found xs e = cc
records_found (Err f) r found xs e = cc

pub checked_few : (m : ℕ) (bs : List ℕ) (xs : List ItemAt) → checked m bs ≡ Ok xs → length xs ≤ get_or bs 1 0
checked_few m bs xs e =
    let same = ap length (records_found (header_check m bs) (records_check m (get_or bs 1 0) (room bs)) (records_of m bs) xs e) in
    omega (arith, records_few m (get_or bs 1 0) (room bs))

module _ {P : Type 0} (M : Meaning P) (reads : List ℕ → P) (block : List ℕ) (a : Lent P) where
  -- what the checks come to
  abbrev check : Result (List (TrialAt P)) FeedFault
  check = feed_check M reads a.rows (length a.held) block

  pub strange_fed : (length a.held ≡ a.rows → ⊥) → check ≡ Err StrangeRows
  strange_fed other = cond-false (eqb (length a.held) a.rows) _ _ (ne_eqb (length a.held) a.rows other)

  module _ (own : length a.held ≡ a.rows) where
    own_fed : check ≡ block_trials M reads block
    own_fed = cond-true (eqb (length a.held) a.rows) _ _ (eq-eqb (length a.held) a.rows own)

    pub fault_fed : (f : log.Fault) → checked M.objectives block ≡ Err f → check ≡ Err (from_log f)
    fault_fed f e = own_fed ∙ ap (result_map_both (trials_of reads) from_log) e

    pub records_fed : (xs : List ItemAt) → checked M.objectives block ≡ Ok xs → check ≡ Ok (trials_of reads xs)
    records_fed xs e = own_fed ∙ ap (result_map_both (trials_of reads) from_log) e

  -- what is said of a feed, by what the checks came to
  abbrev answer_by : List (Trial P) → Result (List (TrialAt P)) FeedFault → Result Fed FeedFault
  answer_by ms k = result_map_both (tally M a.rows ms) (λ f. f) k

  abbrev brought_by : Result (List (TrialAt P)) FeedFault → List (Trial P)
  brought_by k = filter (on_grid M) (map (λ x. x.read) (result_unwrap_or k []))

  abbrev members_by : Result (List (TrialAt P)) FeedFault → List (Trial P)
  members_by k = members_after M a.rows (members a) (brought_by k)

  abbrev count_by : Result (List (TrialAt P)) FeedFault → ℕ
  count_by k = elim k [ Ok xs ↦ length (members_by check) | Err f ↦ a.count ]

  module _ (L : Lawful M) where
    -- a check fails: nothing is altered
    pub refused_right : (f : FeedFault) → check ≡ Err f → FeedRight M reads block a (Err f) a
    unfolding members_after
    refused_right f e =
        let answered : (ms : List (Trial P)) → Err f ≡ answer_by ms check = λ ms. ap (answer_by ms) (sym e) in
        let idle : brought_by check ≡ [] = ap brought_by e in
        let event : Event P = record { call = feed (length a.held) block; answer = told_feed (Err f) } in
        record {
          value = answered (members a);
          same_rows = refl;
          counted = ap count_by (sym e);
          in_order = ap members_by (sym e);
          untouched = λ _. (refl, refl);
          stays = λ h S. (idle_call_keeps M L reads h a.rows a.count a.held S event (ap told_feed (answered (members a))) idle).1;
          stays_apart = λ other held h S. (idle_call_keeps M L reads h a.rows a.count held S event (ap told_feed (answered (take a.count held))) idle).1;
        }

    -- the checks pass: the trials of the block are tried
    pub taken_right : (xs : List (TrialAt P)) (fed : Fed) (held b : Members P) (held' : List (Trial P)) → held' ≡ b.rows.now → held.count ≡ a.count → held.rows.now ≡ a.held → length a.held ≡ a.rows → check ≡ Ok xs → TakenRight M xs held fed b → FeedRight M reads block a (Ok fed) (record { rows = a.rows; count = b.count; held = held'; list = [] })
    taken_right xs fed held b held' left count rows own e T =
        let same : held_by held ≡ members a = cc in
        let n : length held.rows.now ≡ a.rows = ap length rows ∙ own in
        let value : Ok fed ≡ answer_by (members a) check = ap (λ f. Ok f) (T.told ∙ ap (λ n. tally M n (held_by held) xs) n ∙ ap (λ ms. tally M a.rows ms xs) same) ∙ ap (answer_by (members a)) (sym e) in
        let in_order : held_by b ≡ members_by check = T.in_order ∙ ap (λ n. members_taken M n (held_by held) xs) n ∙ ap (λ ms. members_taken M a.rows ms xs) same ∙ ap members_by (sym e) in
        let counted : b.count ≡ length (members_by check) = sym (length-take-le b.count b.rows.now b.within) ∙ ap length in_order in
        record {
          value = value;
          same_rows = refl;
          counted = counted ∙ ap count_by (sym e);
          in_order = ap (take b.count) left ∙ in_order;
          untouched = λ h. absurd (false≢true h);
          stays = λ h S.
              call_keeps M L reads h a.rows a.count a.held S (record { call = feed (length a.held) block; answer = told_feed (Ok fed) })
              (ap told_feed value) b.count held' (ap length left ∙ (T.long ∙ n)) counted (ap (take b.count) left ∙ in_order);
          stays_apart = λ other. absurd (other own);
        }
