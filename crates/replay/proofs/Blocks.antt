-- A call of any kind over the rows that it is lent, a feed or a save among them.
use Rattle.std.proofs.Common.{◌≡◌, ℕ, ◌≤◌, true, cond, not, eqb, leb, List, ◌++◌, length, take, drop, is_err, Ok, Err, Result, sym, refl, ap, ◌∙◌, subst, ⊎_elim, inl, inr}
use Rattle.std.specs.Result.{result_map_both}
use Rattle.std.proofs.lemmas.List.{length-take-le, take-append-drop}
use Rattle.std.proofs.lemmas.Bool.{cases_Bool, cond-false, cond-true, eqb-true, ne_eqb, not_from_false}
use Rattle.space.specs.Meaning.{Meaning}
use Rattle.space.specs.Recording.{Recording, read_point}
use Rattle.space.specs.declared.tagged.Trial.{Trial}
use Rattle.history.specs.declared.answers.Answer.{Answer}
use Rattle.history.specs.declared.answers.Answer.TheVariants as answer
use Rattle.history.specs.declared.answers.Fed.{Fed}
use Rattle.history.specs.declared.denials.Denial.{Denial}
use Rattle.history.specs.declared.denials.Denial.TheVariants.{NoSuchBlock, StrangeRows, WrongLength}
use Rattle.history.specs.declared.faults.FeedFault.{FeedFault}
use Rattle.history.specs.Answers.{save_answer, told, told_feed}
use Rattle.history.specs.Calls.{Call}
use Rattle.history.specs.Calls.Call.{feed, save}
use Rattle.history.specs.Checks.{own_rows}
use Rattle.history.specs.Feeding.{tally}
use Rattle.history.specs.Saving.{block_count, in_block, per_block, saved_block}
use Rattle.archive.specs.Feeding.{FeedRight}
use Rattle.archive.specs.Lent.{Lent, members}
use Rattle.archive.specs.Saving.{SaveRight, saved_over}
use Rattle.archive.specs.Standing.{StaysAs}
use Rattle.archive.proofs.Idle.{strange_is}
use Rattle.replay.specs.declared.asking.Ask.{Ask}
use Rattle.replay.specs.declared.asking.Ask.TheVariants as ask
use Rattle.replay.specs.Asking.{call_of}
use Rattle.replay.specs.Leaving.{LeavesBlock, LeavesBoth, LeavesList, Lendings, SaveLeaves}
use Rattle.replay.specs.Replaying.{AnyReading, MadeAs, OwnReading, RanAs, RecordedRan}
use Rattle.replay.proofs.Leavings.{never}

-- a call of any space is as well one of a recorded one, which leaves the block as it was
kept : {P : Type 0} (M : Meaning P) (R : Recording P) (rows own other long wide : ℕ) (ms : List (Trial P)) (x : Ask P) (before after : List ℕ) → after ≡ before → LeavesBlock M R rows ms (call_of own other long x) before after
kept M R rows own other long wide ms (ask.Offer lent room t) before after e = e
kept M R rows own other long wide ms (ask.Audit lent) before after e = e
kept M R rows own other long wide ms (ask.List lent room) before after e = e

module _ {P : Type 0} (M : Meaning P) (R : Recording P) where
  module _ (own other long wide : ℕ) (ask : Ask P) where
    abbrev call : Call P
    call = call_of own other long ask

    ran_plain : (a : Lent P) (x : Lendings) (r : Answer) (b : Lent P) (y : Lendings) → RanAs M AnyReading (LeavesList M) call a x r b y → RecordedRan M R call a x r b y
    ran_plain a x r b y ran =
        record {
          same_rows = ran.same_rows;
          stays = λ reads _. ran.stays reads tt;
          leaves = (ran.leaves.0, kept M R a.rows own other long wide (members a) ask x.block y.block ran.leaves.1);
        }

    pub made_plain : (a : Lent P) (x : Lendings) (r : Answer) (b : Lent P) (y : Lendings) → MadeAs M AnyReading (LeavesList M) call a x r b y → MadeAs M (OwnReading R) (LeavesBoth M R) call a x r b y
    made_plain a x r b y made =
        record {
          own = λ e. ran_plain a x r b y (made.own e);
          strange = made.strange;
          apart = λ n held. ran_plain _ x r _ y (made.apart n held);
        }

  -- a feed: over strange rows it is refused, and alters nothing
  pub made_feed : (block : List ℕ) (a b : Lent P) (r : Result Fed FeedFault) (x : Lendings) → FeedRight M (read_point R) block a r b → MadeAs M (OwnReading R) (LeavesBoth M R) (feed (length a.held) block) a x (told_feed r) b x
  made_feed block a b r x right =
      let call = feed (length a.held) block in
      let refused : (length a.held ≡ a.rows → ⊥) → is_err r ≡ true = λ n. ap is_err (right.value ∙ ap (result_map_both (tally M a.rows (members a)) (λ f. f)) (cond-false (eqb (length a.held) a.rows) _ _ (ne_eqb (length a.held) a.rows n))) in
      record {
        own = λ _. record { same_rows = right.same_rows; stays = λ reads is. subst (λ reads. StaysAs M reads a.rows call (told_feed r) a.count a.held b.count b.held) (sym is) right.stays; leaves = (refl, refl) };
        strange = λ n. (right.untouched (refused n)).1;
        apart = λ n held. record { same_rows = right.same_rows; stays = λ reads is. subst (λ reads. StaysAs M reads a.rows call (told_feed r) a.count held b.count held) (sym is) (right.stays_apart n held); leaves = (refl, refl) };
      }

-- a save that is granted was lent a block of the right length
granted_long : (rows lent size n : ℕ) (rest : Result ℕ Denial) → own_rows rows lent (cond (not (eqb size 512)) (Err WrongLength) rest) ≡ Ok n → size ≡ 512
granted_long rows lent size n rest e =
    let inner : Result ℕ Denial = cond (not (eqb size 512)) (Err WrongLength) rest in
    ⊎_elim
    (λ yes.
    ⊎_elim
    (λ long. eqb-true size 512 long)
    (λ other. absurd (never WrongLength n (sym (cond-true (not (eqb size 512)) (Err WrongLength) rest (not_from_false (eqb size 512) other)) ∙ (sym yes ∙ e))))
    (cases_Bool (eqb size 512)))
    (λ no. absurd (never StrangeRows n (sym no ∙ e)))
    (⊎_elim (λ own. inl (cond-true (eqb lent rows) inner (Err StrangeRows) own)) (λ other. inr (cond-false (eqb lent rows) inner (Err StrangeRows) other)) (cases_Bool (eqb lent rows)))

-- a save over the front of the block
module _ {P : Type 0} (M : Meaning P) (R : Recording P) (number : ℕ) (a : Lent P) (r : Result ℕ Denial) (after whole : List ℕ) (size : ℕ) (within : size ≤ length whole) (right : SaveRight M R number a (take size whole) r after) where
  long : length (take size whole) ≡ size
  long = length-take-le size whole within

  leaves_saved : (ms : List (Trial P)) (said : Result ℕ Denial) → r ≡ said → (members a ≡ ms) → said ≡ save_answer M a.rows ms (length a.held) number size → SaveLeaves M R ms number whole (after ++ drop size whole) said
  leaves_saved ms (Ok n) e same f =
      let blocks = block_count (per_block M) (length ms) in
      let full : size ≡ 512 = granted_long a.rows (length a.held) size n (cond (leb blocks number) (Err NoSuchBlock) (Ok (in_block (per_block M) (length ms) number))) (sym f) in
      let block = right.block ∙ (ap (saved_over M R (members a) number (take size whole)) e ∙ ap (λ xs. saved_block M R xs number) same) in
      ap (λ xs. xs ++ drop size whole) block ∙ ap (λ k. saved_block M R ms number ++ drop k whole) full
  leaves_saved ms (Err d) e same f = ap (λ xs. xs ++ drop size whole) (right.block ∙ ap (saved_over M R (members a) number (take size whole)) e) ∙ take-append-drop size whole

  -- over strange rows the block is left as it was
  left_unsaved : (length a.held ≡ a.rows → ⊥) → after ++ drop size whole ≡ whole
  left_unsaved n =
      let denied : r ≡ Err StrangeRows = right.value ∙ sym (strange_is a.rows (length a.held) _ n) in
      ap (λ xs. xs ++ drop size whole) (right.block ∙ ap (saved_over M R (members a) number (take size whole)) denied) ∙ take-append-drop size whole

  pub made_save : (list : List ℕ) → MadeAs M (OwnReading R) (LeavesBoth M R) (save (length a.held) number size) a (record { list = list; block = whole }) (told answer.Saved r) a (record { list = list; block = after ++ drop size whole })
  made_save list =
      record {
        own = λ _. record {
          same_rows = refl;
          stays = λ reads _. subst (λ k. StaysAs M reads a.rows (save (length a.held) number k) (told answer.Saved r) a.count a.held a.count a.held) long (right.stays reads);
          leaves = (refl, leaves_saved (members a) (save_answer M a.rows (members a) (length a.held) number size) (right.value ∙ ap (save_answer M a.rows (members a) (length a.held) number) long) refl refl);
        };
        strange = λ _. refl;
        apart = λ n held. record {
          same_rows = refl;
          stays = λ reads _. subst (λ k. StaysAs M reads a.rows (save (length a.held) number k) (told answer.Saved r) a.count held a.count held) long (right.stays_apart n held reads);
          leaves = (refl, subst (SaveLeaves M R (take a.count held) number whole (after ++ drop size whole)) (strange_is a.rows (length a.held) _ n) (left_unsaved n));
        };
      }
