-- What one call leaves in the whole list, of which it was lent the front.
use Rattle.std.proofs.Common.{◌≡◌, ℕ, ◌≤◌, true, cond, eqb, ltb, List, [], ◌++◌, map, length, take, drop, is_err, Ok, Err, Result, sym, refl, ap, ◌∙◌, subst, ⊎_elim, arith}
use Rattle.std.specs.List.Sorted.{IsPermutation}
use Rattle.std.proofs.lemmas.List.{append_assoc, drop-append-le, length-map, length-take-le, take-append-drop, take-append-le, length-take}
use Rattle.std.proofs.lemmas.List.Sorted.{length_permutation}
use Rattle.std.proofs.lemmas.Bool.{cases_Bool, cond-false, cond-true, ltb-false}
use Rattle.space.specs.Meaning.{Meaning}
use Rattle.space.specs.declared.tagged.Trial.{Trial}
use Rattle.history.specs.declared.answers.Answer.TheVariants as answer
use Rattle.history.specs.declared.answers.Offered.{Offered}
use Rattle.history.specs.declared.denials.Denial.{Denial}
use Rattle.history.specs.Answers.{list_answer, told, verdict_of}
use Rattle.history.specs.Calls.Call.{list, offer}
use Rattle.history.specs.declared.denials.Denial.TheVariants.{ShortList, StrangeRows}
use Rattle.history.specs.Checks.{own_rows}
use Rattle.history.specs.Step.{judge}
use Rattle.archive.specs.Lent.{Lent, members}
use Rattle.archive.specs.Listing.{ListRight, listed_over}
use Rattle.archive.specs.Offering.{OfferRight, TagsInFront, gone_of, to_judge}
use Rattle.archive.specs.Standing.{StaysAs}
use Rattle.archive.proofs.Idle.{strange_is}
use Rattle.replay.specs.Leaving.{Leaves, LeavesList, ListLeaves, OfferLeaves}
use Rattle.replay.specs.Replaying.{AnyReading, MadeAs}
use Rattle.replay.proofs.Made.{bare}
use Rattle.replay.proofs.Strange.{strange_untouched}

-- the front of the list, which was lent, and the rest
module _ (whole : List ℕ) (room : ℕ) (within : room ≤ length whole) where
  -- past the first d of the front lies the rest of the list
  past : (d : ℕ) → d ≤ room → drop d (take room whole) ++ drop room whole ≡ drop d whole
  past d l = sym (drop-append-le d (take room whole) (drop room whole) (omega (arith, length-take-le room whole within))) ∙ ap (drop d) (take-append-drop room whole)

  -- tags in front of the front are in front of the list
  pub widened : {P : Type 0} (gone : List (Trial P)) (part : List ℕ) → length part ≡ room → TagsInFront gone (take room whole) part → TagsInFront gone whole (part ++ drop room whole)
  widened gone part long tags =
      let d = length gone in
      let size = length_permutation (map (λ r. r.tag) gone) (take d part) tags.tags in
      let fits : d ≤ length part = omega (arith, size, length-map gone (λ r. r.tag), length-take d part) in
      record {
        tags = subst (IsPermutation (map (λ r. r.tag) gone)) (sym (take-append-le d part (drop room whole) fits)) tags.tags;
        rest = drop-append-le d part (drop room whole) fits ∙ (ap (λ xs. xs ++ drop room whole) tags.rest ∙ past d (omega arith));
      }

-- no denial is a success
pub never : (d : Denial) (n : ℕ) → ◌≡◌ {A = Result ℕ Denial} (Err d) (Ok n) → ⊥
never d n e = let z : ◌≡◌ {A = ℕ} 0 1 = cc in omega arith

-- the members that go, by what is to be judged
abbrev gone_by : {P : Type 0} → Meaning P → ℕ → List (Trial P) → Result (Trial P) Denial → List (Trial P)
gone_by M rows ms (Ok s) = gone_of (judge M rows ms s)
gone_by M rows ms (Err d) = []

abbrev answer_by : {P : Type 0} → Meaning P → ℕ → List (Trial P) → Result (Trial P) Denial → Result Offered Denial
answer_by M rows ms (Ok s) = verdict_of (judge M rows ms s)
answer_by M rows ms (Err d) = Err d

-- an offer over the front of the list
module _ {P : Type 0} (M : Meaning P) (t : Trial P) (a b : Lent P) (r : Result Offered Denial) (right : OfferRight M t a r b) (whole : List ℕ) (room : ℕ) (within : room ≤ length whole) (front : a.list ≡ take room whole) (long : length b.list ≡ room) where
  leaves_judged : (checked : Result (Trial P) Denial) → to_judge M a t ≡ checked → OfferLeaves M a.rows (members a) whole (b.list ++ drop room whole) checked
  leaves_judged (Ok s) e =
      let tags = subst (λ (c : Result (Trial P) Denial). TagsInFront (gone_by M a.rows (members a) c) a.list b.list) e right.tags in
      widened whole room within (gone_of (judge M a.rows (members a) s)) b.list long (subst (λ xs. TagsInFront (gone_of (judge M a.rows (members a) s)) xs b.list) front tags)
  leaves_judged (Err d) e =
      let denied : is_err r ≡ true = ap is_err (right.value ∙ ap (answer_by M a.rows (members a)) e) in
      ap (λ xs. xs ++ drop room whole) ((right.untouched denied).2 ∙ front) ∙ take-append-drop room whole

  -- over strange rows the list is left as it was
  left_apart : (length a.held ≡ a.rows → ⊥) → b.list ++ drop room whole ≡ whole
  left_apart n = ap (λ xs. xs ++ drop room whole) ((strange_untouched M t a b r right n).2 ∙ front) ∙ take-append-drop room whole

  -- what holds of the call over the whole list
  pub made_offer : (block : List ℕ) → MadeAs M AnyReading (LeavesList M) (offer (length a.held) room t) (bare a) (record { list = whole; block = block }) (told answer.Offered r) (bare b) (record { list = b.list ++ drop room whole; block = block })
  made_offer block =
      let size : length a.list ≡ room = ap length front ∙ length-take-le room whole within in
      let said = told answer.Offered r in
      record {
        own = λ _. record {
          same_rows = right.same_rows;
          stays = λ reads _. subst (λ n. StaysAs M reads a.rows (offer (length a.held) n t) said a.count a.held b.count b.held) size (right.stays reads);
          leaves = (subst (λ n. Leaves M a.rows (members a) (offer (length a.held) n t) whole (b.list ++ drop room whole)) size (leaves_judged (to_judge M a t) refl), refl);
        };
        strange = λ n. (strange_untouched M t a b r right n).1;
        apart = λ n held. record {
          same_rows = right.same_rows;
          stays = λ reads _. subst (λ k. StaysAs M reads a.rows (offer (length a.held) k t) said a.count held b.count held) size (right.stays_apart n held reads);
          leaves = (subst (OfferLeaves M a.rows (take a.count held) whole (b.list ++ drop room whole)) (strange_is a.rows (length a.held) _ n) (left_apart n), refl);
        };
      }

-- a list that is granted has room for the tags
granted_fits : (rows lent room size n : ℕ) → own_rows rows lent (cond (ltb room size) (Err ShortList) (Ok size)) ≡ Ok n → n ≤ room
granted_fits rows lent room size n e =
    let inner : Result ℕ Denial = cond (ltb room size) (Err ShortList) (Ok size) in
    ⊎_elim
    (λ own.
    let told : inner ≡ Ok n = sym (cond-true (eqb lent rows) inner (Err StrangeRows) own) ∙ e in
    ⊎_elim
    (λ short. absurd (never ShortList n (sym (cond-true (ltb room size) (Err ShortList) (Ok size) short) ∙ told)))
    (λ long.
    let same : ◌≡◌ {A = Result ℕ Denial} (Ok size) (Ok n) = sym (cond-false (ltb room size) (Err ShortList) (Ok size) long) ∙ told in
    let count : size ≡ n = cc in
    omega (arith, count, ltb-false room size long))
    (cases_Bool (ltb room size)))
    (λ other. absurd (never StrangeRows n (sym (cond-false (eqb lent rows) inner (Err StrangeRows) other) ∙ e)))
    (cases_Bool (eqb lent rows))

-- a list over the front of the list
module _ {P : Type 0} (M : Meaning P) (a : Lent P) (r : Result ℕ Denial) (after : List ℕ) (right : ListRight M a r after) (whole : List ℕ) (room : ℕ) (within : room ≤ length whole) (front : a.list ≡ take room whole) where
  leaves_listed : (said : Result ℕ Denial) → r ≡ said → said ≡ list_answer a.rows (members a) (length a.held) (length a.list) → ListLeaves (members a) whole (after ++ drop room whole) said
  leaves_listed (Ok n) e f =
      let fits = granted_fits a.rows (length a.held) (length a.list) (length (members a)) n (sym f) in
      let size : length a.list ≡ room = ap length front ∙ length-take-le room whole within in
      let tags = map (λ r. r.tag) (members a) in
      let said = right.tags ∙ (ap (listed_over a) e ∙ ap (λ xs. tags ++ drop n xs) front) in
      ap (λ xs. xs ++ drop room whole) said ∙ (append_assoc tags (drop n (take room whole)) (drop room whole) ∙ ap (λ xs. tags ++ xs) (past whole room within n (omega (arith, fits, size))))
  leaves_listed (Err d) e f = ap (λ xs. xs ++ drop room whole) (right.tags ∙ (ap (listed_over a) e ∙ front)) ∙ take-append-drop room whole

  -- over strange rows the list is left as it was
  left_unlisted : (length a.held ≡ a.rows → ⊥) → after ++ drop room whole ≡ whole
  left_unlisted n = ap (λ xs. xs ++ drop room whole) (right.tags ∙ (ap (listed_over a) (right.value ∙ sym (strange_is a.rows (length a.held) _ n)) ∙ front)) ∙ take-append-drop room whole

  pub made_list : (block : List ℕ) → MadeAs M AnyReading (LeavesList M) (list (length a.held) room) (bare a) (record { list = whole; block = block }) (told answer.Listed r) (bare a) (record { list = after ++ drop room whole; block = block })
  made_list block =
      let size : length a.list ≡ room = ap length front ∙ length-take-le room whole within in
      let said = list_answer a.rows (members a) (length a.held) (length a.list) in
      record {
        own = λ _. record {
          same_rows = refl;
          stays = λ reads _. subst (λ n. StaysAs M reads a.rows (list (length a.held) n) (told answer.Listed r) a.count a.held a.count a.held) size (right.stays reads);
          leaves = (subst (λ n. Leaves M a.rows (members a) (list (length a.held) n) whole (after ++ drop room whole)) size (leaves_listed said right.value refl), refl);
        };
        strange = λ _. refl;
        apart = λ n held. record {
          same_rows = refl;
          stays = λ reads _. subst (λ k. StaysAs M reads a.rows (list (length a.held) k) (told answer.Listed r) a.count held a.count held) size (right.stays_apart n held reads);
          leaves = (subst (ListLeaves (take a.count held) whole (after ++ drop room whole)) (strange_is a.rows (length a.held) _ n) (left_unlisted n), refl);
        };
      }
