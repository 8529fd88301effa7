-- What holds of a restore: the first block at fault, and all blocks fed one after the other.
use Rattle.std.proofs.Common.{◌≡◌, ℕ, zero, suc, min, ◌*◌, eqb, ltb, suc-mul, zero-mul, add-one, ◌+◌, ◌≤◌, List, [], ◌∷◌, ◌++◌, map, length, Some, None, Result, sym, refl, ap, ◌∙◌, subst, arith}
use Rattle.std.specs.Borrow.{Bor}
use Rattle.std.specs.List.{range_with_len}
use Rattle.std.proofs.lemmas.Bool.{cond_both, eqb-true, ltb-false}
use Rattle.std.proofs.lemmas.List.FromFn.{map-range_with_len_more}
use Rattle.std.proofs.lemmas.List.{map_push, reverse-append}
use Rattle.space.specs.Meaning.{Meaning}
use Rattle.space.specs.Recording.{Recording, read_point}
use Rattle.history.specs.declared.answers.Answer.{Answer}
use Rattle.history.specs.declared.answers.Answer.TheVariants as answer
use Rattle.history.specs.declared.answers.Fed.{Fed}
use Rattle.history.specs.declared.faults.FeedFault.{FeedFault}
use Rattle.history.specs.Answers.{told_feed}
use Rattle.history.specs.Calls.{Event, answers, begun, ◌▸◌}
use Rattle.history.specs.Calls.Call.{feed}
use Rattle.history.specs.Checks.{making_denial}
use Rattle.history.specs.Feeding.{all_entered, capped, capped_fed, sum_fed}
use Rattle.history.specs.RoundTrip.{RecordedLaws}
use Rattle.history.specs.Saving.{block_count, in_block, per_block, saved_blocks}
use Rattle.history.specs.Stands.{Stands}
use Rattle.history.specs.State.{state}
use Rattle.history.proofs.Feeds.{round_trip}
use Rattle.history.proofs.Returning.{enough_blocks, some_room}
use Rattle.archive.specs.declared.restoring.RestoreFault.TheVariants.{Denied}
use Rattle.archive.specs.Feeding.{FeedRight}
use Rattle.archive.specs.Lent.{Lent}
use Rattle.archive.specs.Restoring.{BringsBack, FedAll, RestoreRight, all_fed, fed_of, first_at_fault, restore_fault}
use Rattle.archive.specs.Standing.{Begins}
use Rattle.archive.proofs.Taking.{capped_same, fed_same, none_sum, sum_assoc, sum_none}

-- the bytes of blocks that are lent
abbrev pub bytes_of : List (Bor (List ℕ)) → List (List ℕ)
bytes_of blocks = map (λ b. b.now) blocks

-- sums that stop at the greatest number
capped_more : (a b : ℕ) → capped (capped a + b) ≡ capped (a + b)
capped_more a b = omega arith

capped_sum : (f g : Fed) → capped_fed (sum_fed (capped_fed f) g) ≡ capped_fed (sum_fed f g)
capped_sum f g =
    fed_same _ _ _ _ _ _ _ _ _ _ (capped_more f.entered g.entered) (capped_more f.passed g.passed) (capped_more f.denied g.denied) (capped_more f.displaced g.displaced) refl

all_fed_push : (xs : List Answer) (x : Answer) → all_fed (xs ++ (x ∷ [])) ≡ sum_fed (all_fed xs) (fed_of x)
all_fed_push [] x = sum_none (fed_of x) ∙ sym (none_sum (fed_of x))
all_fed_push (y ∷ xs) x = ap (sum_fed (fed_of y)) (all_fed_push xs x) ∙ sym (sum_assoc (fed_of y) (all_fed xs) (fed_of x))

module _ {P : Type 0} (M : Meaning P) (reads : List ℕ → P) where
  -- no block is fed yet
  pub fed_none : (a : Lent P) (total : Fed) → total ≡ all_entered 0 → Begins M a.rows a.count a.held → FedAll M reads [] total a
  fed_none a total e begins = record { history = begun a.rows; called = refl; stands = begins reads; told = e }

  -- one block more
  pub fed_more : (blocks : List (List ℕ)) (block : List ℕ) (total total' fed : Fed) (a b : Lent P) (r : Result Fed FeedFault) → FedAll M reads blocks total a → FeedRight M reads block a r b → fed ≡ fed_of (told_feed r) → total' ≡ capped_fed (sum_fed total fed) → FedAll M reads (blocks ++ (block ∷ [])) total' b
  fed_more blocks block total total' fed a b r all right told sum =
      let h = all.history in
      let S = all.stands in
      let e : Event P = record { call = feed (length a.held) block; answer = told_feed r } in
      record {
        history = h ▸ e;
        called =
            reverse-append (e.call ∷ []) (map (λ x. x.call) h.events)
            ∙ ap (λ xs. xs ++ (e.call ∷ [])) all.called
            ∙ ap (λ n. map (feed a.rows) blocks ++ (feed n block ∷ [])) S.long
            ∙ sym (map_push (feed a.rows) blocks block)
            ∙ ap (λ n. map (feed n) (blocks ++ (block ∷ []))) (sym right.same_rows);
        stands = subst (λ n. Stands M reads (h ▸ e) n b.count b.held) (sym right.same_rows) (right.stays h S);
        told =
            sum
            ∙ ap (λ f. capped_fed (sum_fed f fed)) all.told
            ∙ capped_sum (all_fed (answers h)) fed
            ∙ ap (λ f. capped_fed (sum_fed (all_fed (answers h)) f)) told
            ∙ ap capped_fed (sym (ap all_fed (reverse-append (e.answer ∷ []) (map (λ x. x.answer) h.events)) ∙ all_fed_push (answers h) e.answer));
      }

-- blocks of which all trials entered, q to a block: of the first k blocks these are as many as there are, or k * q
entered_first : (q n k : ℕ) → all_fed (map (λ i. answer.Fed (all_entered (in_block q n i))) (range_with_len 0 k)) ≡ all_entered (min (k * q) n)
entered_first q n zero = ap all_entered (let z = zero-mul q in omega arith)
entered_first q n (suc k) =
    let f = λ (i : ℕ). answer.Fed (all_entered (in_block q n i)) in
    let more = suc-mul k q in
    ap all_fed (ap (λ m. map f (range_with_len 0 m)) (sym (add-one k)) ∙ map-range_with_len_more f 0 k k (omega arith))
    ∙ all_fed_push (map f (range_with_len 0 k)) (f k)
    ∙ ap (λ g. sum_fed g (all_entered (in_block q n k))) (entered_first q n k)
    ∙ ap all_entered (omega arith)

-- and of all blocks these are all
entered_all : (q n : ℕ) → 1 ≤ q → all_fed (map (λ i. answer.Fed (all_entered (in_block q n i))) (range_with_len 0 (block_count q n))) ≡ all_entered n
entered_all q n one = let enough = enough_blocks q n one in entered_first q n (block_count q n) ∙ ap all_entered (omega arith)

-- a granted making is over few rows
few_granted : (n : ℕ) → making_denial n ≡ None → n ≤ 4096
few_granted n =
    cond_both (eqb n 0) _ _ (λ d. d ≡ None → n ≤ 4096)
    (λ e g. let z = eqb-true n 0 e in omega arith)
    (λ e. cond_both (ltb 4096 n) _ _ (λ d. d ≡ None → n ≤ 4096) (λ l g. cc) (λ l g. ltb-false 4096 n l))

-- the blocks of a history's members are brought back
brought_back : {P : Type 0} (M : Meaning P) (R : Recording P) (blocks : List (List ℕ)) (fed : Fed) (b : Lent P) → RecordedLaws M R → FedAll M (read_point R) blocks fed b → BringsBack M R blocks fed b
brought_back M R blocks fed b laws all reads h savable enough saved =
    let S = all.stands in
    let k = all.history in
    let n = length (state M reads h).members in
    let back = round_trip M R laws reads h savable k (record {
      truthful = S.truthful;
      enough = omega (arith, enough, S.made);
      feeds = all.called ∙ ap (λ n. map (feed n) blocks) S.made ∙ ap (map (feed k.rows)) saved;
    }) in
    let same = S.in_order ∙ back.same_members in
    let few = few_granted k.rows S.granted in
    let entered = ap all_fed back.entered ∙ entered_all (per_block M) n (some_room M R laws) in (
      same,
      ap (saved_blocks M R) same ∙ sym saved,
      all.told ∙ ap capped_fed entered ∙ ap all_entered (capped_same n (omega (arith, enough, few, S.made))),
    )

pub restored_right : {P : Type 0} (M : Meaning P) (R : Recording P) (blocks : List (List ℕ)) (fed : Fed) (b : Lent P) → RecordedLaws M R → FedAll M (read_point R) blocks fed b → RestoreRight M R blocks fed b
restored_right M R blocks fed b laws all = record { fed_all = all; brings_back = brought_back M R blocks fed b laws all }

-- the making is granted, and no block is at fault
pub no_fault : {P : Type 0} (M : Meaning P) (rows m : ℕ) (blocks : List (List ℕ)) → m ≡ M.objectives → making_denial rows ≡ None → None ≡ first_at_fault m 0 blocks → restore_fault M rows blocks ≡ None
no_fault M rows m blocks same granted sound =
    ap (λ d. elim d [ Some x ↦ Some (Denied x) | None ↦ first_at_fault M.objectives 0 blocks ]) granted
    ∙ ap (λ n. first_at_fault n 0 blocks) (sym same)
    ∙ sym sound
