-- The trials of a block, tried one after the other.
use Rattle.std.proofs.Common.{◌≡◌, ℕ, suc, ◌+◌, ◌-◌, ◌^◌, ◌<◌, ◌≤◌, true, false, cond, ltb, List, [], ◌∷◌, ◌++◌, map, length, Some, None, Err, Result, filter, sym, refl, ap, ◌∙◌, subst, add-zero, zero-add, add-one, add_assoc, length-take, arith}
use Rattle.std.specs.Option.{option_or}
use Rattle.space.specs.Meaning.{Meaning}
use Rattle.space.specs.declared.tagged.Trial.{Trial}
use Rattle.log_block.specs.Items.{Item, ItemAt, trial, note}
use Rattle.history.specs.declared.answers.Fed.{Fed}
use Rattle.history.specs.declared.answers.Offered.{Offered}
use Rattle.history.specs.declared.denials.Denial.{Denial}
use Rattle.history.specs.declared.denials.Denial.TheVariants as denial
use Rattle.history.specs.declared.faults.DeniedTrial.TheVariants.{OffGrid}
use Rattle.history.specs.declared.verdicts.Verdict.TheVariants.{PassedOver, Entered, Displaced, Replaced}
use Rattle.history.specs.Answers.{verdict_of}
use Rattle.history.specs.BlockTrials.{TrialAt, trials_of}
use Rattle.history.specs.Feeding.{all_entered, capped, capped_fed, sum_fed, then_denied, then_judged, tally}
use Rattle.history.specs.State.{entries, members_after, on_grid}
use Rattle.history.specs.Step.{Outcome, judge, members_then}
use Rattle.history.specs.Step.Outcome.{judged, full}
use Rattle.archive.specs.declared.deciding.Decision.{Decision}
use Rattle.archive.specs.declared.deciding.Decision.TheVariants.{Displace, Replace, PassOver, Enter}
use Rattle.archive.specs.declared.members.Members.{Members}
use Rattle.archive.specs.Deciding.{decision}
use Rattle.archive.specs.Held.{held_by}
use Rattle.archive.specs.Feeding.{TriedRight, TakenRight, members_taken, members_tried, trial_answer}
use Rattle.archive.specs.Offering.{gone_of}
use Rattle.archive.specs.Summing.{one_fed}
use Rattle.archive.proofs.Decided.{judge_decided, outcome_by}
use Rattle.archive.proofs.Stepped.{few_go}

-- two sums with the same parts
pub fed_same : (a b c d a' b' c' d' : ℕ) (f f' : _) → a ≡ a' → b ≡ b' → c ≡ c' → d ≡ d' → f ≡ f' → ◌≡◌ {A = Fed} (record { entered = a; passed = b; denied = c; displaced = d; first = f }) (record { entered = a'; passed = b'; denied = c'; displaced = d'; first = f' })
fed_same a b c d a' b' c' d' f f' ea eb ec ed ef = cc

or_assoc : {A : Type 0} (a b c : _) → option_or {T = A} (option_or a b) c ≡ option_or a (option_or b c)
or_assoc None b c = refl
or_assoc (Some x) b c = refl

or_none : {A : Type 0} (a : _) → option_or {T = A} a None ≡ a
or_none None = refl
or_none (Some x) = refl

pub sum_assoc : (f g h : Fed) → sum_fed (sum_fed f g) h ≡ sum_fed f (sum_fed g h)
sum_assoc f g h =
    fed_same _ _ _ _ _ _ _ _ _ _ (add_assoc f.entered g.entered h.entered) (add_assoc f.passed g.passed h.passed) (add_assoc f.denied g.denied h.denied) (add_assoc f.displaced g.displaced h.displaced) (or_assoc f.first g.first h.first)

pub none_sum : (f : Fed) → sum_fed (all_entered 0) f ≡ f
none_sum f = fed_same _ _ _ _ _ _ _ _ _ _ (zero-add f.entered) (zero-add f.passed) (zero-add f.denied) (zero-add f.displaced) refl

pub sum_none : (f : Fed) → sum_fed f (all_entered 0) ≡ f
sum_none f = fed_same _ _ _ _ _ _ _ _ _ _ (add-zero f.entered) (add-zero f.passed) (add-zero f.denied) (add-zero f.displaced) (or_none f.first)

pub capped_same : (n : ℕ) → n < 2 ^ 64 → capped n ≡ n
capped_same n l = omega arith

-- no number of a sum reaches n
abbrev pub FedBelow : ℕ → Fed → Type 0
FedBelow n f = (f.entered < n) × (f.passed < n) × (f.denied < n) × (f.displaced < n)

pub capped_fed_same : (f : Fed) → FedBelow (2 ^ 64) f → capped_fed f ≡ f
capped_fed_same f l = fed_same _ _ _ _ _ _ _ _ _ _ (capped_same f.entered l.0) (capped_same f.passed l.1) (capped_same f.denied l.2) (capped_same f.displaced l.3) refl

-- a sum of two is below where a sum of three is
below_part : (n : ℕ) (f g h all : Fed) → sum_fed f (sum_fed g h) ≡ all → FedBelow n all → FedBelow n (sum_fed f g)
below_part n f g h all e l =
    let a = ap (λ x. x.entered) e in
    let b = ap (λ x. x.passed) e in
    let c = ap (λ x. x.denied) e in
    let d = ap (λ x. x.displaced) e in
    (omega arith, omega arith, omega arith, omega arith)

module _ {P : Type 0} (M : Meaning P) where
  judged_one : (place : ℕ) (o : Outcome P) → then_judged place o (all_entered 0) ≡ one_fed place (verdict_of o)
  judged_one place (judged v gone after) = fed_same _ _ _ _ _ _ _ _ _ _ (add-zero (entries v)) (add-zero (1 - entries v)) refl (add-zero (length gone)) refl
  judged_one place full = refl

  tally_one : (rows : ℕ) (ms : List (Trial P)) (x : TrialAt P) → tally M rows ms (x ∷ []) ≡ one_fed x.place (trial_answer M rows ms x.read)
  unfolding tally
  tally_one rows ms x =
      let o = judge M rows ms x.read in
      elim (on_grid M x.read) as (λ b. cond b (then_judged x.place o (all_entered 0)) (then_denied (OffGrid x.place) (all_entered 0)) ≡ one_fed x.place (cond b (verdict_of o) (Err denial.OffGrid))) [
        | true ↦ judged_one x.place o
        | false ↦ refl
      ]

  members_one : (rows : ℕ) (ms : List (Trial P)) (x : TrialAt P) → members_taken M rows ms (x ∷ []) ≡ members_tried M rows ms x.read
  unfolding members_after
  members_one rows ms x =
      let t = x.read in
      elim (on_grid M t) as (λ b. members_after M rows ms (cond b (t ∷ []) []) ≡ cond b (members_then ms (judge M rows ms t)) ms) [ true ↦ refl | false ↦ refl ]

  judged_sum : (place : ℕ) (o : Outcome P) (f g : Fed) → then_judged place o (sum_fed f g) ≡ sum_fed (then_judged place o f) g
  judged_sum place (judged v gone after) f g =
      fed_same _ _ _ _ _ _ _ _ _ _ (sym (add_assoc (entries v) f.entered g.entered)) (sym (add_assoc (1 - entries v) f.passed g.passed)) refl (sym (add_assoc (length gone) f.displaced g.displaced)) refl
  judged_sum place full f g = fed_same _ _ _ _ _ _ _ _ _ _ refl refl (sym (add_assoc 1 f.denied g.denied)) refl refl

  denied_sum : (place : ℕ) (f g : Fed) → then_denied (OffGrid place) (sum_fed f g) ≡ sum_fed (then_denied (OffGrid place) f) g
  denied_sum place f g = fed_same _ _ _ _ _ _ _ _ _ _ refl refl (sym (add_assoc 1 f.denied g.denied)) refl refl

  -- some trials and then others
  pub taken_append : (rows : ℕ) (ms : List (Trial P)) (xs ys : List (TrialAt P))
      → (tally M rows ms (xs ++ ys) ≡ sum_fed (tally M rows ms xs) (tally M rows (members_taken M rows ms xs) ys)) × (members_taken M rows ms (xs ++ ys) ≡ members_taken M rows (members_taken M rows ms xs) ys)
  unfolding tally members_after
  taken_append rows ms [] ys = (sym (none_sum (tally M rows ms ys)), refl)
  taken_append rows ms (x ∷ xs) ys =
      let t = x.read in
      let o = judge M rows ms t in
      let ts = filter (on_grid M) (map (λ x. x.read) xs) in
      let us = filter (on_grid M) (map (λ x. x.read) ys) in
      let all = filter (on_grid M) (map (λ x. x.read) (xs ++ ys)) in
      let on = taken_append rows (members_then ms o) xs ys in
      let off = taken_append rows ms xs ys in
      elim (on_grid M t) as (λ b.
      (cond b (then_judged x.place o (tally M rows (members_then ms o) (xs ++ ys))) (then_denied (OffGrid x.place) (tally M rows ms (xs ++ ys))) ≡ sum_fed (cond b (then_judged x.place o (tally M rows (members_then ms o) xs)) (then_denied (OffGrid x.place) (tally M rows ms xs))) (tally M rows (members_after M rows ms (cond b (t ∷ ts) ts)) ys))
      × (members_after M rows ms (cond b (t ∷ all) all) ≡ members_after M rows (members_after M rows ms (cond b (t ∷ ts) ts)) us)) [
        | true ↦ (ap (then_judged x.place o) on.0 ∙ judged_sum x.place o (tally M rows (members_then ms o) xs) (tally M rows (members_taken M rows (members_then ms o) xs) ys), on.1)
        | false ↦ (ap (then_denied (OffGrid x.place)) off.0 ∙ denied_sum x.place (tally M rows ms xs) (tally M rows (members_taken M rows ms xs) ys), off.1)
      ]

  -- of so many trials each counts once, and each leaves at most one member more than stayed
  abbrev FewFed : ℕ → List (Trial P) → List (Trial P) → Fed → Type 0
  FewFed n ms ms' f = (f.entered + f.passed + f.denied ≡ n) × (f.displaced + length ms' ≤ length ms + n)

  judged_few : (ms ms' : List (Trial P)) (place n : ℕ) (o : Outcome P) (f : Fed) → length (gone_of o) + length (members_then ms o) ≤ length ms + 1 → FewFed n (members_then ms o) ms' f → FewFed (n + 1) ms ms' (then_judged place o f)
  judged_few ms ms' place n (judged PassedOver gone after) f l h = (omega (arith, h.0), omega (arith, h.1))
  judged_few ms ms' place n (judged Entered gone after) f l h = (omega (arith, h.0), omega (arith, h.1))
  judged_few ms ms' place n (judged Displaced gone after) f l h = (omega (arith, h.0), omega (arith, h.1))
  judged_few ms ms' place n (judged Replaced gone after) f l h = (omega (arith, h.0), omega (arith, h.1))
  judged_few ms ms' place n full f l h = (omega (arith, h.0), omega (arith, h.1))

  tally_few : (rows : ℕ) (ms : List (Trial P)) (xs : List (TrialAt P)) → FewFed (length xs) ms (members_taken M rows ms xs) (tally M rows ms xs)
  unfolding tally members_after
  tally_few rows ms [] = (refl, omega arith)
  tally_few rows ms (x ∷ xs) =
      let t = x.read in
      let o = judge M rows ms t in
      let ts = filter (on_grid M) (map (λ x. x.read) xs) in
      let on = tally_few rows (members_then ms o) xs in
      let off = tally_few rows ms xs in
      subst (λ n. FewFed n ms (members_taken M rows ms (x ∷ xs)) (tally M rows ms (x ∷ xs))) (add-one (length xs))
      (elim (on_grid M t) as (λ b. FewFed (length xs + 1) ms (members_after M rows ms (cond b (t ∷ ts) ts)) (cond b (then_judged x.place o (tally M rows (members_then ms o) xs)) (then_denied (OffGrid x.place) (tally M rows ms xs)))) [
        | true ↦ judged_few ms (members_taken M rows (members_then ms o) xs) x.place (length xs) o (tally M rows (members_then ms o) xs) (few_go M t rows ms).1 on
        | false ↦ (omega (arith, off.0), omega (arith, off.1))
      ])

  tally_below : (rows : ℕ) (ms : List (Trial P)) (xs : List (TrialAt P)) → length ms ≤ 4096 → length xs ≤ 255 → FedBelow (2 ^ 64) (tally M rows ms xs)
  tally_below rows ms xs few short = let f = tally_few rows ms xs in (omega (arith, f.0), omega (arith, f.0), omega (arith, f.0), omega (arith, f.1))

  -- nothing of these has entered where nothing of more has
  none_before : (place : ℕ) (o : Outcome P) (f : Fed) → (then_judged place o f).entered ≡ 0 → f.entered ≡ 0
  none_before place (judged v gone after) f e = omega arith
  none_before place full f e = e

  -- a trial that does not enter leaves the members
  idle_decided : (t : Trial P) (place rows : ℕ) (ms : List (Trial P)) (f : Fed) (d : Decision) → (then_judged place (outcome_by M t rows ms d) f).entered ≡ 0 → members_then ms (outcome_by M t rows ms d) ≡ ms
  idle_decided t place rows ms f Displace e = absurd (omega arith)
  idle_decided t place rows ms f (Replace n) e = absurd (omega arith)
  idle_decided t place rows ms f PassOver e = refl
  idle_decided t place rows ms f Enter e₀ =
      (elim (ltb (length ms) rows) as (λ b. (then_judged place (cond b (judged Entered [] (ms ++ (t ∷ []))) full) f).entered ≡ 0 → members_then ms (cond b (judged Entered [] (ms ++ (t ∷ []))) full) ≡ ms) [
        | true ↦ λ e. absurd (omega arith)
        | false ↦ λ e. refl
      ])
      e₀

  -- and so do trials of which none enters
  pub tally_idle : (rows : ℕ) (ms : List (Trial P)) (xs : List (TrialAt P)) → (tally M rows ms xs).entered ≡ 0 → members_taken M rows ms xs ≡ ms
  unfolding tally members_after
  tally_idle rows ms [] e = refl
  tally_idle rows ms (x ∷ xs) e₀ =
      let t = x.read in
      let o = judge M rows ms t in
      let ts = filter (on_grid M) (map (λ x. x.read) xs) in
      let judged_idle : (f : Fed) → (then_judged x.place o f).entered ≡ 0 → members_then ms o ≡ ms = λ f e.
      subst (λ o. (then_judged x.place o f).entered ≡ 0 → members_then ms o ≡ ms) (sym (judge_decided M t rows ms)) (idle_decided t x.place rows ms f (decision M ms t)) e in
      (elim (on_grid M t) as (λ b. (cond b (then_judged x.place o (tally M rows (members_then ms o) xs)) (then_denied (OffGrid x.place) (tally M rows ms xs))).entered ≡ 0 → members_after M rows ms (cond b (t ∷ ts) ts) ≡ ms) [
        | true ↦ λ e. tally_idle rows (members_then ms o) xs (none_before x.place o (tally M rows (members_then ms o) xs) e) ∙ judged_idle (tally M rows (members_then ms o) xs) e
        | false ↦ λ e. tally_idle rows ms xs e
      ])
      e₀

  -- one trial is tried
  pub taken_one : (x : TrialAt P) (a b : Members P) (r : Result Offered Denial) → TriedRight M x.read a r b → TakenRight M (x ∷ []) a (one_fed x.place r) b
  taken_one x a b r T = record {
    told = ap (one_fed x.place) T.value ∙ sym (tally_one (length a.rows.now) (held_by a) x);
    in_order = T.in_order ∙ sym (members_one (length a.rows.now) (held_by a) x);
    long = T.long;
    same_rows = T.same_rows;
  }

  -- none is
  pub taken_none : (a : Members P) → TakenRight M [] a (all_entered 0) a
  unfolding tally members_after
  taken_none a = record { told = refl; in_order = refl; long = refl; same_rows = refl }

  -- all of the trials xs come to what those came to that were tried, and what is left comes to
  pub record Going (xs : List (TrialAt P)) (a : Members P) (left : List (TrialAt P)) (r : Fed) (b : Members P) : Type 0 where
    pub told : sum_fed r (tally M (length a.rows.now) (held_by b) left) ≡ tally M (length a.rows.now) (held_by a) xs
    pub in_order : members_taken M (length a.rows.now) (held_by b) left ≡ members_taken M (length a.rows.now) (held_by a) xs
    pub long : length b.rows.now ≡ length a.rows.now
    pub same_rows : b.rows.ghost_name ≡ a.rows.ghost_name

  module _ (xs : List (TrialAt P)) (a : Members P) where
    pub going_more : (now left : List (TrialAt P)) (r next : Fed) (b c : Members P) → a.count ≤ 4096 → length xs ≤ 255 → Going xs a (now ++ left) r b → TakenRight M now b next c → Going xs a left (capped_fed (sum_fed r next)) c
    going_more now left r next b c few short G T =
        let n = length a.rows.now in
        let ms = held_by b in
        let same = G.long in
        let append = taken_append n ms now left in
        let members : held_by c ≡ members_taken M n ms now = T.in_order ∙ ap (λ k. members_taken M k ms now) same in
        let fed : next ≡ tally M n ms now = T.told ∙ ap (λ k. tally M k ms now) same in
        let rest = tally M n (held_by c) left in
        let both : sum_fed next rest ≡ tally M n ms (now ++ left) = ap (λ f. sum_fed f rest) fed ∙ ap (λ l. sum_fed (tally M n ms now) (tally M n l left)) members ∙ sym append.0 in
        let all : sum_fed r (sum_fed next rest) ≡ tally M n (held_by a) xs = ap (sum_fed r) both ∙ G.told in
        let below = tally_below n (held_by a) xs (omega (arith, length-take a.count a.rows.now)) short in
        let same_sum = capped_fed_same (sum_fed r next) (below_part (2 ^ 64) r next rest (tally M n (held_by a) xs) all below) in
        record {
          told = ap (λ f. sum_fed f rest) same_sum ∙ sum_assoc r next rest ∙ all;
          in_order = ap (λ l. members_taken M n l left) members ∙ sym append.1 ∙ G.in_order;
          long = T.long ∙ same;
          same_rows = T.same_rows ∙ G.same_rows;
        }

    pub going_all : (r : Fed) (b : Members P) → Going xs a [] r b → TakenRight M xs a r b
    unfolding tally members_after
    going_all r b G = record { told = sym (sum_none r) ∙ G.told; in_order = G.in_order; long = G.long; same_rows = G.same_rows }

module _ {P : Type 0} (reads : List ℕ → P) where
  -- the trials of records are those of the first and those of the rest
  pub trials_first : (x : ItemAt) (xs : List ItemAt) → trials_of reads (x ∷ xs) ≡ trials_of reads (x ∷ []) ++ trials_of reads xs
  trials_first x xs =
      elim x.item as (λ i. trials_of reads (record { place = x.place; item = i } ∷ xs) ≡ trials_of reads (record { place = x.place; item = i } ∷ []) ++ trials_of reads xs) [ trial tag bytes ↦ refl | note text ↦ refl ]

  -- there are no more trials than records
  pub trials_few : (xs : List ItemAt) → length (trials_of reads xs) ≤ length xs
  trials_few [] = omega arith
  trials_few (x ∷ xs) =
      let rest = trials_few xs in
      elim x.item as (λ i. length (trials_of reads (record { place = x.place; item = i } ∷ xs)) ≤ suc (length xs)) [ trial tag bytes ↦ omega arith | note text ↦ omega arith ]

module _ {P : Type 0} (M : Meaning P) (reads : List ℕ → P) (place : ℕ) (i : Item) (a : Members P) (fed : Fed) where
  -- a record that is a trial is tried
  pub record_tried : (tag : ℕ) (bytes : List ℕ) (p : P) (r : Result Offered Denial) (b : Members P) → i ≡ trial tag bytes → p ≡ reads bytes → fed ≡ one_fed place r → TriedRight M (record { point = p; tag = tag }) a r b → TakenRight M (trials_of reads (record { place = place; item = i } ∷ [])) a fed b
  record_tried tag bytes p r b e read told T =
      rw (e, told)
      (taken_one M (record { place = place; read = record { point = reads bytes; tag = tag } }) a b r (subst (λ p. TriedRight M (record { point = p; tag = tag }) a r b) read T))

  -- and one that is a note is skipped
  pub record_skipped : (text : List ℕ) → i ≡ note text → fed ≡ all_entered 0 → TakenRight M (trials_of reads (record { place = place; item = i } ∷ [])) a fed a
  record_skipped text e told = rw (e, told) (taken_none M a)

module _ {P : Type 0} (M : Meaning P) (reads : List ℕ → P) (xs : List (TrialAt P)) (a : Members P) where
  -- one record more is taken
  pub going_record : (before after : List ItemAt) (x : ItemAt) (r next fed : Fed) (b c : Members P) → a.count ≤ 4096 → length xs ≤ 255 → before ≡ x ∷ after → fed ≡ capped_fed (sum_fed r next)
      → Going M xs a (trials_of reads before) r b → TakenRight M (trials_of reads (x ∷ [])) b next c → Going M xs a (trials_of reads after) fed c
  going_record before after x r next fed b c few short first sum G T =
      let split = ap (trials_of reads) first ∙ trials_first reads x after in
      rw sum
      (going_more M xs a (trials_of reads (x ∷ [])) (trials_of reads after) r next b c few short (subst (λ ys. Going M xs a ys r b) split G) T)

  -- all are
  pub going_records : (left : List ItemAt) (r : Fed) (b : Members P) → left ≡ [] → Going M xs a (trials_of reads left) r b → TakenRight M xs a r b
  going_records left r b none G = going_all M xs a r b (subst (λ l. Going M xs a (trials_of reads l) r b) none G)
