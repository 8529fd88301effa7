-- What holds of a save, by its checks and by the part of the members that is written.
use Rattle.std.proofs.Common.{◌≡◌, ℕ, ◌+◌, ◌-◌, ◌*◌, ◌/◌, ◌%◌, ◌<◌, ◌≤◌, min, max, true, false, cond, not, eqb, leb, List, map, length, take, drop, is_ok, Ok, Err, Result, sym, refl, ap, ◌∙◌, le-div_iff_mul-le, le-leb, length-drop, length-take, arith}
use native.Mathlib.Nat.{div-le_self, zero-div}
use Rattle.std.specs.Int.{div_ceil}
use Rattle.std.proofs.lemmas.Grind.{div_ceil_times}
use Rattle.std.proofs.lemmas.List.{take_all}
use Rattle.std.proofs.lemmas.Bool.{false≢true, cond_both, cond-true, cond-false, eq-eqb, eqb-false, eqb-true, lt-leb, ne_eqb, not_from_false, not_from_true}
use Rattle.space.specs.Meaning.{Meaning, Lawful}
use Rattle.space.specs.Recording.{Recording, WritableIfAdmitted}
use Rattle.space.specs.declared.tagged.Trial.{Trial}
use Rattle.log_block.specs.declared.writing.TrialBytes.{TrialBytes}
use Rattle.log_block.specs.Block.{block_of}
use Rattle.log_block.specs.Items.{Item}
use Rattle.log_block.specs.Writing.{capacity, trial_item, written_count, written_items, written_over}
use Rattle.history.specs.declared.answers.Answer.TheVariants as answer
use Rattle.history.specs.declared.denials.Denial.{Denial}
use Rattle.history.specs.declared.denials.Denial.TheVariants.{NoSuchBlock, WrongLength}
use Rattle.history.specs.Answers.{save_answer, told}
use Rattle.history.specs.Calls.Call.{save}
use Rattle.history.specs.Lists.{EachIn}
use Rattle.history.specs.Saving.{block_count, in_block, item_for, part, per_block, saved_block}
use Rattle.archive.specs.Lent.{Lent, members}
use Rattle.archive.specs.Saving.{SaveRight, saved_over}
use Rattle.archive.proofs.Idle.{idle_stays, own, strange}

-- trials that a block has room for are all written
pub all_written : (m number : ℕ) (ts : List TrialBytes) (before after : List ℕ) (items : List Item) → m ≤ 6 → length before ≡ 512 → length ts ≤ 500 / (6 + 4 * m) → map (trial_item m) ts ≡ items → after ≡ written_over m number ts before → after ≡ block_of m number items
all_written m number ts before after items few long fits same e =
    let room : capacity m ≡ 500 / (6 + 4 * m) = cond-true (leb m 6) (500 / (6 + 4 * m)) 0 (le-leb m 6 few) in
    let all : take (written_count m ts) ts ≡ ts = take_all (written_count m ts) ts (omega (arith, room)) in
    e
    ∙ cond-true (eqb (length before) 512) (block_of m number (written_items m ts)) before (eq-eqb (length before) 512 long)
    ∙ ap (λ l. block_of m number (map (trial_item m) l)) all
    ∙ ap (block_of m number) same

-- a block has room for a trial, and for no more than 500
pub some_per_block : {P : Type 0} (M : Meaning P) → Lawful M → (1 ≤ per_block M) × (per_block M ≤ 500)
some_per_block M L = (
  (le-div_iff_mul-le {k = 6 + 4 * M.objectives} {x = 1} {y = 500} (omega arith)).1 (omega (arith, L.few.1)),
  div-le_self 500 (6 + 4 * M.objectives),
)

-- so many blocks, by a division that rounds up
pub rounded_up : (q n : ℕ) → 1 ≤ q → max (div_ceil n q) 1 ≡ block_count q n
rounded_up q n one =
    let d = n / q + min 1 (n % q) in
    let m = (n + (q - 1)) / q in
    let times = div_ceil_times n q one in
    let least = (le-div_iff_mul-le {k = q} {x = d} {y = n + (q - 1)} one).1 (omega (arith, times.1)) in
    let most : d + 1 ≤ m → ⊥ = λ h. let far = (le-div_iff_mul-le {k = q} {x = d + 1} {y = n + (q - 1)} one).0 h in omega (arith, far, times.0) in
    let same : d ≡ m = omega (arith, least, most) in
    cond_both (eqb n 0) 1 m (λ b. max d 1 ≡ b)
    (λ e. let z : n ≡ 0 = eqb-true n 0 e in let none = zero-div q in rw z (omega (arith, none)))
    (λ e. let full = eqb-false n 0 e in let some = (le-div_iff_mul-le {k = q} {x = 1} {y = n + (q - 1)} one).1 (omega arith) in omega (arith, same, some))

-- a block that there is begins with a member, or it is the only one
pub block_begins : (q n number : ℕ) → 1 ≤ q → number < block_count q n → number * q ≤ n
block_begins q n number one =
    cond_both (eqb n 0) 1 ((n + (q - 1)) / q) (λ b. number < b → number * q ≤ n)
    (λ e l. let z : number ≡ 0 = omega arith in rw z (omega arith))
    (λ e l. let all = (le-div_iff_mul-le {k = q} {x = number + 1} {y = n + (q - 1)} (omega arith)).0 (omega arith) in omega arith)

-- and the blocks are few
pub blocks_few : (q n : ℕ) → q ≤ 500 → block_count q n ≤ n + 500
blocks_few q n few =
    cond_both (eqb n 0) 1 ((n + (q - 1)) / q) (λ b. b ≤ n + 500)
    (λ e. omega arith)
    (λ e. omega (arith, div-le_self (n + (q - 1)) q))

-- how many members are in a block
pub part_long : {P : Type 0} (q : ℕ) (ms : List (Trial P)) (number : ℕ) → length (part q ms number) ≡ in_block q (length ms) number
part_long q ms number = length-take q (drop (number * q) ms) ∙ ap (min q) (length-drop (number * q) ms)

module _ (rows lent number size : ℕ) where
  -- what a save of n members answers over its own rows, q to a block
  abbrev saved : ℕ → ℕ → Result ℕ Denial
  saved q n = cond (not (eqb size 512)) (Err WrongLength) (cond (leb (block_count q n) number) (Err NoSuchBlock) (Ok (in_block q n number)))

  module _ {P : Type 0} (M : Meaning P) (ms : List (Trial P)) (e : lent ≡ rows) where
    own_saved : save_answer M rows ms lent number size ≡ saved (per_block M) (length ms)
    own_saved = own rows lent (saved (per_block M) (length ms)) e

    pub save_wrong : (size ≡ 512 → ⊥) → Err WrongLength ≡ save_answer M rows ms lent number size
    save_wrong other = sym (own_saved ∙ cond-true (not (eqb size 512)) _ _ (not_from_false (eqb size 512) (ne_eqb size 512 other)))

    module _ (whole : size ≡ 512) where
      whole_saved : save_answer M rows ms lent number size ≡ cond (leb (block_count (per_block M) (length ms)) number) (Err NoSuchBlock) (Ok (in_block (per_block M) (length ms) number))
      whole_saved = own_saved ∙ cond-false (not (eqb size 512)) _ _ (not_from_true (eqb size 512) (eq-eqb size 512 whole))

      pub save_past : block_count (per_block M) (length ms) ≤ number → Err NoSuchBlock ≡ save_answer M rows ms lent number size
      save_past l = sym (whole_saved ∙ cond-true (leb (block_count (per_block M) (length ms)) number) _ _ (le-leb (block_count (per_block M) (length ms)) number l))

      pub save_granted : (n : ℕ) → number < block_count (per_block M) (length ms) → n ≡ in_block (per_block M) (length ms) number → Ok n ≡ save_answer M rows ms lent number size
      save_granted n l same = ap (λ k. Ok k) same ∙ sym (whole_saved ∙ cond-false (leb (block_count (per_block M) (length ms)) number) _ _ (lt-leb (block_count (per_block M) (length ms)) number l))

module _ {P : Type 0} (M : Meaning P) (R : Recording P) (L : Lawful M) (number : ℕ) (a : Lent P) (before : List ℕ) where
  pub save_right : (r : Result ℕ Denial) (after : List ℕ) → r ≡ save_answer M a.rows (members a) (length a.held) number (length before) → after ≡ saved_over M R (members a) number before r → (is_ok r ≡ true → EachIn (part (per_block M) (members a) number) (λ r. WritableIfAdmitted M R r.point)) → SaveRight M R number a before r after
  save_right r after e block writable =
      let n = length before in
      record {
        value = e;
        block = block;
        writable = writable;
        stays = idle_stays M L a.rows a.count a.held (save (length a.held) number n) (told answer.Saved r) (λ reads. ap (told answer.Saved) e) (λ reads. refl);
        stays_apart = λ other held. idle_stays M L a.rows a.count held (save (length a.held) number n) (told answer.Saved r) (λ reads. ap (told answer.Saved) (e ∙ strange a.rows (length a.held) (saved a.rows (length a.held) number n (per_block M) (length (members a))) (saved a.rows (length a.held) number n (per_block M) (length (take a.count held))) other)) (λ reads. refl);
      }

  -- the part of the members is written that the block is to hold
  pub block_saved : (n : ℕ) (after : List ℕ) (ms : List (Trial P)) → ms ≡ part (per_block M) (members a) number → after ≡ block_of M.objectives number (map (item_for R) ms) → after ≡ saved_over M R (members a) number before (Ok n)
  unfolding saved_block
  block_saved n after ms same e = e ∙ ap (λ l. block_of M.objectives number (map (item_for R) l)) same

-- a denied save writes nothing
pub nothing_written : {A : Type 0} → false ≡ true → A
nothing_written e = absurd (false≢true e)
