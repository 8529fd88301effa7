-- Of trials as many fit as a block has room for.
use Rattle.std.proofs.Common.{◌≡◌, ℕ, suc, ◌+◌, ◌-◌, ◌*◌, ◌/◌, ◌<◌, ◌≤◌, min, Bool, true, false, cond, eqb, leb, ◌&&◌, List, [], ◌∷◌, map, length, take, Ok, Err, Result, sym, refl, ap, ◌∙◌, subst, ⊎_elim, add-one, arith}
use Rattle.std.specs.Result.{IfOk, OnOk}
use Rattle.std.specs.List.{AllByRecursion}
use Rattle.std.proofs.lemmas.Bool.{and_from, cases_Bool, cond-false, cond-true, eq-eqb, le-leb, leb-false, leb-true, lt-leb}
use Rattle.std.proofs.lemmas.List.{length-map, length-take-le, take_all, take_min}
use Rattle.std.proofs.Math.Nat.{div-eq-sub-div, div-eq_of_lt}
use Rattle.log_block.specs.declared.faults.BlockFault.{BlockFault}
use Rattle.log_block.specs.declared.faults.BlockFault.TheVariants.{WrongLength}
use Rattle.log_block.specs.declared.writing.TrialBytes.{TrialBytes}
use Rattle.log_block.specs.Items.{Item, item_size}
use Rattle.log_block.specs.Block.{block_of}
use Rattle.log_block.specs.Writing.{capacity, fits, fitting_items, may_hold, records_answer, records_over, run_in, trial_item, write_answer, written_count, written_items, written_over}

-- a trial as code has it
abbrev pub Whole : TrialBytes → Type 0
Whole t = length t.point ≡ 24

module _ (m : ℕ) (few : m ≤ 6) where
  -- a trial's record takes so many bytes, and fits exactly where these are left
  abbrev size : ℕ
  size = 6 + 4 * m

  point_long : (t : TrialBytes) → Whole t → length (take (4 * m) t.point) ≡ 4 * m
  point_long t w = length-take-le (4 * m) t.point (omega arith)

  sized : (t : TrialBytes) → Whole t → item_size (trial_item m t) ≡ size
  sized t w = omega (arith, point_long t w)

  does_fit : (left : ℕ) (t : TrialBytes) → Whole t → size ≤ left → fits m left (trial_item m t) ≡ true
  does_fit left t w l =
      let x = trial_item m t in
      let held : may_hold m x ≡ true = eq-eqb (length (take (4 * m) t.point)) (4 * m) (point_long t w) in
      let room : leb (item_size x) left ≡ true = le-leb (item_size x) left (omega (arith, sized t w)) in
      and_from (leb m 6) (may_hold m x && leb (item_size x) left) (le-leb m 6 few) (and_from (may_hold m x) (leb (item_size x) left) held room)

  -- none does where fewer are left
  fits_not : (left : ℕ) (t : TrialBytes) → Whole t → left < size → fits m left (trial_item m t) ≡ false
  fits_not left t w l =
      let x = trial_item m t in
      let held : may_hold m x ≡ true = eq-eqb (length (take (4 * m) t.point)) (4 * m) (point_long t w) in
      let room : leb (item_size x) left ≡ false = lt-leb (item_size x) left (omega (arith, sized t w)) in
      let six = le-leb m 6 few in
      grind arith

  -- so many do in all, where each that is looked at is as code has it
  run : (left : ℕ) (ts : List TrialBytes) → AllByRecursion Whole (take (length (run_in m left (map (trial_item m) ts)) + 1) ts) → run_in m left (map (trial_item m) ts) ≡ map (trial_item m) (take (left / size) ts)
  run left [] w = ap (map (trial_item m)) (sym (take_all (left / size) [] (omega arith)))
  run left (t ∷ ts) w =
      let x = trial_item m t in
      let f : TrialBytes → Item = trial_item m in
      let rest = run_in m (left - item_size x) (map f ts) in
      let both : AllByRecursion Whole (take (suc (length (run_in m left (map f (t ∷ ts))))) (t ∷ ts)) = subst (λ n. AllByRecursion Whole (take n (t ∷ ts))) (add-one (length (run_in m left (map f (t ∷ ts))))) w in
      ⊎_elim
      (λ l.
      let one : run_in m left (map f (t ∷ ts)) ≡ x ∷ rest = cond-true (fits m left x) (x ∷ rest) [] (does_fit left t both.0 (leb-true size left l)) in
      let others : AllByRecursion Whole (take (length rest + 1) ts) = subst (λ n. AllByRecursion Whole (take n ts)) (ap length one ∙ sym (add-one (length rest))) both.1 in
      let less : (left - item_size x) / size ≡ (left - size) / size = ap (λ n. (left - n) / size) (sized t both.0) in
      let count : left / size ≡ suc ((left - size) / size) = div-eq-sub-div {m = size} {n = left} (omega arith) (leb-true size left l) ∙ add-one ((left - size) / size) in
      one ∙ (ap (λ xs. x ∷ xs) (run (left - item_size x) ts others ∙ ap (λ n. map f (take n ts)) less) ∙ ap (λ n. map f (take n (t ∷ ts))) (sym count)))
      (λ l.
      let none = cond-false (fits m left x) (x ∷ rest) [] (fits_not left t both.0 (leb-false size left l)) in
      none ∙ ap (λ n. map f (take n (t ∷ ts))) (sym (div-eq_of_lt {n = left} {m = size} (leb-false size left l))))
      (cases_Bool (leb size left))

-- no record of more than six objectives fits
none_fits : (m left : ℕ) (items : List Item) → leb m 6 ≡ false → run_in m left items ≡ []
none_fits m left [] f = refl
none_fits m left (x ∷ xs) f = cond-false (fits m left x) (x ∷ run_in m (left - item_size x) xs) [] (grind arith)

-- the trials that fit are those that there is room for
pub fitting_trials : (m : ℕ) (ts : List TrialBytes) → AllByRecursion Whole (take (length (fitting_items m (map (trial_item m) ts)) + 1) ts) → fitting_items m (map (trial_item m) ts) ≡ written_items m ts
fitting_trials m ts w =
    let least : min (length ts) (capacity m) ≡ min (capacity m) (length ts) = omega arith in
    let taken : take (written_count m ts) ts ≡ take (capacity m) ts = ap (λ n. take n ts) least ∙ take_min (capacity m) ts in
    ⊎_elim
    (λ l.
    let room = cond-true (leb m 6) (500 / (6 + 4 * m)) 0 l in
    run m (leb-true m 6 l) 500 ts w ∙ ap (map (trial_item m)) (sym (taken ∙ ap (λ n. take n ts) room)))
    (λ l.
    let room = cond-false (leb m 6) (500 / (6 + 4 * m)) 0 l in
    none_fits m 500 (map (trial_item m) ts) l ∙ ap (map (trial_item m)) (sym (taken ∙ ap (λ n. take n ts) room)))
    (cases_Bool (leb m 6))

pub trials_counted : (m : ℕ) (ts : List TrialBytes) → length (written_items m ts) ≡ written_count m ts
trials_counted m ts = length-map (take (written_count m ts) ts) (trial_item m) ∙ length-take-le (written_count m ts) ts (omega arith)

-- two choices are the same where they are at the first case
same_choice : {A : Type 0} (b : Bool) (x y z : A) → (b ≡ true → x ≡ y) → cond b x z ≡ cond b y z
same_choice true x y z e = e refl
same_choice false x y z e = refl

-- so what a writer of the trials' records answers and writes is what one of the trials does
module _ (m number : ℕ) (ts : List TrialBytes) (bs : List ℕ) (r : Result ℕ BlockFault) (told : r ≡ records_answer m (map (trial_item m) ts) bs) (typed : IfOk r (λ n. AllByRecursion Whole (take (n + 1) ts))) where
  abbrev fitting : List Item
  fitting = fitting_items m (map (trial_item m) ts)

  same : eqb (length bs) 512 ≡ true → fitting ≡ written_items m ts
  same b =
      let ok : r ≡ Ok (length fitting) = told ∙ cond-true (eqb (length bs) 512) (Ok (length fitting)) (Err WrongLength) b in
      fitting_trials m ts (subst (λ a. IfOk a (λ n. AllByRecursion Whole (take (n + 1) ts))) ok typed)

  pub same_answer : r ≡ write_answer m ts bs
  same_answer = told ∙ same_choice (eqb (length bs) 512) (Ok (length fitting)) (Ok (written_count m ts)) (Err WrongLength) (λ b. ap (λ n. Ok n) (ap length (same b) ∙ trials_counted m ts))

  pub same_block : records_over m number (map (trial_item m) ts) bs ≡ written_over m number ts bs
  same_block = same_choice (eqb (length bs) 512) (block_of m number fitting) (block_of m number (written_items m ts)) bs (λ b. ap (block_of m number) (same b))

  pub same_records : (Q : List Item → Type 0) → OnOk r (Q fitting) → OnOk r (Q (written_items m ts))
  same_records Q h =
      ⊎_elim
      (λ b. subst (λ items. OnOk r (Q items)) (same b) h)
      (λ b. subst (λ a. OnOk a (Q (written_items m ts))) (sym (told ∙ cond-false (eqb (length bs) 512) (Ok (length fitting)) (Err WrongLength) b)) tt)
      (cases_Bool (eqb (length bs) 512))
