-- What each of the four steps leaves.
use Rattle.std.proofs.Common.{◌≡◌, ℕ, suc, ◌+◌, ◌-◌, ◌<◌, ◌≤◌, Bool, true, false, cond, not, ltb, List, [], ◌∷◌, ◌++◌, map, length, get_or, take, drop, set, Ok, Err, Some, filter, sym, refl, ap, ◌∙◌, subst, add-one, arith, Result}
use Rattle.std.specs.List.{copy_within, position, position_from, remove}
use Rattle.std.specs.List.Sorted.{IsPermutation}
use Rattle.std.proofs.lemmas.List.{length-take-le, length_push, length-set, length-append, length-drop, take-append-le, take_more_set, take-take, drop-take, get_or-take, drop_more, drop-set-lt}
use Rattle.std.proofs.lemmas.List.Edits.{length-paste, length-remove, take-paste}
use Rattle.std.proofs.lemmas.List.Filters.{length-filter_both}
use Rattle.std.proofs.lemmas.List.Sorted.{IsPermutation-refl}
use Rattle.std.proofs.lemmas.Iterator.Adapters.{position_from-zero}
use Rattle.std.proofs.lemmas.Option.{none-some, same_Some}
use Rattle.std.proofs.lemmas.Bool.{false≢true, cond-true, cond-false, lt-ltb, le-ltb}
use Rattle.space.specs.Meaning.{Meaning}
use Rattle.space.specs.declared.tagged.Trial.{Trial}
use Rattle.history.specs.declared.answers.Offered.{Offered}
use Rattle.history.specs.declared.denials.Denial.{Denial}
use Rattle.history.specs.declared.denials.Denial.TheVariants.{Full}
use Rattle.history.specs.declared.verdicts.Verdict.TheVariants.{PassedOver, Entered, Displaced, Replaced}
use Rattle.history.specs.Lists.{any, first_of, without_first}
use Rattle.history.specs.Step.{Outcome, below, beaten, displacing, replacing, entering, judge, members_then}
use Rattle.history.specs.Step.Outcome.{judged, full}
use Rattle.history.proofs.Membership.{some_kept, length_without}
use Rattle.archive.specs.declared.deciding.Decision.{Decision}
use Rattle.archive.specs.declared.deciding.Decision.TheVariants.{Displace, Replace, PassOver, Enter}
use Rattle.archive.specs.Deciding.{decision}
use Rattle.archive.specs.declared.members.Members.{Members}
use Rattle.archive.specs.Held.{held_by}
use Rattle.archive.specs.Offering.{TagsInFront, Closed, gone_of, StepRight, replacing_row}
use Rattle.archive.proofs.Decided.{first_beaten_from, outcome_by, judge_decided}

-- what was decided over the members that were looked at is what there is to decide
pub reached : {P : Type 0} (M : Meaning P) (t : Trial P) {looked members : List (Trial P)} {said is : Decision} → looked ≡ members → said ≡ decision M looked t → said ≡ is → decision M members t ≡ is
reached M t same told case = ap (λ ms. decision M ms t) (sym same) ∙ sym told ∙ case

-- tags in the order of the rows are tags in any order
tags_in_row_order : {P : Type 0} (gone : List (Trial P)) (list list' : List ℕ) (n : ℕ) → n ≡ length gone → take n list' ≡ map (λ r. r.tag) gone → drop n list' ≡ drop n list → TagsInFront gone list list'
tags_in_row_order gone list list' n long tags rest = record {
  tags = subst (IsPermutation (map (λ r. r.tag) gone)) (sym tags ∙ ap (λ k. take k list') long) (IsPermutation-refl (map (λ r. r.tag) gone));
  rest = ap (λ k. drop k list') (sym long) ∙ rest ∙ ap (λ k. drop k list) long;
}

-- nothing goes, and the list is as it was
pub no_tags : {P : Type 0} (list : List ℕ) → TagsInFront {P = P} [] list list
no_tags {P} list = tags_in_row_order {P = P} [] list list 0 refl refl refl

module _ {P : Type 0} (goes : Trial P → Bool) (a : Members P) (n : ℕ) (closed : List (Trial P)) (list list' : List ℕ) (same : length closed ≡ length (held_by a)) (C : Closed goes (held_by a) list n closed list') where
  how_many_stay : n ≡ length (filter (λ r. not (goes r)) (held_by a))
  how_many_stay = sym (length-take-le n closed (omega (arith, C.fewer))) ∙ ap length C.stay

  how_many_went : a.count - n ≡ length (filter goes (held_by a))
  how_many_went =
      let all = length-take-le a.count a.rows.now a.within in
      let both = length-filter_both goes (λ r. not (goes r)) (λ r. refl) (held_by a) in
      let stay = how_many_stay in
      omega arith

  -- where some go, a row comes free
  pub row_free : any goes (held_by a) ≡ true → n < a.count
  row_free some = let one = some_kept goes (held_by a) some in omega (arith, how_many_went)

-- the rows, once the members that stay have closed up
abbrev pub put_back : {P : Type 0} → Members P → List (Trial P) → List (Trial P)
put_back a closed = closed ++ drop a.count a.rows.now

pub length-put_back : {P : Type 0} (a : Members P) (closed : List (Trial P)) → length closed ≡ length (held_by a) → length (put_back a closed) ≡ length a.rows.now
length-put_back a closed same = omega (arith, length-append closed (drop a.count a.rows.now), length-drop a.count a.rows.now, length-take-le a.count a.rows.now a.within, a.within)

module _ {P : Type 0} (M : Meaning P) (t : Trial P) (a b : Members P) (n : ℕ) (closed : List (Trial P)) (list list' : List ℕ) (same : length closed ≡ length (held_by a)) (some : any (below M t) (held_by a) ≡ true) (C : Closed (below M t) (held_by a) list n closed list')
    (counted : b.count ≡ n + 1) (rows : b.rows.now ≡ set (put_back a closed) n t) (name : b.rows.ghost_name ≡ a.rows.ghost_name) where
  pub displaced_right : StepRight (displacing M (held_by a) t) a list (Ok (record { verdict = Displaced; displaced = a.count - n })) b list'
  displaced_right =
      let all = length-take-le a.count a.rows.now a.within in
      let whole = length-put_back a closed same in
      let went = how_many_went (below M t) a n closed list list' same C in
      let free = row_free (below M t) a n closed list list' same C some in
      let kept = filter (λ r. not (below M t r)) (held_by a) in
      let stay = how_many_stay (below M t) a n closed list list' same C in
      record {
        value = ap (λ k. Ok (record { verdict = Displaced; displaced = k })) went;
        counted = counted ∙ ap (λ k. k + 1) stay ∙ sym (length_push kept t);
        in_order =
            ap (λ k. take k b.rows.now) counted ∙ ap (take (n + 1)) rows ∙ take_more_set (put_back a closed) n t (omega (arith, a.within))
            ∙ ap (λ l. l ++ (t ∷ [])) (take-append-le n closed (drop a.count a.rows.now) (omega arith) ∙ C.stay);
        tags = λ room.
            let d : length (held_by a) - n ≡ a.count - n = omega arith in
            tags_in_row_order (filter (below M t) (held_by a)) list list' (length (held_by a) - n) (d ∙ went) (C.tags (omega (arith, went))) C.rest;
        untouched = λ e. absurd (false≢true e);
        long = ap length rows ∙ length-set (put_back a closed) n t ∙ whole;
        same_rows = name;
      }

module _ {P : Type 0} (t x : Trial P) (a b : Members P) (row : ℕ) (held₁ : List (Trial P)) (list list' : List ℕ) (noted : list' ≡ set list 0 (get_or a.rows.now row x).tag) (inside : row < a.count) (moved : held₁ ≡ copy_within a.rows.now (row + 1) a.count row)
    (counted : b.count ≡ a.count) (rows : b.rows.now ≡ set held₁ (a.count - 1) t) (name : b.rows.ghost_name ≡ a.rows.ghost_name) where
  -- the rows after the one that goes have closed up
  closed_up : take (a.count - 1) held₁ ≡ remove (held_by a) row
  closed_up =
      let held = a.rows.now in
      let n = a.count - (row + 1) in
      let end : row + n ≡ a.count - 1 = omega arith in
      let whole : row + 1 + n ≡ a.count = omega arith in
      ap (λ k. take k held₁) (sym end) ∙ ap (take (row + n)) moved
      ∙ take-paste held row (drop (row + 1) held) n (omega (arith, a.within)) (omega (arith, a.within, length-drop (row + 1) held))
      ∙ ap (λ l. l ++ take n (drop (row + 1) held)) (sym (take-take row a.count held (omega arith)))
      ∙ ap (λ l. take row (held_by a) ++ l) (sym (drop-take (row + 1) n held) ∙ ap (λ k. drop (row + 1) (take k held)) whole)
      ∙ rw add-one refl

  pub replaced_right : StepRight (replacing_row (held_by a) row t) a list (Ok (record { verdict = Replaced; displaced = 1 })) b list'
  replaced_right =
      let members = held_by a in
      let all = length-take-le a.count a.rows.now a.within in
      let long : length held₁ ≡ length a.rows.now = ap length moved ∙ length-paste a.rows.now row (drop (row + 1) a.rows.now) (a.count - (row + 1)) (omega (arith, a.within)) (omega (arith, a.within, length-drop (row + 1) a.rows.now)) in
      let y = get_or a.rows.now row x in
      let this : take 1 (drop row members) ≡ y ∷ [] = ap (take 1) (drop_more members row x (omega arith)) ∙ ap (λ z. z ∷ []) (get_or-take a.count a.rows.now row x inside) in
      let one : 1 ≡ length (take 1 (drop row members)) = sym (ap length this) in
      let left = length-remove members row (omega arith) in
      let whole : a.count - 1 + 1 ≡ a.count = omega arith in
      let tag : 1 ≤ length list → take 1 list' ≡ y.tag ∷ [] = λ room. ap (take 1) noted ∙ take_more_set list 0 y.tag (omega arith) in
      record {
        value = ap (λ k. Ok (record { verdict = Replaced; displaced = k })) one;
        counted = (let e = length_push (remove members row) t in omega (arith, e, left, all, counted));
        in_order =
            ap (λ k. take k b.rows.now) counted ∙ ap (take a.count) rows ∙ ap (λ k. take k (set held₁ (a.count - 1) t)) (sym whole) ∙ take_more_set held₁ (a.count - 1) t (omega (arith, a.within))
            ∙ ap (λ l. l ++ (t ∷ [])) closed_up;
        tags = λ room.
            tags_in_row_order (take 1 (drop row members)) list list' 1 one
            (tag (omega (arith, one)) ∙ ap (map (λ r. r.tag)) (sym this))
            (ap (drop 1) noted ∙ drop-set-lt 1 list 0 y.tag (omega arith));
        untouched = λ e. absurd (false≢true e);
        long = ap length rows ∙ length-set held₁ (a.count - 1) t ∙ long;
        same_rows = name;
      }

module _ {P : Type 0} (t : Trial P) (a : Members P) (list : List ℕ) where
  all_there : length (held_by a) ≡ a.count
  all_there = length-take-le a.count a.rows.now a.within

  pub entered_right : (b : Members P) → (a.count ≡ length a.rows.now → ⊥) → b.count ≡ a.count + 1 → b.rows.now ≡ set a.rows.now a.count t → b.rows.ghost_name ≡ a.rows.ghost_name → StepRight (entering (length a.rows.now) (held_by a) t) a list (Ok (record { verdict = Entered; displaced = 0 })) b list
  entered_right b free counted rows name =
      let room : length (held_by a) < length a.rows.now = omega (arith, all_there, a.within) in
      subst (λ o. StepRight o a list (Ok (record { verdict = Entered; displaced = 0 })) b list) (sym (cond-true (ltb (length (held_by a)) (length a.rows.now)) _ _ (lt-ltb (length (held_by a)) (length a.rows.now) room)))
      (record {
        value = refl;
        counted = counted ∙ sym (length_push (held_by a) t ∙ ap (λ k. k + 1) all_there);
        in_order = ap (λ k. take k b.rows.now) counted ∙ ap (take (a.count + 1)) rows ∙ take_more_set a.rows.now a.count t (omega (arith, a.within));
        tags = λ _. no_tags list;
        untouched = λ e. absurd (false≢true e);
        long = ap length rows ∙ length-set a.rows.now a.count t;
        same_rows = name;
      })

  pub full_right : a.count ≡ length a.rows.now → StepRight (entering (length a.rows.now) (held_by a) t) a list (Err Full) a list
  full_right filled =
      subst (λ o. StepRight o a list (Err Full) a list) (sym (cond-false (ltb (length (held_by a)) (length a.rows.now)) _ _ (le-ltb (length (held_by a)) (length a.rows.now) (omega (arith, all_there)))))
      (record {
        value = refl;
        counted = sym all_there;
        in_order = refl;
        tags = λ _. no_tags list;
        untouched = λ e. (refl, refl, refl);
        long = refl;
        same_rows = refl;
      })

  pub passed_right : StepRight (judged PassedOver [] (held_by a)) a list (Ok (record { verdict = PassedOver; displaced = 0 })) a list
  passed_right = record {
    value = refl;
    counted = sym all_there;
    in_order = refl;
    tags = λ _. no_tags list;
    untouched = λ e. absurd (false≢true e);
    long = refl;
    same_rows = refl;
  }

-- what stands at place n, and the others
abbrev pub OutAt : {A : Type 0} → List A → ℕ → List A → List A → Type 0
OutAt xs n this others = (n < length xs) × (take 1 (drop n xs) ≡ this) × (remove xs n ≡ others)

module _ {A : Type 0} (f : A → Bool) where
  place_from : (k : ℕ) (xs : List A) (n : ℕ) → position_from f k xs ≡ Some n → k ≤ n
  place_from k [] n e = absurd (none-some n e)
  place_from k (x ∷ xs) n e₀ =
      (elim (f x) as (λ b. cond b (Some k) (position_from f (k + 1) xs) ≡ Some n → k ≤ n) [
        | true ↦ λ e. let i = same_Some _ _ e in omega arith
        | false ↦ λ e. let r = place_from (k + 1) xs n e in omega arith
      ])
      e₀

  -- the first that passes stands at its place, and without it the list closes up
  at_first : (k : ℕ) (xs : List A) (n : ℕ) → position_from f k xs ≡ Some (k + n) → OutAt xs n (first_of f xs) (without_first f xs)
  at_first k [] n e = absurd (none-some (k + n) e)
  at_first k (x ∷ xs) n e₀ =
      let later : position_from f (k + 1) xs ≡ Some (k + n) → OutAt (x ∷ xs) n (first_of f xs) (x ∷ without_first f xs) = λ e.
      let on = place_from (k + 1) xs (k + n) e in
      let m : n ≡ suc (n - 1) = omega arith in
      let on_from : k + n ≡ (k + 1) + (n - 1) = omega arith in
      let r = at_first (k + 1) xs (n - 1) (e ∙ ap Some on_from) in
      subst (λ i. OutAt (x ∷ xs) i (first_of f xs) (x ∷ without_first f xs)) (sym m) (omega (arith, r.0), r.1, ap (λ l. x ∷ l) r.2) in
      (elim (f x) as (λ b. cond b (Some k) (position_from f (k + 1) xs) ≡ Some (k + n) → OutAt (x ∷ xs) n (cond b (x ∷ []) (first_of f xs)) (cond b xs (x ∷ without_first f xs))) [
        | true ↦ λ e. let i : k ≡ k + n = same_Some _ _ e in let z : n ≡ 0 = omega arith in subst (λ i. OutAt (x ∷ xs) i (x ∷ []) xs) (sym z) (omega arith, refl, refl)
        | false ↦ λ e. later e
      ])
      e₀

  pub at_place : (xs : List A) (n : ℕ) → position f xs ≡ Some n → OutAt xs n (first_of f xs) (without_first f xs)
  at_place xs n e = let here : n ≡ 0 + n = omega arith in at_first 0 xs n (sym (position_from-zero f xs) ∙ e ∙ ap Some here)

-- no more members go than there are, and there is at most one member more than stayed
abbrev pub FewGo : {P : Type 0} → List (Trial P) → Outcome P → Type 0
FewGo xs o = (length (gone_of o) ≤ length xs) × (length (gone_of o) + length (members_then xs o) ≤ length xs + 1)

module _ {P : Type 0} (M : Meaning P) (t : Trial P) where
  few_decided : (rows : ℕ) (xs : List (Trial P)) (d : Decision) → FewGo xs (outcome_by M t rows xs d)
  few_decided rows xs Displace =
      let both = length-filter_both (below M t) (λ r. not (below M t r)) (λ r. refl) xs in
      let push = length_push (filter (λ r. not (below M t r)) xs) t in
      (omega arith, omega arith)
  few_decided rows xs (Replace n) =
      let both = length_without (beaten M t) xs in
      let push = length_push (without_first (beaten M t) xs) t in
      (omega arith, omega arith)
  few_decided rows xs PassOver = (omega arith, omega arith)
  few_decided rows xs Enter =
      let push = length_push xs t in
      elim (ltb (length xs) rows) as (λ b. FewGo xs (cond b (judged Entered [] (xs ++ (t ∷ []))) full)) [ true ↦ (omega arith, omega arith) | false ↦ (omega arith, omega arith) ]

  pub few_go : (rows : ℕ) (xs : List (Trial P)) → FewGo xs (judge M rows xs t)
  few_go rows xs = subst (FewGo xs) (sym (judge_decided M t rows xs)) (few_decided rows xs (decision M xs t))

-- the first beaten member goes by its row
pub replacing_by_row : {P : Type 0} (M : Meaning P) (t : Trial P) (xs : List (Trial P)) (n : ℕ) → position (beaten M t) xs ≡ Some n → replacing M xs t ≡ replacing_row xs n t
replacing_by_row M t xs n e =
    let o = at_place (beaten M t) xs n e in
    ap (λ l. judged Replaced l (without_first (beaten M t) xs ++ (t ∷ []))) (sym o.1) ∙ ap (λ l. judged Replaced (take 1 (drop n xs)) (l ++ (t ∷ []))) (sym o.2)

module _ {P : Type 0} (M : Meaning P) (t : Trial P) (a : Members P) (list : List ℕ) (r : Result Offered Denial) (b : Members P) (list' : List ℕ) where
  -- the step by the decision
  pub decided_right : (d : Decision) → decision M (held_by a) t ≡ d → StepRight (outcome_by M t (length a.rows.now) (held_by a) d) a list r b list' → StepRight (judge M (length a.rows.now) (held_by a) t) a list r b list'
  decided_right d e right =
      subst (λ o. StepRight o a list r b list') (sym (judge_decided M t (length a.rows.now) (held_by a) ∙ ap (outcome_by M t (length a.rows.now) (held_by a)) e)) right

  pub row_decided_right : (row : ℕ) → decision M (held_by a) t ≡ Replace row → StepRight (replacing_row (held_by a) row t) a list r b list' → StepRight (judge M (length a.rows.now) (held_by a) t) a list r b list'
  row_decided_right row e right =
      let beaten = first_beaten_from M t (held_by a) row e in
      decided_right (Replace row) e (subst (λ o. StepRight o a list r b list') (sym (replacing_by_row M t (held_by a) row beaten)) right)

-- a row that is decided on holds a member
pub row_inside : {P : Type 0} (M : Meaning P) (t : Trial P) (a : Members P) (row : ℕ) → decision M (held_by a) t ≡ Replace row → row < a.count
row_inside M t a row e =
    let b = first_beaten_from M t (held_by a) row e in
    let o = at_place (beaten M t) (held_by a) row b in
    omega (arith, o.0, length-take-le a.count a.rows.now a.within)
