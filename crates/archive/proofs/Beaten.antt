-- Which member is the first that a trial beats, by who holds its box.
use Rattle.std.proofs.Common.{◌≡◌, ℕ, zero, suc, ◌<◌, Bool, true, false, cond, ltb, ◌||◌, List, [], ◌∷◌, length, get_or, Some, None, filter, sym, refl, ap, ◌∙◌, subst, ⊎_elim, arith}
use Rattle.std.specs.Prelude.{◌≢◌, ◌==◌}
use Rattle.std.specs.List.{position}
use Rattle.std.proofs.lemmas.Bool.{and_from, and_left, and_right, cases_eq, cases_Bool, cond-false, cond-true, eqb-true, false_from_ne_true, le-ltb, lt-ltb}
use Rattle.std.proofs.lemmas.List.{get_or_default}
use Rattle.std.proofs.lemmas.List.Folds.{list_any_at}
use Rattle.std.proofs.lemmas.List.Sums.{position_or_len_is}
use Rattle.space.specs.Meaning.{Meaning}
use Rattle.space.specs.Boxes.{same_box}
use Rattle.space.specs.Looking.{before_first, holders_of}
use Rattle.space.specs.declared.looking.Holders.TheVariants.{Nobody, One, Several}
use Rattle.space.specs.declared.tagged.Trial.{Trial}
use Rattle.history.specs.Comparing.{dominates}
use Rattle.history.specs.Lists.{any}
use Rattle.history.specs.Step.{beaten}
use Rattle.history.proofs.Membership.{some_kept}
use Rattle.archive.proofs.Decided.{any_listed}

module _ {A : Type 0} (f : A → Bool) where
  -- by their places: none passes, one passes, and one alone does
  pub any_none : (xs : List A) → ((k : ℕ) (x : A) → k < length xs → x ≡ get_or xs k x → f x ≡ false) → any f xs ≡ false
  any_none [] all = refl
  any_none (x ∷ xs) all = ap (λ b. b || any f xs) (all 0 x (omega arith) refl) ∙ any_none xs (λ k y l is. all (suc k) y (omega (arith, l)) is)

  pub any_some : (xs : List A) (k : ℕ) (x : A) → k < length xs → x ≡ get_or xs k x → f x ≡ true → any f xs ≡ true
  any_some xs k x l is e = sym (any_listed f xs) ∙ list_any_at f xs k x l (ap f (sym is) ∙ e)

  pub nowhere : (xs : List A) → ((k : ℕ) (x : A) → k < length xs → x ≡ get_or xs k x → f x ≡ false) → position f xs ≡ None
  nowhere [] all = refl
  nowhere (x ∷ xs) all =
      let ys = x ∷ xs in
      let last = position_or_len_is f ys (length ys) x (omega arith) (λ k l. all k (get_or ys k x) l (get_or_default ys k x (get_or ys k x) l)) (λ l. absurd (omega (arith, l))) in
      ap (λ n. cond (ltb n (length ys)) (Some n) None) last ∙ cond-false (ltb (length ys) (length ys)) _ _ (le-ltb (length ys) (length ys) (omega arith))

  pub at_row : (xs : List A) (row : ℕ) (r : A) → row < length xs → r ≡ get_or xs row r → f r ≡ true → ((k : ℕ) (x : A) → k < row → x ≡ get_or xs k x → f x ≡ false) → position f xs ≡ Some row
  at_row xs row r l is e before =
      let first = position_or_len_is f xs row r (omega (arith, l)) (λ k h. before k (get_or xs k r) h (get_or_default xs k r (get_or xs k r) (omega (arith, l, h)))) (λ _. ap f (sym is) ∙ e) in
      ap (λ n. cond (ltb n (length xs)) (Some n) None) first ∙ cond-true (ltb row (length xs)) _ _ (lt-ltb row (length xs) l)

-- the one in this place passes, and no other does
abbrev pub Alone : {A : Type 0} → (A → Bool) → List A → ℕ → Type 0
Alone {A} f xs row = (row < length xs) × ((x : A) → x ≡ get_or xs row x → f x ≡ true) × ((k : ℕ) (x : A) → k < length xs → k ≢ row → x ≡ get_or xs k x → f x ≡ false)

module _ {A : Type 0} (f : A → Bool) where
  -- where none is kept, none passes, by their places
  none_pass : (xs : List A) → length (filter f xs) ≡ 0 → (k : ℕ) (x : A) → k < length xs → x ≡ get_or xs k x → f x ≡ false
  none_pass xs none k x l is = false_from_ne_true (f x) (λ e. omega (arith, none, some_kept f xs (any_some f xs k x l is e)))

  other_rows : (y : A) (ys : List A) (row : ℕ) → f y ≡ false → ((k : ℕ) (x : A) → k < length ys → k ≢ row → x ≡ get_or ys k x → f x ≡ false) → (k : ℕ) (x : A) → k < length (y ∷ ys) → k ≢ suc row → x ≡ get_or (y ∷ ys) k x → f x ≡ false
  other_rows y ys row fails rest zero x l d is = ap f is ∙ fails
  other_rows y ys row fails rest (suc k) x l d is = rest k x (omega (arith, l)) (λ e. d (ap suc e)) is

  later_rows : (y : A) (ys : List A) → ((k : ℕ) (x : A) → k < length ys → x ≡ get_or ys k x → f x ≡ false) → (k : ℕ) (x : A) → k < length (y ∷ ys) → k ≢ 0 → x ≡ get_or (y ∷ ys) k x → f x ≡ false
  later_rows y ys rest zero x l d is = absurd (d refl)
  later_rows y ys rest (suc k) x l d is = rest k x (omega (arith, l)) is

  -- where one passes, it is alone at the place of the first
  one_passes : (xs : List A) → length (filter f xs) ≡ 1 → Alone f xs (before_first f xs)
  one_passes [] one = absurd (omega (arith, one))
  one_passes (y ∷ ys) one =
      ⊎_elim
      (λ (yes : f y ≡ true).
      let none : length (filter f ys) ≡ 0 = omega (arith, one, ap (λ b. length (cond b (y ∷ filter f ys) (filter f ys))) yes) in
      subst (Alone f (y ∷ ys)) (sym (ap (λ b. cond b 0 (suc (before_first f ys))) yes)) (omega arith, λ x is. ap f is ∙ yes, later_rows y ys (none_pass ys none)))
      (λ (no : f y ≡ false).
      let rest = one_passes ys (ap (λ b. length (cond b (y ∷ filter f ys) (filter f ys))) (sym no) ∙ one) in
      subst (Alone f (y ∷ ys)) (sym (ap (λ b. cond b 0 (suc (before_first f ys))) no)) (omega (arith, rest.0), rest.1, other_rows y ys (before_first f ys) no rest.2))
      (cases_Bool (f y))

  -- what is told of who passes
  pub told_nobody : (xs : List A) → Nobody ≡ holders_of f xs → (k : ℕ) (x : A) → k < length xs → x ≡ get_or xs k x → f x ≡ false
  told_nobody xs e =
      ⊎_elim
      (λ (yes : (length (filter f xs) == 0) ≡ true). none_pass xs (eqb-true (length (filter f xs)) 0 yes))
      (λ (no : (length (filter f xs) == 0) ≡ false).
      absurd
      ((elim (length (filter f xs) == 1) as (λ b. Nobody ≡ cond b (One (before_first f xs)) Several → ⊥) [ true ↦ λ h. let z : ◌≡◌ {A = ℕ} 0 1 = cc in omega arith | false ↦ λ h. let z : ◌≡◌ {A = ℕ} 0 1 = cc in omega arith ])
      (e ∙ ap (λ b. cond b Nobody (cond (length (filter f xs) == 1) (One (before_first f xs)) Several)) no)))
      (cases_Bool (length (filter f xs) == 0))

  pub told_one : (xs : List A) (row : ℕ) → One row ≡ holders_of f xs → Alone f xs row
  told_one xs row e =
      ⊎_elim
      (λ (yes : (length (filter f xs) == 0) ≡ true). absurd (let h : One row ≡ Nobody = e ∙ ap (λ b. cond b Nobody (cond (length (filter f xs) == 1) (One (before_first f xs)) Several)) yes in let z : ◌≡◌ {A = ℕ} 0 1 = cc in omega arith))
      (λ (some : (length (filter f xs) == 0) ≡ false).
      let told : One row ≡ cond (length (filter f xs) == 1) (One (before_first f xs)) Several = e ∙ ap (λ b. cond b Nobody (cond (length (filter f xs) == 1) (One (before_first f xs)) Several)) some in
      ⊎_elim
      (λ (yes : (length (filter f xs) == 1) ≡ true).
      let h : One row ≡ One (before_first f xs) = told ∙ ap (λ b. cond b (One (before_first f xs)) Several) yes in
      let same : row ≡ before_first f xs = cc in
      subst (Alone f xs) (sym same) (one_passes xs (eqb-true (length (filter f xs)) 1 yes)))
      (λ (no : (length (filter f xs) == 1) ≡ false). absurd (let h : One row ≡ Several = told ∙ ap (λ b. cond b (One (before_first f xs)) Several) no in let z : ◌≡◌ {A = ℕ} 0 1 = cc in omega arith))
      (cases_Bool (length (filter f xs) == 1)))
      (cases_Bool (length (filter f xs) == 0))

module _ {P : Type 0} (M : Meaning P) (t : Trial P) (members : List (Trial P)) where
  -- where nobody holds the trial's box, none is beaten
  pub nobody_beaten : ((k : ℕ) (m : Trial P) → k < length members → m ≡ get_or members k m → same_box M t.point m.point ≡ false) → position (beaten M t) members ≡ None
  nobody_beaten none = nowhere (beaten M t) members (λ k m l is. and_left (same_box M t.point m.point) (dominates M t.point m.point) (none k m l is))

  module _ (row : ℕ) (A : Alone (λ m. same_box M t.point m.point) members row) (holder : Trial P) (is : holder ≡ get_or members row holder) where
    -- where one holds it, that one is beaten or none
    pub holder_beaten : dominates M t.point holder.point ≡ true → position (beaten M t) members ≡ Some row
    holder_beaten better =
        at_row (beaten M t) members row holder A.0 is (and_from _ _ (A.1 holder is) better)
        (λ k m l at. and_left (same_box M t.point m.point) (dominates M t.point m.point) (A.2 k m (omega (arith, l, A.0)) (λ e. absurd (omega (arith, l, e))) at))

    pub holder_stays : dominates M t.point holder.point ≡ false → position (beaten M t) members ≡ None
    holder_stays worse =
        nowhere (beaten M t) members
        (λ k m l at.
        ⊎_elim
        (λ (e : k ≡ row).
        let this : m ≡ holder = at ∙ ap (λ n. get_or members n m) e ∙ get_or_default members row m holder A.0 ∙ sym is in
        and_right (same_box M t.point m.point) (dominates M t.point m.point) (ap (λ r. dominates M t.point r.point) this ∙ worse))
        (λ (d : k ≢ row). and_left (same_box M t.point m.point) (dominates M t.point m.point) (A.2 k m l d at))
        (cases_eq k row))
