-- Boxes by their six numbers, and a look at one trial more.
use Rattle.std.proofs.Common.{◌≡◌, ℕ, zero, suc, ◌+◌, ◌++◌, ◌||◌, not, add-one, add-zero, Bool, filter, sym, ◌<◌, ◌≤◌, true, false, cond, ◌&&◌, leb, List, [], ◌∷◌, length, get_or, take, Option, Some, None, refl, ap, ◌∙◌, ⊎_elim, arith}
use Rattle.std.specs.Prelude.{◌==◌, slice_index, unwrap_or}
use Rattle.std.specs.List.{list_any}
use Rattle.std.proofs.lemmas.List.{length-take-le, take_more}
use Rattle.std.proofs.lemmas.List.Filters.{length-filter_more}
use Rattle.std.proofs.lemmas.List.Folds.{list_any_more}
use Rattle.std.proofs.lemmas.List.FromFn.{get_or-map-range_with_len}
use Rattle.std.proofs.lemmas.Option.{none-some, same_Some}
use Rattle.std.proofs.lemmas.Bool.{cases_lt, cases_Bool, cond-false, ne_eqb}
use Rattle.space.specs.Meaning.{Meaning, Lawful}
use Rattle.space.specs.Boxes.{at_least, boxes_on, each_at_least, six_boxes}
use Rattle.space.specs.Looking.{before_first, holders_of, holders_with, lie_between, lie_of, look_by, look_of, look_on, look_with}
use Rattle.space.specs.declared.looking.Lie.{Lie}
use Rattle.space.specs.declared.looking.Holders.{Holders}
use Rattle.space.specs.declared.looking.Holders.TheVariants.{Nobody, One, Several}
use Rattle.space.specs.declared.looking.Look.{Look}
use Rattle.space.specs.declared.tagged.Trial.{Trial}

-- the same numbers compare alike
pub each_alike : (k : ℕ) (a b a' b' : ℕ → ℕ) → ((i : ℕ) → i < k → a i ≡ a' i) → ((i : ℕ) → i < k → b i ≡ b' i) → each_at_least k a b ≡ each_at_least k a' b'
each_alike zero a b a' b' ea eb = refl
each_alike (suc k) a b a' b' ea eb =
    ap (λ x. leb x (a k) && each_at_least k a b) (eb k (omega arith)) ∙ ap (λ x. leb (b' k) x && each_at_least k a b) (ea k (omega arith))
    ∙ ap (λ x. leb (b' k) (a' k) && x) (each_alike k a b a' b' (λ i l. ea i (omega arith)) (λ i l. eb i (omega arith)))

-- a box number is among the six
pub number_of : {P : Type 0} (M : Meaning P) (p : P) (i : ℕ) → i < 6 → slice_index (six_boxes M p) i ≡ M.box i p
number_of M p i l = get_or-map-range_with_len (λ i. M.box i p) 0 6 i i 0 l (omega arith)

-- past the last objective, where all numbers are zero, nothing is compared
pub none_past : {P : Type 0} (M : Meaning P) → ((p : P) (i : ℕ) → M.objectives ≤ i → M.box i p ≡ 0) → (p q : P) (k : ℕ) → M.objectives ≤ k → each_at_least k (λ i. M.box i p) (λ i. M.box i q) ≡ at_least M p q
none_past M none p q zero h = let z : 0 ≡ M.objectives = omega arith in ap (λ k. each_at_least k (λ i. M.box i p) (λ i. M.box i q)) z
none_past M none p q (suc k) h =
    let rest = each_at_least k (λ i. M.box i p) (λ i. M.box i q) in
    ⊎_elim
    (λ (l : M.objectives < suc k). ap (λ x. leb x (M.box k p) && rest) (none q k (omega arith)) ∙ ap (λ x. leb 0 x && rest) (none p k (omega arith)) ∙ none_past M none p q k (omega arith))
    (λ (e : suc k ≤ M.objectives). let z : suc k ≡ M.objectives = omega arith in ap (λ k. each_at_least k (λ i. M.box i p) (λ i. M.box i q)) z)
    (cases_lt M.objectives (suc k))

-- with zeros off the grid, the numbers of every point are known
pub or_zeros : {P : Type 0} (M : Meaning P) (p : P) → (M.admits p ≡ false → (i : ℕ) → M.box i p ≡ 0) → (asked : Option (List ℕ)) (ns : List ℕ) → asked ≡ boxes_on M p → ns ≡ unwrap_or asked (0 ∷ 0 ∷ 0 ∷ 0 ∷ 0 ∷ 0 ∷ []) → ns ≡ six_boxes M p
or_zeros M p none asked ns told got =
    let zeros = 0 ∷ 0 ∷ 0 ∷ 0 ∷ 0 ∷ 0 ∷ [] in
    got ∙ ap (λ o. unwrap_or o zeros) told
    ∙ ⊎_elim
    (λ (on : M.admits p ≡ true). ap (λ b. unwrap_or (cond b (Some (six_boxes M p)) None) zeros) on)
    (λ (off : M.admits p ≡ false).
    let e0 = none off 0 in
    let e1 = none off 1 in
    let e2 = none off 2 in
    let e3 = none off 3 in
    let e4 = none off 4 in
    let e5 = none off 5 in
    let same : zeros ≡ six_boxes M p = cc in
    ap (λ b. unwrap_or (cond b (Some (six_boxes M p)) None) zeros) off ∙ same)
    (cases_Bool (M.admits p))

-- numbers are told of points on the grid alone
pub on_grid_by : {P : Type 0} (M : Meaning P) (p : P) (ns : List ℕ) → boxes_on M p ≡ Some ns → (M.admits p ≡ true) × (ns ≡ six_boxes M p)
on_grid_by M p ns e₀ =
    (elim (M.admits p) as (λ b. cond b (Some (six_boxes M p)) None ≡ Some ns → (b ≡ true) × (ns ≡ six_boxes M p)) [ true ↦ λ e. (refl, sym (same_Some _ _ e)) | false ↦ λ e. absurd (none-some ns e) ])
    e₀

-- and a look is told of points on the grid alone
pub looked_by : {P : Type 0} (M : Meaning P) (p : P) (trials : List (Trial P)) (look : Look) → Some look ≡ look_on M p trials → (M.admits p ≡ true) × (look ≡ look_of M p trials)
looked_by M p trials look e₀ =
    (elim (M.admits p) as (λ b. Some look ≡ cond b (Some (look_of M p trials)) None → (b ≡ true) × (look ≡ look_of M p trials)) [ true ↦ λ e. (refl, same_Some _ _ e) | false ↦ λ e. absurd (none-some look (sym e)) ])
    e₀

pub off_by : {P : Type 0} (M : Meaning P) (p : P) (trials : List (Trial P)) → None ≡ look_on M p trials → M.admits p ≡ false
off_by M p trials e₀ =
    (elim (M.admits p) as (λ b. None ≡ cond b (Some (look_of M p trials)) None → b ≡ false) [ true ↦ λ e. absurd (none-some (look_of M p trials) e) | false ↦ λ e. refl ])
    e₀

module _ {A : Type 0} (f : A → Bool) where
  -- none before the last one passes
  pub before_last : (xs : List A) (x : A) → length (filter f xs) ≡ 0 → f x ≡ true → before_first f (xs ++ (x ∷ [])) ≡ length xs
  before_last [] x none e = ap (λ b. cond b 0 1) e
  before_last (y ∷ ys) x none e =
      ⊎_elim
      (λ (yes : f y ≡ true). absurd (omega (arith, none, ap (λ b. length (cond b (y ∷ filter f ys) (filter f ys))) yes)))
      (λ (no : f y ≡ false). ap (λ b. cond b 0 (suc (before_first f (ys ++ (x ∷ []))))) no ∙ ap suc (before_last ys x (ap (λ b. length (cond b (y ∷ filter f ys) (filter f ys))) (sym no) ∙ none) e))
      (cases_Bool (f y))

  -- one passes already
  pub before_kept : (xs ys : List A) → 1 ≤ length (filter f xs) → before_first f (xs ++ ys) ≡ before_first f xs
  before_kept [] ys some = absurd (omega (arith, some))
  before_kept (x ∷ xs) ys some₀ =
      (elim (f x) as (λ b. 1 ≤ length (cond b (x ∷ filter f xs) (filter f xs)) → cond b 0 (suc (before_first f (xs ++ ys))) ≡ cond b 0 (suc (before_first f xs))) [ true ↦ λ some. refl | false ↦ λ some. ap suc (before_kept xs ys some) ])
      some₀

  -- no more come before the first than there are
  pub before_few : (xs : List A) → before_first f xs ≤ length xs
  before_few [] = omega arith
  before_few (x ∷ xs) = elim (f x) as (λ b. cond b 0 (suc (before_first f xs)) ≤ suc (length xs)) [ true ↦ omega arith | false ↦ omega (arith, before_few xs) ]

-- who passes, by how many they are and the place of the first
held : ℕ → ℕ → Holders
held n first = cond (n == 0) Nobody (cond (n == 1) (One first) Several)

-- two or more are several
held_several : (n first : ℕ) → 2 ≤ n → held n first ≡ Several
unfolding held
held_several n first many = cond-false (n == 0) _ _ (ne_eqb n 0 (λ e. omega arith)) ∙ cond-false (n == 1) _ _ (ne_eqb n 1 (λ e. omega arith))

-- with one more
held_one : (n first first' k : ℕ) → (n ≡ 0 → first' ≡ k) → held (suc n) first' ≡ holders_with (held n first) k true
unfolding held
held_one zero first first' k here = ap One (here refl)
held_one (suc zero) first first' k here = refl
held_one (suc (suc n)) first first' k here = held_several (suc (suc (suc n))) first' (omega arith) ∙ ap (λ h. holders_with h k true) (sym (held_several (suc (suc n)) first (omega arith)))

-- with none
held_same : (n first first' : ℕ) → (1 ≤ n → first' ≡ first) → held n first' ≡ held n first
unfolding held
held_same zero first first' here = refl
held_same (suc n) first first' here = ap (held (suc n)) (here (omega arith))

module _ {T : Type 0} (f : T → Bool) where
  -- one more may pass, and is then alone where nobody did before
  holders_more : (ts : List T) (i : ℕ) (t : T) → i < length ts → t ≡ get_or ts i t → holders_of f (take (i + 1) ts) ≡ holders_with (holders_of f (take i ts)) i (f t)
  unfolding held
  holders_more ts i t inside read =
      let first = take i ts in
      let n = length (filter f first) in
      let long : length first ≡ i = length-take-le i ts (omega (arith, inside)) in
      let more : take (i + 1) ts ≡ first ++ (t ∷ []) = take_more ts i t inside ∙ ap (λ x. first ++ (x ∷ [])) (sym read) in
      let count : length (filter f (take (i + 1) ts)) ≡ n + cond (f t) 1 0 = length-filter_more f ts i t inside ∙ ap (λ x. n + cond (f x) 1 0) (sym read) in
      ⊎_elim
      (λ (yes : f t ≡ true).
      ap (λ m. held m (before_first f (take (i + 1) ts))) (count ∙ ap (λ b. n + cond b 1 0) yes ∙ add-one n)
      ∙ held_one n (before_first f first) (before_first f (take (i + 1) ts)) i (λ none. ap (before_first f) more ∙ before_last f first t none yes ∙ long)
      ∙ ap (holders_with (holders_of f first) i) (sym yes))
      (λ (no : f t ≡ false).
      ap (λ m. held m (before_first f (take (i + 1) ts))) (count ∙ ap (λ b. n + cond b 1 0) no ∙ add-zero n)
      ∙ held_same n (before_first f first) (before_first f (take (i + 1) ts)) (λ some. ap (before_first f) more ∙ before_kept f first (t ∷ []) some)
      ∙ ap (holders_with (holders_of f first) i) (sym no))
      (cases_Bool (f t))

module _ {T : Type 0} (over under : T → Bool) where
  -- one more is looked at
  pub look_more : (ts : List T) (i : ℕ) (t : T) (lie : Lie) → i < length ts → t ≡ get_or ts i t → lie ≡ record { over = over t; under = under t } → look_by over under (take (i + 1) ts) ≡ look_with (look_by over under (take i ts)) i lie
  look_more ts i t lie inside read told =
      let dominated : T → Bool = λ t. over t && not (under t) in
      let below : list_any dominated (take (i + 1) ts) ≡ (list_any dominated (take i ts) || dominated t) = list_any_more dominated ts i t inside ∙ ap (λ x. list_any dominated (take i ts) || dominated x) (sym read) in
      let holders = holders_more (λ t. over t && under t) ts i t inside read in
      let shut : list_any under (take (i + 1) ts) ≡ (list_any under (take i ts) || under t) = list_any_more under ts i t inside ∙ ap (λ x. list_any under (take i ts) || under x) (sym read) in
      let look : look_by over under (take (i + 1) ts) ≡ look_with (look_by over under (take i ts)) i (record { over = over t; under = under t }) = cc in
      look ∙ ap (look_with (look_by over under (take i ts)) i) (sym told)

-- two tests that agree on each of a list
abbrev pub Agreeing : {T : Type 0} → (T → Bool) → (T → Bool) → List T → Type 0
Agreeing f g ts = (i : ℕ) (t : _) → i < length ts → t ≡ get_or ts i t → f t ≡ g t

module _ {T : Type 0} (f g : T → Bool) where
  any_alike : (ts : List T) → Agreeing f g ts → list_any f ts ≡ list_any g ts
  any_alike [] same = refl
  any_alike (t ∷ ts) same = ap (λ b. b || list_any f ts) (same 0 t (omega arith) refl) ∙ ap (λ b. g t || b) (any_alike ts (λ i x l read. same (suc i) x (omega (arith, l)) read))

  filter_alike : (ts : List T) → Agreeing f g ts → filter f ts ≡ filter g ts
  filter_alike [] same = refl
  filter_alike (t ∷ ts) same = ap (λ b. cond b (t ∷ filter f ts) (filter f ts)) (same 0 t (omega arith) refl) ∙ ap (λ xs. cond (g t) (t ∷ xs) xs) (filter_alike ts (λ i x l read. same (suc i) x (omega (arith, l)) read))

  first_alike : (ts : List T) → Agreeing f g ts → before_first f ts ≡ before_first g ts
  first_alike [] same = refl
  first_alike (t ∷ ts) same = ap (λ b. cond b 0 (suc (before_first f ts))) (same 0 t (omega arith) refl) ∙ ap (λ n. cond (g t) 0 (suc n)) (first_alike ts (λ i x l read. same (suc i) x (omega (arith, l)) read))

  holders_alike : (ts : List T) → Agreeing f g ts → holders_of f ts ≡ holders_of g ts
  holders_alike ts same =
      ap (λ xs. cond (length xs == 0) Nobody (cond (length xs == 1) (One (before_first f ts)) Several)) (filter_alike ts same)
      ∙ ap (λ n. cond (length (filter g ts) == 0) Nobody (cond (length (filter g ts) == 1) (One n) Several)) (first_alike ts same)

-- tests that agree on each of a list give the same look at it
pub look_alike : {T : Type 0} (over under over' under' : T → Bool) (ts : List T) → Agreeing over over' ts → Agreeing under under' ts → look_by over under ts ≡ look_by over' under' ts
look_alike over under over' under' ts o u =
    let below = any_alike (λ t. over t && not (under t)) (λ t. over' t && not (under' t)) ts (λ i t l read. ap (λ b. b && not (under t)) (o i t l read) ∙ ap (λ b. over' t && not b) (u i t l read)) in
    let holders = holders_alike (λ t. over t && under t) (λ t. over' t && under' t) ts (λ i t l read. ap (λ b. b && under t) (o i t l read) ∙ ap (λ b. over' t && b) (u i t l read)) in
    let shut = any_alike under under' ts u in
    cc

-- one trial more is looked at, by how the box lies to its box
pub more_by_lie : {P : Type 0} (M : Meaning P) (p : P) (trials : List (Trial P)) (i : ℕ) (t : Trial P) (look next : Look) (lie : Lie) → i < length trials → t ≡ get_or trials i t → look ≡ look_of M p (take i trials) → lie ≡ lie_between M p t.point → next ≡ look_with look i lie → next ≡ look_of M p (take (i + 1) trials)
more_by_lie M p trials i t look next lie inside read so_far told step =
    step ∙ ap (λ l. look_with l i lie) so_far ∙ sym (look_more (λ q. at_least M p q.point) (λ q. at_least M q.point p) trials i t lie inside read told)

module _ {P : Type 0} (M : Meaning P) (L : Lawful M) where
  six_at_least : (p q : P) → each_at_least 6 (slice_index (six_boxes M p)) (slice_index (six_boxes M q)) ≡ at_least M p q
  six_at_least p q =
      each_alike 6 (slice_index (six_boxes M p)) (slice_index (six_boxes M q)) (λ i. M.box i p) (λ i. M.box i q) (number_of M p) (number_of M q)
      ∙ none_past M L.outside_box p q 6 L.few.1

  -- by their numbers, two boxes lie to one another as by their points
  pub lies : (p q : P) (mine theirs : List ℕ) (lie : Lie) → mine ≡ six_boxes M p → theirs ≡ six_boxes M q → lie ≡ lie_of mine theirs → lie ≡ lie_between M p q
  lies p q mine theirs lie ours asked told =
      let over = six_at_least p q in
      let under = six_at_least q p in
      cc

  -- the numbers of the other being asked at once, with zeros off the grid
  pub lies_at_once : (p q : P) (mine theirs : List ℕ) (asked : Option (List ℕ)) (lie : Lie) → mine ≡ six_boxes M p → asked ≡ boxes_on M q → theirs ≡ unwrap_or asked (0 ∷ 0 ∷ 0 ∷ 0 ∷ 0 ∷ 0 ∷ []) → lie ≡ lie_of mine theirs → lie ≡ lie_between M p q
  lies_at_once p q mine theirs asked lie ours told got by = lies p q mine theirs lie ours (or_zeros M q (L.off_grid q) asked theirs told got) by

  -- one trial more is looked at, by the numbers of both boxes
  pub more_by_numbers : (p : P) (trials : List (Trial P)) (i : ℕ) (t : Trial P) (look next : Look) (lie : Lie) (mine theirs : List ℕ) → i < length trials → t ≡ get_or trials i t → look ≡ look_of M p (take i trials) → mine ≡ six_boxes M p → theirs ≡ six_boxes M t.point → lie ≡ lie_of mine theirs → next ≡ look_with look i lie
      → next ≡ look_of M p (take (i + 1) trials)
  more_by_numbers p trials i t look next lie mine theirs inside read so_far ours asked told step =
      more_by_lie M p trials i t look next lie inside read so_far (lies p t.point mine theirs lie ours asked told) step
