-- Records that were read are the bytes that they were read from.
use Rattle.std.proofs.Common.{◌≡◌, ℕ, zero, suc, ◌+◌, ◌-◌, ◌*◌, ◌<◌, ◌≤◌, cond, eqb, ltb, List, [], ◌∷◌, ◌++◌, map, length, take, drop, replicate, Ok, Err, Result, sym, refl, ap, ◌∙◌, subst, ⊎_elim, arith}
use Rattle.std.specs.List.{flat_map}
use Rattle.std.proofs.lemmas.List.{drop_at, length-take-le, take-append-drop}
use Rattle.std.proofs.ByRecursion.{All-drop, All-take}
use Rattle.std.proofs.lemmas.Bool.{cases_Bool, cond-false, cond-true, eqb-true, ltb-false}
use Rattle.word.specs.Word.{Bytes, four_bytes, number_at}
use Rattle.word.proofs.Back.{four_again}
use Rattle.log_block.specs.declared.faults.RecordFault.{RecordFault}
use Rattle.log_block.specs.declared.faults.RecordFault.TheVariants.{OtherKind, OtherLength, Overlong, Tail}
use Rattle.log_block.specs.Items.{Item, ItemAt, content_of, first_item, item_bytes, item_of, kind_of, note, place_of, trial, with_rest}
use Rattle.log_block.specs.Block.{filled, records_check, records_in, tail_check}
use Rattle.log_block.proofs.Filling.{filled_after}
use Rattle.log_block.proofs.Never.{never}
use Rattle.log_block.proofs.Steps.{check_fault, check_none, check_suc, in_none, in_suc}

-- a sound tail is zeros
pub sound_zeros : (bs : List ℕ) → tail_check bs ≡ Ok tt → bs ≡ replicate (length bs) 0
sound_zeros [] h = refl
sound_zeros (x ∷ xs) h =
    ⊎_elim
    (λ t.
    let z = eqb-true x 0 t in
    let on = cond-true (eqb x 0) (tail_check xs) (Err (Tail (place_of (x ∷ xs)))) t in
    let rest = sound_zeros xs (sym on ∙ h) in
    cc)
    (λ f. absurd (never (Tail (place_of (x ∷ xs))) tt (sym (cond-false (eqb x 0) (tail_check xs) (Err (Tail (place_of (x ∷ xs)))) f) ∙ h)))
    (cases_Bool (eqb x 0))

-- the tag and the point of at least four bytes are these bytes
tag_again : (bs : List ℕ) → 4 ≤ length bs → Bytes bs → four_bytes (number_at bs 0) ++ drop 4 bs ≡ bs
tag_again [] l b = absurd (omega arith)
tag_again (x ∷ []) l b = absurd (omega arith)
tag_again (x ∷ (y ∷ [])) l b = absurd (omega arith)
tag_again (x ∷ (y ∷ (z ∷ []))) l b = absurd (omega arith)
tag_again (x ∷ (y ∷ (z ∷ (w ∷ rest)))) l b = ap (λ front. front ++ rest) (four_again x y z w b.0 b.1.0 b.1.1.0 b.1.1.1.0)

-- a record's kind and content
abbrev MadeOf : ℕ → List ℕ → Item → Type 0
MadeOf kind content x = (kind_of x ≡ kind) × (content_of x ≡ content)

same_item : (x y : Item) → ◌≡◌ {A = Result Item RecordFault} (Ok x) (Ok y) → x ≡ y
same_item x y e = cc

-- a record has the kind and the content that it was read from
item_back : (m at kind : ℕ) (content : List ℕ) (x : Item) → Bytes content → item_of m at kind content ≡ Ok x → MadeOf kind content x
item_back m at kind content x small e =
    let read = trial (number_at content 0) (drop 4 content) in
    let sized : Result Item RecordFault = cond (eqb (length content) (4 + 4 * m)) (Ok read) (Err (OtherLength at)) in
    let other : Result Item RecordFault = cond (eqb kind 1) sized (Err (OtherKind at)) in
    ⊎_elim
    (λ two. subst (MadeOf kind content) (same_item (note content) x (sym (cond-true (eqb kind 2) (Ok (note content)) other two) ∙ e)) (sym (eqb-true kind 2 two), refl))
    (λ n.
    let past : other ≡ Ok x = sym (cond-false (eqb kind 2) (Ok (note content)) other n) ∙ e in
    ⊎_elim
    (λ one.
    let told : sized ≡ Ok x = sym (cond-true (eqb kind 1) sized (Err (OtherKind at)) one) ∙ past in
    ⊎_elim
    (λ long. subst (MadeOf kind content) (same_item read x (sym (cond-true (eqb (length content) (4 + 4 * m)) (Ok read) (Err (OtherLength at)) long) ∙ told)) (sym (eqb-true kind 1 one), tag_again content (omega (arith, eqb-true (length content) (4 + 4 * m) long)) small))
    (λ short. absurd (never (OtherLength at) x (sym (cond-false (eqb (length content) (4 + 4 * m)) (Ok read) (Err (OtherLength at)) short) ∙ told)))
    (cases_Bool (eqb (length content) (4 + 4 * m))))
    (λ none. absurd (never (OtherKind at) x (sym (cond-false (eqb kind 1) sized (Err (OtherKind at)) none) ∙ past)))
    (cases_Bool (eqb kind 1)))
    (cases_Bool (eqb kind 2))

-- a record and what follows it, by the record that was told
parted : (told : Result Item RecordFault) (after : List ℕ) (x : Item) (rest : List ℕ) → with_rest told after ≡ Ok (x, rest) → (told ≡ Ok x) × (after ≡ rest)
parted (Ok y) after x rest e = let same : ◌≡◌ {A = Item × List ℕ} (y, after) (x, rest) = cc in (ap (λ p. Ok p.0) same, ap (λ p. p.1) same)
parted (Err f) after x rest e = absurd (never f (x, rest) e)

-- the first record and what follows it are the bytes that it was read from
pub first_back : (m : ℕ) (bs : List ℕ) (x : Item) (rest : List ℕ) → Bytes bs → first_item m bs ≡ Ok (x, rest) → bs ≡ item_bytes x ++ rest
unfolding first_item
first_back m [] x rest small e = absurd (never (Overlong (place_of [])) (x, rest) e)
first_back m (kind ∷ []) x rest small e = absurd (never (Overlong (place_of (kind ∷ []))) (x, rest) e)
first_back m (kind ∷ (size ∷ after)) x rest small e =
    let at = place_of (kind ∷ (size ∷ after)) in
    let told = item_of m at kind (take size after) in
    ⊎_elim
    (λ short. absurd (never (Overlong at) (x, rest) (sym (cond-true (ltb (length after) size) (Err (Overlong at)) (with_rest told (drop size after)) short) ∙ e)))
    (λ whole.
    let parts = parted told (drop size after) x rest (sym (cond-false (ltb (length after) size) (Err (Overlong at)) (with_rest told (drop size after)) whole) ∙ e) in
    let made = item_back m at kind (take size after) x (All-take (λ b. b < 256) size after small.1.1) parts.0 in
    let long : length (content_of x) ≡ size = ap length made.1 ∙ length-take-le size after (ltb-false (length after) size whole) in
    let again : content_of x ++ rest ≡ after = ap (λ xs. xs ++ rest) made.1 ∙ (ap (λ xs. take size after ++ xs) (sym parts.1) ∙ take-append-drop size after) in
    let kinds = made.0 in
    cc)
    (cases_Bool (ltb (length after) size))

-- the items of records with their places
abbrev pub items_of : List ItemAt → List Item
items_of found = map (λ x. x.item) found

-- of sound records there is a first
first_sound : (m n : ℕ) (bs : List ℕ) → records_check m (suc n) bs ≡ Ok tt → (told : Result (Item × List ℕ) RecordFault) → first_item m bs ≡ told → (x : Item) × (rest : List ℕ) × (first_item m bs ≡ Ok (x, rest))
first_sound m n bs e (Ok p) first = (p.0, p.1, first)
first_sound m n bs e (Err f) first = absurd (never f tt (sym (check_fault m (suc n) bs f (omega arith) first) ∙ e))

-- sound records are the bytes that they were read from, with zeros after them
pub records_back : (m n : ℕ) (bs : List ℕ) → Bytes bs → records_check m n bs ≡ Ok tt → (length (records_in m n bs) ≡ n) × (bs ≡ filled (length bs) (flat_map item_bytes (items_of (records_in m n bs))))
unfolding filled
records_back m zero bs small e =
    let none = in_none m 0 bs refl in
    let zeros = sound_zeros bs (sym (check_none m 0 bs refl) ∙ e) in
    let all : length bs ≡ length bs - 0 = omega arith in
    (ap length none, subst (λ found. bs ≡ filled (length bs) (flat_map item_bytes (items_of found))) (sym none) (zeros ∙ ap (λ k. replicate k 0) all))
records_back m (suc n) bs small e =
    let found = first_sound m n bs e (first_item m bs) refl in
    let x = found.0 in
    let rest = found.1 in
    let here = in_suc m n bs x rest found.2 in
    let split = first_back m bs x rest small found.2 in
    let after : drop (length (item_bytes x)) bs ≡ rest = ap (drop (length (item_bytes x))) split ∙ drop_at (item_bytes x) rest (length (item_bytes x)) refl in
    let less : Bytes rest = subst Bytes after (All-drop (λ b. b < 256) (length (item_bytes x)) bs small) in
    let back = records_back m n rest less (sym (check_suc m n bs x rest found.2) ∙ e) in
    let others = flat_map item_bytes (items_of (records_in m n rest)) in (
      ap length here ∙ ap suc back.0,
      split ∙ (ap (λ xs. item_bytes x ++ xs) back.1 ∙ (sym (filled_after (item_bytes x) rest others) ∙ (ap (λ xs. filled (length xs) (item_bytes x ++ others)) (sym split) ∙ ap (λ xs. filled (length bs) (flat_map item_bytes (items_of xs))) (sym here)))),
    )
