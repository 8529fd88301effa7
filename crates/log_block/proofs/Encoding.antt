-- Records that were written are found again, each at its place.
use Rattle.std.proofs.Common.{◌≡◌, ℕ, zero, suc, ◌+◌, ◌*◌, ◌≤◌, eqb, ltb, List, [], ◌∷◌, ◌++◌, length, take, drop, replicate, Ok, Err, refl, ap, ◌∙◌, arith}
use Rattle.std.specs.List.{flat_map, AllByRecursion}
use Rattle.std.proofs.lemmas.List.{append_assoc, drop_at, length-append, take_at}
use Rattle.std.proofs.lemmas.Bool.{cond-false, cond-true, eq-eqb, le-ltb}
use Rattle.word.specs.Word.{number_at}
use Rattle.word.proofs.Back.{four_back}
use Rattle.log_block.specs.declared.faults.RecordFault.TheVariants.{OtherLength, Overlong}
use Rattle.log_block.specs.Items.{Item, ItemAt, content_of, first_item, item_bytes, item_of, item_size, kind_of, note, place_of, trial, with_rest}
use Rattle.log_block.specs.Block.{records_check, records_in, tail_check}
use Rattle.log_block.specs.Theorems.{Holds, placed_from}
use Rattle.log_block.proofs.Steps.{check_none, check_suc, in_none, in_suc}

-- a record's kind and content say the record
item_again : (m at : ℕ) (x : Item) → Holds m x → item_of m at (kind_of x) (content_of x) ≡ Ok x
item_again m at (note text) h = refl
item_again m at (trial tag point) h =
    let long : length (content_of (trial tag point)) ≡ 4 + 4 * m = omega (arith, h.1) in
    cond-true (eqb (length (content_of (trial tag point))) (4 + 4 * m)) (Ok (trial (number_at (content_of (trial tag point)) 0) point)) (Err (OtherLength at)) (eq-eqb (length (content_of (trial tag point))) (4 + 4 * m) long)
    ∙ ap (λ n. Ok (trial n point)) (four_back tag h.0)

-- the first record of bytes that begin with a record's bytes
pub first_again : (m : ℕ) (x : Item) (rest : List ℕ) → Holds m x → first_item m (item_bytes x ++ rest) ≡ Ok (x, rest)
unfolding first_item
first_again m x rest h =
    let content = content_of x in
    let at = place_of (item_bytes x ++ rest) in
    let told = with_rest (item_of m at (kind_of x) (take (length content) (content ++ rest))) (drop (length content) (content ++ rest)) in
    let whole = cond-false (ltb (length (content ++ rest)) (length content)) (Err (Overlong at)) told (le-ltb (length (content ++ rest)) (length content) (omega (arith, length-append content rest))) in
    let front : take (length content) (content ++ rest) ≡ content = take_at content rest (length content) refl in
    let back : drop (length content) (content ++ rest) ≡ rest = drop_at content rest (length content) refl in
    whole ∙ (ap (λ xs. with_rest (item_of m at (kind_of x) xs) (drop (length content) (content ++ rest))) front ∙ (ap (λ xs. with_rest (item_of m at (kind_of x) content) xs) back ∙ ap (λ r. with_rest r rest) (item_again m at x h)))

-- zeros are a sound tail
pub zeros_sound : (n : ℕ) → tail_check (replicate n 0) ≡ Ok tt
zeros_sound zero = refl
zeros_sound (suc n) = zeros_sound n

-- the first of several written records
first_of : (m : ℕ) (x : Item) (xs : List Item) (tail : List ℕ) → Holds m x → first_item m (flat_map item_bytes (x ∷ xs) ++ tail) ≡ Ok (x, flat_map item_bytes xs ++ tail)
first_of m x xs tail h = ap (first_item m) (append_assoc (item_bytes x) (flat_map item_bytes xs) tail) ∙ first_again m x (flat_map item_bytes xs ++ tail) h

-- written records are sound
pub check_again : (m : ℕ) (items : List Item) (tail : List ℕ) → AllByRecursion (Holds m) items → tail_check tail ≡ Ok tt → records_check m (length items) (flat_map item_bytes items ++ tail) ≡ Ok tt
check_again m [] tail h z = check_none m 0 tail refl ∙ z
check_again m (x ∷ xs) tail h z = check_suc m (length xs) (flat_map item_bytes (x ∷ xs) ++ tail) x (flat_map item_bytes xs ++ tail) (first_of m x xs tail h.0) ∙ check_again m xs tail h.1 z

-- the place after a record
place_after : (x : Item) (xs : List Item) (tail : List ℕ) → length (flat_map item_bytes (x ∷ xs) ++ tail) ≤ 508 → place_of (flat_map item_bytes xs ++ tail) ≡ place_of (flat_map item_bytes (x ∷ xs) ++ tail) + item_size x
unfolding place_of
place_after x xs tail l =
    let whole = ap length (append_assoc (item_bytes x) (flat_map item_bytes xs) tail) ∙ length-append (item_bytes x) (flat_map item_bytes xs ++ tail) in
    omega (arith, whole)

-- and are found, each after the one before
pub in_again : (m : ℕ) (items : List Item) (tail : List ℕ) → AllByRecursion (Holds m) items → length (flat_map item_bytes items ++ tail) ≤ 508 → records_in m (length items) (flat_map item_bytes items ++ tail) ≡ placed_from (place_of (flat_map item_bytes items ++ tail)) items
in_again m [] tail h l = in_none m 0 tail refl
in_again m (x ∷ xs) tail h l =
    let all = flat_map item_bytes (x ∷ xs) ++ tail in
    let rest = flat_map item_bytes xs ++ tail in
    let here : ItemAt = record { place = place_of all; item = x } in
    let next = place_after x xs tail l in
    let less : length rest ≤ 508 = omega (arith, ap length (append_assoc (item_bytes x) (flat_map item_bytes xs) tail), length-append (item_bytes x) rest) in
    in_suc m (length xs) all x rest (first_of m x xs tail h.0) ∙ ap (λ found. here ∷ found) (in_again m xs tail h.1 less ∙ ap (λ at. placed_from at xs) next)
