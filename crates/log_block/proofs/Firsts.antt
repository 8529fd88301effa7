-- The first record of the bytes that are left, by what they begin with.
use Rattle.std.proofs.Common.{◌≡◌, ℕ, ◌-◌, ◌<◌, ◌≤◌, ltb, List, [], ◌∷◌, length, get_or, take, drop, Err, Result, refl, ap, arith}
use Rattle.std.proofs.lemmas.List.{take_rest}
use Rattle.std.proofs.lemmas.Bool.{cond-false, cond-true, lt-ltb, le-ltb}
use Rattle.log_block.specs.declared.faults.RecordFault.{RecordFault}
use Rattle.log_block.specs.declared.faults.RecordFault.TheVariants.{Overlong}
use Rattle.log_block.specs.Items.{Item, first_item, item_of, place_of, with_rest}

-- no room for a kind and a length
pub first_short : (m : ℕ) (bs : List ℕ) → length bs < 2 → first_item m bs ≡ Err (Overlong (place_of bs))
unfolding first_item
first_short m [] l = refl
first_short m (kind ∷ []) l = refl
first_short m (kind ∷ (size ∷ rest)) l = absurd (omega arith)

-- fewer bytes than the length says
pub first_cut : (m : ℕ) (bs : List ℕ) → 2 ≤ length bs → length (drop 2 bs) < get_or bs 1 0 → first_item m bs ≡ Err (Overlong (place_of bs))
unfolding first_item
first_cut m [] l s = absurd (omega arith)
first_cut m (kind ∷ []) l s = absurd (omega arith)
first_cut m (kind ∷ (size ∷ rest)) l s = cond-true (ltb (length rest) size) (Err (Overlong (place_of (kind ∷ (size ∷ rest))))) (with_rest (item_of m (place_of (kind ∷ (size ∷ rest))) kind (take size rest)) (drop size rest)) (lt-ltb (length rest) size s)

-- a whole record, by its kind and its content
pub first_whole : (m : ℕ) (bs : List ℕ) → 2 ≤ length bs → get_or bs 1 0 ≤ length (drop 2 bs) → first_item m bs ≡ with_rest (item_of m (place_of bs) (get_or bs 0 0) (take (get_or bs 1 0) (drop 2 bs))) (drop (get_or bs 1 0) (drop 2 bs))
unfolding first_item
first_whole m [] l s = absurd (omega arith)
first_whole m (kind ∷ []) l s = absurd (omega arith)
first_whole m (kind ∷ (size ∷ rest)) l s = cond-false (ltb (length rest) size) (Err (Overlong (place_of (kind ∷ (size ∷ rest))))) (with_rest (item_of m (place_of (kind ∷ (size ∷ rest))) kind (take size rest)) (drop size rest)) (le-ltb (length rest) size s)

-- the same, by the parts that a slice is taken apart into
pub first_told : (m : ℕ) (bs : List ℕ) (size at : ℕ) (content after : List ℕ) (told : Result Item RecordFault) → 2 ≤ length bs → size ≡ get_or bs 1 0 → size ≤ length (take (length bs - 2) (drop 2 bs)) → at ≡ place_of bs → content ≡ take size (take (length bs - 2) (drop 2 bs)) → after ≡ drop size (take (length bs - 2) (drop 2 bs)) → told ≡ item_of m at (get_or bs 0 0) content → first_item m bs ≡ with_rest told after
first_told m bs size at content after told two e enough placed front back item =
    let rest = take_rest bs 2 in
    let long : get_or bs 1 0 ≤ length (drop 2 bs) = omega (arith, ap length rest) in
    let whole = first_whole m bs two long in
    cc
