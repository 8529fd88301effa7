-- What is written reads back, and what is read is what was written.
use Rattle.std.proofs.Common.{◌≡◌, ℕ, ◌-◌, ◌<◌, ◌≤◌, List, ◌∷◌, ◌++◌, length, get_or, take, drop, replicate, Ok, Err, Result, sym, refl, ap, ◌∙◌, arith}
use Rattle.std.specs.List.{flat_map}
use Rattle.std.proofs.ByRecursion.{All-drop, All-get_or, All-take}
use Rattle.std.proofs.lemmas.List.{drop_more, length-append, length-drop, length-map, length-replicate, length-take-le, take_at}
use Rattle.word.specs.Word.{Bytes}
use Rattle.word.proofs.Back.{four_again}
use Rattle.log_block.specs.declared.faults.BlockFault.{BlockFault}
use Rattle.log_block.specs.declared.faults.RecordFault.{RecordFault}
use Rattle.log_block.specs.declared.faults.Fault.TheVariants.{Block, Record}
use Rattle.log_block.specs.Items.{Item, ItemAt, item_bytes, place_of}
use Rattle.log_block.specs.Sums.{check_bytes, with_sums}
use Rattle.log_block.specs.Block.{block_number, block_of, checked_block, checked_records, filled, front, header_check, records_check, records_in, records_of, room}
use Rattle.log_block.specs.Theorems.{ReadsBack, SameBytes, WritesBack, placed_from}
use Rattle.log_block.proofs.Encoding.{check_again, in_again, zeros_sound}
use Rattle.log_block.proofs.Decoding.{items_of, records_back}
use Rattle.log_block.proofs.Filling.{filled_long}
use Rattle.log_block.proofs.Headers.{Header, header_from, header_parts}
use Rattle.log_block.proofs.Never.{never}
use Rattle.log_block.proofs.Sealing.{seal_sums, sums_seal}

module _ (m number : ℕ) (items : List Item) (fits : length (front m number items) ≤ 508) where
  -- the block up to its sums
  abbrev body : List ℕ
  body = filled 508 (front m number items)

  header_sound : Header m (block_of m number items)
  unfolding filled block_of
  header_sound =
      let long = filled_long 508 (front m number items) fits in
      record { long = omega (arith, length-append body (check_bytes body)); shut = sums_seal body long; first = refl; fourth = refl; grid = refl }

  -- the records and the zeros after them
  abbrev inner : List ℕ
  inner = flat_map item_bytes items ++ replicate (508 - length (front m number items)) 0

  inner_long : length inner ≡ 500
  inner_long = omega (arith, length-append (flat_map item_bytes items) (replicate (508 - length (front m number items)) 0), length-replicate {A = ℕ} (508 - length (front m number items)) 0)

  room_of : room (block_of m number items) ≡ inner
  unfolding filled block_of
  room_of = take_at inner (check_bytes body) 500 inner_long

  counted : get_or (block_of m number items) 1 0 ≡ length items
  unfolding filled block_of
  counted = refl

pub reads_back : ReadsBack
unfolding place_of
reads_back m number items holds fits =
    let bs = block_of m number items in
    let header = header_from m bs (header_sound m number items fits) in
    let area = room_of m number items fits in
    let count = counted m number items fits in
    let tail = replicate (508 - length (front m number items)) 0 in
    let long = inner_long m number items fits in
    let sound : records_check m (get_or bs 1 0) (room bs) ≡ Ok tt = ap (λ n. records_check m n (room bs)) count ∙ (ap (records_check m (length items)) area ∙ check_again m items tail holds (zeros_sound (508 - length (front m number items)))) in
    let found : records_of m bs ≡ placed_from 8 items = ap (λ n. records_in m n (room bs)) count ∙ (ap (records_in m (length items)) area ∙ (in_again m items tail holds (omega (arith, long)) ∙ ap (λ at. placed_from at items) (omega (arith, long)))) in
    ap (λ h. checked_block h (checked_records (records_check m (get_or bs 1 0) (room bs)) (records_of m bs))) header
    ∙ (ap (λ r. checked_records r (records_of m bs)) sound ∙ ap (λ xs. Ok xs) found)

-- an accepted block is sound as a whole, and so are its records
parts : (header : Result (Unit {0}) BlockFault) (records : Result (Unit {0}) RecordFault) (all found : List ItemAt) → checked_block header (checked_records records all) ≡ Ok found → (header ≡ Ok tt) × (records ≡ Ok tt) × (all ≡ found)
parts (Ok g) (Ok h) all found e = (refl, refl, cc)
parts (Ok g) (Err f) all found e = absurd (never (Record f) found e)
parts (Err f) records all found e = absurd (never (Block f) found e)

-- at least eight bytes, by the first eight
eight : (bs : List ℕ) → 8 ≤ length bs → bs ≡ get_or bs 0 0 ∷ (get_or bs 1 0 ∷ (get_or bs 2 0 ∷ (get_or bs 3 0 ∷ (get_or bs 4 0 ∷ (get_or bs 5 0 ∷ (get_or bs 6 0 ∷ (get_or bs 7 0 ∷ drop 8 bs)))))))
eight bs l =
    let a = drop_more bs 0 0 (omega arith) in
    let b = drop_more bs 1 0 (omega arith) in
    let c = drop_more bs 2 0 (omega arith) in
    let d = drop_more bs 3 0 (omega arith) in
    let e = drop_more bs 4 0 (omega arith) in
    let f = drop_more bs 5 0 (omega arith) in
    let g = drop_more bs 6 0 (omega arith) in
    let h = drop_more bs 7 0 (omega arith) in
    cc

-- a sound header, and records with zeros after them, are the block up to its sums
header_bytes : (m : ℕ) (bs : List ℕ) (items : List Item) → Bytes bs → Header m bs → get_or bs 1 0 ≡ length items → room bs ≡ filled 500 (flat_map item_bytes items) → take 508 bs ≡ filled 508 (front m (block_number bs) items)
unfolding filled
header_bytes m bs items small h count area =
    let records = flat_map item_bytes items in
    let byte : (k : ℕ) → k < 512 → get_or bs k 0 < 256 = λ k l. All-get_or (λ b. b < 256) bs k 0 (omega (arith, h.long)) small in
    let four = four_again (get_or bs 4 0) (get_or bs 5 0) (get_or bs 6 0) (get_or bs 7 0) (byte 4 (omega arith)) (byte 5 (omega arith)) (byte 6 (omega arith)) (byte 7 (omega arith)) in
    let zeros : 508 - length (front m (block_number bs) items) ≡ 500 - length records = omega arith in
    let have = ap (take 508) (eight bs (omega (arith, h.long))) in
    let first = h.first in
    let fourth = h.fourth in
    let grid = h.grid in
    let numbered : filled 508 (front m (block_number bs) items) ≡ 1 ∷ (length items ∷ (m ∷ (0 ∷ (get_or bs 4 0 ∷ (get_or bs 5 0 ∷ (get_or bs 6 0 ∷ (get_or bs 7 0 ∷ (records ++ replicate (508 - length (front m (block_number bs) items)) 0)))))))) = ap (λ xs. 1 ∷ (length items ∷ (m ∷ (0 ∷ ((xs ++ records) ++ replicate (508 - length (front m (block_number bs) items)) 0))))) four in
    let rest : room bs ≡ records ++ replicate (508 - length (front m (block_number bs) items)) 0 = area ∙ ap (λ k. records ++ replicate k 0) (sym zeros) in
    cc

pub writes_back : WritesBack
unfolding block_of
writes_back m bs found small e =
    let told = parts (header_check m bs) (records_check m (get_or bs 1 0) (room bs)) (records_of m bs) found e in
    let header = header_parts m bs told.0 in
    let back = records_back m (get_or bs 1 0) (room bs) (All-take (λ b. b < 256) 500 (drop 8 bs) (All-drop (λ b. b < 256) 8 bs small)) told.1 in
    let long : length (room bs) ≡ 500 = length-take-le 500 (drop 8 bs) (omega (arith, length-drop 8 bs, header.long)) in
    let items = items_of (records_of m bs) in
    let count : get_or bs 1 0 ≡ length items = sym (length-map (records_of m bs) (λ x. x.item) ∙ back.0) in
    let area : room bs ≡ filled 500 (flat_map item_bytes items) = back.1 ∙ ap (λ n. filled n (flat_map item_bytes items)) long in
    let same = header_bytes m bs items small header count area in
    sym (seal_sums bs header.long small header.shut) ∙ (ap with_sums same ∙ ap (λ xs. block_of m (block_number bs) (items_of xs)) told.2)

pub same_bytes : SameBytes
same_bytes m bs cs found met small less e d same number =
    writes_back m bs found small e ∙ (ap (λ n. block_of m n (items_of found)) number ∙ (ap (block_of m (block_number cs)) same ∙ sym (writes_back m cs met less d)))
