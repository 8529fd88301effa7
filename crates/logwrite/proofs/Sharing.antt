-- Records shared out to blocks, one block after the other.
use Rattle.std.proofs.Common.{◌≡◌, ℕ, ◌+◌, ◌-◌, ◌%◌, ◌^◌, ◌<◌, ◌≤◌, true, false, cond, List, [], ◌∷◌, ◌++◌, map, length, get_or, take, drop, Ok, sym, refl, ap, ◌∙◌, subst, below_more, take-add, arith}
use Rattle.std.specs.List.{AllByRecursion}
use Rattle.std.specs.Result.{is_ok}
use Rattle.std.proofs.ByRecursion.{All-drop}
use Rattle.std.proofs.lemmas.Bool.{cond_both, cond-true}
use Rattle.std.proofs.lemmas.List.{append_assoc, drop-drop, drop-map, flat_map_more, length-drop, length-map, length_push, map-append, take-map}
use Rattle.std.proofs.Math.ListN.{get_or-append}
use Rattle.std.proofs.Math.Seq.{get_or-append_seam}
use Rattle.word.proofs.Back.{four_back}
use Rattle.log_block.specs.declared.parts.Record.{Record}
use Rattle.log_block.specs.Items.{Item, item_size}
use Rattle.log_block.specs.Block.{block_number, block_of, checked, filled}
use Rattle.log_block.specs.Reading.{seen}
use Rattle.log_block.specs.Theorems.{placed_from}
use Rattle.log_block.specs.Writing.{fits, fitting_items, run_in}
use Rattle.logwrite.specs.Blocks.{ReadAs, blocks_from, blocks_of, found, in_front, records_read, shares, shares_from}

-- a run of leading records is the front of all
pub run_front : (left : ℕ) (xs : List Item) → take (length (run_in 2 left xs)) xs ≡ run_in 2 left xs
run_front left [] = refl
run_front left (x ∷ xs) = cond_both (fits 2 left x) (x ∷ run_in 2 (left - item_size x) xs) [] (λ ys. take (length ys) (x ∷ xs) ≡ ys) (λ e. ap (λ ys. x ∷ ys) (run_front (left - item_size x) xs)) (λ e. refl)

-- and so it has no more records
pub run_short : (left : ℕ) (xs : List Item) → length (run_in 2 left xs) ≤ length xs
run_short left [] = omega arith
run_short left (x ∷ xs) = cond_both (fits 2 left x) (x ∷ run_in 2 (left - item_size x) xs) [] (λ ys. length ys ≤ length (x ∷ xs)) (λ e. omega (arith, run_short (left - item_size x) xs)) (λ e. omega arith)

-- the block at hand gets the run, and the other records are shared out after it
shares_run : (left : ℕ) (xs : List Item) → shares_from left xs ≡ run_in 2 left xs ∷ shares (drop (length (run_in 2 left xs)) xs)
shares_run left [] = refl
shares_run left (x ∷ xs) =
    let run = run_in 2 (left - item_size x) xs in
    elim (fits 2 left x) as (λ b. cond b (in_front x (shares_from (left - item_size x) xs)) ([] ∷ in_front x (shares_from (500 - item_size x) xs)) ≡ cond b (x ∷ run) [] ∷ shares (drop (length (cond b (x ∷ run) [])) (x ∷ xs))) [
      | true ↦ ap (in_front x) (shares_run (left - item_size x) xs)
      | false ↦ refl
    ]

-- a block may hold each of these records alone
abbrev pub Alone : List Item → Type 0
Alone items = AllByRecursion (λ x. fits 2 500 x ≡ true) items

-- then the first block has the records that fit, one at least, and the others are shared out after it
pub shares_more : (items : List Item) → 0 < length items → Alone items → shares items ≡ fitting_items 2 items ∷ shares (drop (length (fitting_items 2 items)) items)
shares_more [] some each = absurd (omega arith)
shares_more (x ∷ xs) some each = sym (cond-true (fits 2 500 x) (in_front x (shares_from (500 - item_size x) xs)) ([] ∷ in_front x (shares_from (500 - item_size x) xs)) each.0) ∙ shares_run 500 (x ∷ xs)

pub some_fit : (items : List Item) → 0 < length items → Alone items → 0 < length (fitting_items 2 items)
some_fit [] some each = absurd (omega arith)
some_fit (x ∷ xs) some each = omega (arith, ap length (cond-true (fits 2 500 x) (x ∷ run_in 2 (500 - item_size x) xs) [] each.0))

-- records at their places are the records
items_placed : (at : ℕ) (xs : List Item) → map (λ x. x.item) (placed_from at xs) ≡ xs
items_placed at [] = refl
items_placed at (x ∷ xs) = ap (λ ys. x ∷ ys) (items_placed (at + item_size x) xs)

-- a block says its number
says_number : (n : ℕ) (items : List Item) → n < 2 ^ 32 → block_number (block_of 2 n items) ≡ n
unfolding block_of filled
says_number n items l = four_back n l

-- one block more
read_more : (items xs : List Item) (blocks : List (List ℕ)) (b : List ℕ) → ReadAs items blocks → checked 2 b ≡ Ok (placed_from 8 xs) → block_number b ≡ length blocks % 2 ^ 32 → ReadAs (items ++ xs) (blocks ++ b ∷ [])
read_more items xs blocks b r e n =
    let long = length_push blocks b in
    let last = get_or-append_seam blocks b [] [] in
    let told = ap found e ∙ items_placed 8 xs in
    record {
      accepted = λ k l. below_more (λ j. is_ok (checked 2 (get_or (blocks ++ b ∷ []) j [])) ≡ true) (length blocks)
          (λ j h. ap (λ bs. is_ok (checked 2 bs)) (get_or-append blocks (b ∷ []) [] j h) ∙ r.accepted j h)
          (ap (λ bs. is_ok (checked 2 bs)) last ∙ ap is_ok e) k (omega arith);
      numbered = λ k l. below_more (λ j. block_number (get_or (blocks ++ b ∷ []) j []) ≡ j % 2 ^ 32) (length blocks)
          (λ j h. ap block_number (get_or-append blocks (b ∷ []) [] j h) ∙ r.numbered j h)
          (ap block_number last ∙ n) k (omega arith);
      records = sym (flat_map_more records_read [] blocks b) ∙ (ap (λ ys. ys ++ records_read b) r.records ∙ ap (λ ys. items ++ ys) told);
    }

-- the records before a place are in blocks, and those that are left are shared out after them
pub record Shared (rs : List Record) (place : ℕ) (blocks : List (List ℕ)) : Type 0 where
  pub within : place ≤ length rs
  pub left : blocks ++ blocks_from (length blocks) (shares (map seen (drop place rs))) ≡ blocks_of (map seen rs)
  pub read : ReadAs (map seen (take place rs)) blocks

module _ (rs : List Record) (place : ℕ) (blocks : List (List ℕ)) (each : Alone (map seen rs)) (s : Shared rs place blocks) (more : place < length rs) where
  -- the records that are left
  abbrev rest : List Item
  rest = map seen (drop place rs)

  rest_long : length rest ≡ length rs - place
  rest_long = length-map (drop place rs) seen ∙ length-drop place rs

  rest_each : Alone rest
  rest_each = subst Alone (drop-map seen place rs) (All-drop (λ x. fits 2 500 x ≡ true) place (map seen rs) each)

  -- the next block has one of them at least
  pub goes_forward : 0 < length (fitting_items 2 rest)
  goes_forward = some_fit rest (omega (arith, rest_long)) rest_each

  -- and those after it are as they were
  after_run : (n : ℕ) → drop n rest ≡ map seen (drop (place + n) rs)
  after_run n = drop-map seen n (drop place rs) ∙ ap (map seen) (drop-drop n place rs)

  pub shared_more : (b : List ℕ) (count : ℕ) → b ≡ block_of 2 (length blocks % 2 ^ 32) (fitting_items 2 rest) → checked 2 b ≡ Ok (placed_from 8 (fitting_items 2 rest)) → count ≡ length (fitting_items 2 rest) → Shared rs (place + count) (blocks ++ b ∷ [])
  shared_more b count is good many =
      let run = fitting_items 2 rest in
      let long = length_push blocks b in
      let short = run_short 500 rest in
      let later : blocks_from (length blocks + 1) (shares (drop (length run) rest)) ≡ blocks_from (length (blocks ++ b ∷ [])) (shares (map seen (drop (place + count) rs))) = ap (λ k. blocks_from k (shares (drop (length run) rest))) (sym long) ∙ ap (λ xs. blocks_from (length (blocks ++ b ∷ [])) (shares xs)) (after_run (length run) ∙ ap (λ k. map seen (drop (place + k) rs)) (sym many)) in
      let here : blocks_from (length blocks) (shares rest) ≡ b ∷ blocks_from (length (blocks ++ b ∷ [])) (shares (map seen (drop (place + count) rs))) = ap (blocks_from (length blocks)) (shares_more rest (omega (arith, rest_long)) rest_each) ∙ (ap (λ c. c ∷ blocks_from (length blocks + 1) (shares (drop (length run) rest))) (sym is) ∙ ap (λ cs. b ∷ cs) later) in
      let front : take count rest ≡ run = ap (λ k. take k rest) many ∙ run_front 500 rest in
      let before : map seen (take place rs) ++ run ≡ map seen (take (place + count) rs) = ap (λ xs. map seen (take place rs) ++ xs) (sym (sym (take-map seen count (drop place rs)) ∙ front)) ∙ (sym (map-append seen (take place rs) (take count (drop place rs))) ∙ ap (map seen) (sym (take-add place count rs))) in
      let number = length blocks % 2 ^ 32 in
      record {
        within = omega (arith, rest_long);
        left = append_assoc blocks (b ∷ []) (blocks_from (length (blocks ++ b ∷ [])) (shares (map seen (drop (place + count) rs)))) ∙ (ap (λ cs. blocks ++ cs) (sym here) ∙ s.left);
        read = subst (λ xs. ReadAs xs (blocks ++ b ∷ [])) before (read_more (map seen (take place rs)) run blocks b s.read good (ap block_number is ∙ says_number number run (omega arith)));
      }
