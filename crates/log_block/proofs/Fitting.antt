-- A block that is being filled with as many records as fit.
use Rattle.std.proofs.Common.{◌≡◌, ℕ, ◌+◌, ◌-◌, ◌*◌, ◌<◌, ◌≤◌, true, false, leb, List, [], ◌∷◌, ◌++◌, map, length, get_or, set, take, drop, sym, refl, ap, ◌∙◌, subst, arith}
use Rattle.std.specs.List.{flat_map, AllByRecursion}
use Rattle.std.proofs.ByRecursion.{All-push}
use Rattle.std.proofs.lemmas.Bool.{and_parts, cond-false, cond-true, leb-true}
use Rattle.std.proofs.lemmas.List.{append_assoc, append-nil, at_drop_all, at_drop_more, flat_map_more, length-append, length-map, length-take-le, map_more, take_all, take_more}
use Rattle.word.specs.Word.{four_bytes}
use Rattle.log_block.specs.declared.drafting.Draft.{Draft}
use Rattle.log_block.specs.Items.{Item, item_bytes, item_size}
use Rattle.log_block.specs.Sums.{with_sums}
use Rattle.log_block.specs.Block.{block_of, filled, front}
use Rattle.log_block.specs.Drafts.{Drafted}
use Rattle.log_block.specs.Theorems.{Holds}
use Rattle.log_block.specs.Writing.{fits, fitting_items, may_hold, run_in, so_far}
use Rattle.log_block.proofs.Filling.{filled_front}

-- the records before i are written, and they are so many of those that fit
pub record Packed {X : Type 0} (f : X → Item) (m number : ℕ) (rs : List X) (i : ℕ) (d : Draft) : Type 0 where
  pub objectives : d.objectives ≡ m
  pub far : d.place ≤ 508
  pub drafted : Drafted (so_far m number 0 (map f (take i rs))) d
  pub held : AllByRecursion (Holds m) (map f (take i rs))
  pub rest : map f (take i rs) ++ run_in m (508 - d.place) (map f (drop i rs)) ≡ fitting_items m (map f rs)

-- a record that fits takes no more bytes than are left
fits_within : (m left : ℕ) (x : Item) → fits m left x ≡ true → item_size x ≤ left
fits_within m left x h = leb-true (item_size x) left (and_parts (may_hold m x) (leb (item_size x) left) (and_parts (leb m 6) _ h).1).1

-- what is written, with one record more
so_far_more : (m number : ℕ) (items : List Item) (x : Item) → so_far m number 0 items ++ item_bytes x ≡ so_far m number 0 (items ++ x ∷ [])
unfolding so_far
so_far_more m number items x = flat_map_more item_bytes (1 ∷ (0 ∷ (m ∷ (0 ∷ four_bytes number)))) items x

module _ {X : Type 0} (f : X → Item) (m number : ℕ) (rs : List X) (i : ℕ) (d : Draft) (p : Packed f m number rs i d) (x : X) (l : i < length rs) (here : x ≡ get_or rs i x) (y : Item) (same : y ≡ f x) where
  -- record i, and what fits from it on
  at : f (get_or rs i x) ≡ y
  at = sym (same ∙ ap f here)

  next : run_in m (508 - d.place) (map f (drop i rs)) ≡ run_in m (508 - d.place) (y ∷ map f (drop (i + 1) rs))
  next = at_drop_more (λ xs. run_in m (508 - d.place) (map f xs)) rs i x l ∙ ap (λ z. run_in m (508 - d.place) (z ∷ map f (drop (i + 1) rs))) at

  more : map f (take (i + 1) rs) ≡ map f (take i rs) ++ y ∷ []
  more = map_more f rs i x l ∙ ap (λ z. map f (take i rs) ++ z ∷ []) at

  -- one record more, where it fits
  pub packed_more : (after : Draft) → fits d.objectives (508 - d.place) y ≡ true → Holds d.objectives y → after.objectives ≡ d.objectives → ((xs : List ℕ) → Drafted xs d → Drafted (xs ++ item_bytes y) after) → Packed f m number rs (i + 1) after
  packed_more after fit h o put =
      let before = map f (take i rs) in
      let wide = p.objectives in
      let fit' : fits m (508 - d.place) y ≡ true = subst (λ n. fits n (508 - d.place) y ≡ true) wide fit in
      let within = fits_within m (508 - d.place) y fit' in
      let far = p.far in
      let written = put (so_far m number 0 before) p.drafted in
      let place : after.place ≡ d.place + item_size y = omega (arith, written.place, p.drafted.place, length-append (so_far m number 0 before) (item_bytes y)) in
      let left : 508 - d.place - item_size y ≡ 508 - after.place = omega arith in
      let one : run_in m (508 - d.place) (y ∷ map f (drop (i + 1) rs)) ≡ y ∷ run_in m (508 - after.place) (map f (drop (i + 1) rs)) = cond-true (fits m (508 - d.place) y) (y ∷ run_in m (508 - d.place - item_size y) (map f (drop (i + 1) rs))) [] fit' ∙ ap (λ k. y ∷ run_in m k (map f (drop (i + 1) rs))) left in
      record {
        objectives = o ∙ wide;
        far = omega arith;
        drafted = subst (λ xs. Drafted xs after) (so_far_more m number before y ∙ ap (so_far m number 0) (sym more)) written;
        held = subst (AllByRecursion (Holds m)) (sym more) (All-push (Holds m) before y p.held (subst (λ n. Holds n y) wide h));
        rest = ap (λ xs. xs ++ run_in m (508 - after.place) (map f (drop (i + 1) rs))) more ∙ (append_assoc before (y ∷ []) (run_in m (508 - after.place) (map f (drop (i + 1) rs))) ∙ (ap (λ xs. before ++ xs) (sym (next ∙ one)) ∙ p.rest));
      }

  -- no more, where it does not
  pub packed_ends : fits d.objectives (508 - d.place) y ≡ false → map f (take i rs) ≡ fitting_items m (map f rs)
  packed_ends none =
      let none' : fits m (508 - d.place) y ≡ false = subst (λ n. fits n (508 - d.place) y ≡ false) p.objectives none in
      let nothing : run_in m (508 - d.place) (y ∷ map f (drop (i + 1) rs)) ≡ [] = cond-false (fits m (508 - d.place) y) (y ∷ run_in m (508 - d.place - item_size y) (map f (drop (i + 1) rs))) [] none' in
      sym (append-nil (map f (take i rs))) ∙ (ap (λ xs. map f (take i rs) ++ xs) (sym (next ∙ nothing)) ∙ p.rest)

-- nor after the last
pub packed_all : {X : Type 0} (f : X → Item) (m number : ℕ) (rs : List X) (i : ℕ) (d : Draft) → length rs ≤ i → Packed f m number rs i d → map f (take i rs) ≡ fitting_items m (map f rs)
packed_all f m number rs i d l p =
    let none = at_drop_all (λ xs. run_in m (508 - d.place) (map f xs)) rs i l in
    sym (append-nil (map f (take i rs))) ∙ (ap (λ xs. map f (take i rs) ++ xs) (sym none) ∙ p.rest)

-- what each of the first i is, and the next, or all
pub typed_more : {X : Type 0} (P : X → Type 0) (rs : List X) (i : ℕ) (x : X) → i < length rs → x ≡ get_or rs i x → AllByRecursion P (take i rs) → P x → AllByRecursion P (take (i + 1) rs)
typed_more P rs i x l here before p =
    let more = take_more rs i x l ∙ ap (λ z. take i rs ++ z ∷ []) (sym here) in
    subst (AllByRecursion P) (sym more) (All-push P (take i rs) x before p)

pub typed_all : {X : Type 0} (P : X → Type 0) (rs : List X) (i : ℕ) → length rs ≤ i → AllByRecursion P (take i rs) → AllByRecursion P (take (length rs + 1) rs)
typed_all P rs i l before = subst (AllByRecursion P) (take_all i rs l ∙ sym (take_all (length rs + 1) rs (omega arith))) before

-- what is then written
pub record Done (m number : ℕ) (items : List Item) (i : ℕ) (block : List ℕ) : Type 0 where
  pub value : i ≡ length items
  pub holds : AllByRecursion (Holds m) items
  pub within : length (so_far m number 0 items) ≤ 508
  pub after : block ≡ filled 512 (so_far m number 0 items)

pub packed_done : {X : Type 0} (f : X → Item) (m number : ℕ) (rs : List X) (i : ℕ) (d : Draft) → i ≤ length rs → Packed f m number rs i d → map f (take i rs) ≡ fitting_items m (map f rs) → Done m number (fitting_items m (map f rs)) i d.block.now
packed_done f m number rs i d l p e =
    let far = p.far in
    record {
      value = sym (ap length (sym e) ∙ (length-map (take i rs) f ∙ length-take-le i rs l));
      holds = subst (AllByRecursion (Holds m)) e p.held;
      within = omega (arith, p.drafted.place, ap (λ xs. length (so_far m number 0 xs)) e);
      after = p.drafted.block ∙ ap (λ xs. filled 512 (so_far m number 0 xs)) e;
    }

-- each record takes two bytes at least, so a byte holds how many there are
items_few : (items : List Item) → 2 * length items ≤ length (flat_map item_bytes items)
items_few [] = omega arith
items_few (x ∷ xs) = omega (arith, length-append (item_bytes x) (flat_map item_bytes xs), items_few xs)

module _ (m number : ℕ) (items : List Item) where
  -- the count is a byte, and the records end where they did
  pub count_small : length (so_far m number 0 items) ≤ 508 → length items < 256
  unfolding so_far
  count_small l = omega (arith, items_few items)

  pub counted_long : length (so_far m number 0 items) ≤ 508 → length (front m number items) ≤ 508
  unfolding so_far
  counted_long l = l

  -- once the count is written, all is there
  counted : set (filled 512 (so_far m number 0 items)) 1 (length items) ≡ filled 512 (front m number items)
  unfolding so_far filled
  counted = refl

  -- and sealed, it is the block
  pub counted_sealed : (bs : List ℕ) (n : ℕ) → length (front m number items) ≤ 508 → bs ≡ filled 512 (so_far m number 0 items) → n ≡ length items → with_sums (take 508 (set bs 1 n)) ≡ block_of m number items
  unfolding block_of
  counted_sealed bs n l e c =
      let whole : set bs 1 n ≡ filled 512 (front m number items) = ap (λ xs. set xs 1 n) e ∙ (ap (set (filled 512 (so_far m number 0 items)) 1) c ∙ counted) in
      ap with_sums (ap (take 508) whole ∙ filled_front 508 512 (front m number items) l (omega arith))
