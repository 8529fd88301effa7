-- The bytes of a pair keep the laws where those of both spaces do.
use Rattle.std.specs.Prelude.{◌≡◌, ℕ, ◌+◌, ◌-◌, ◌<◌, ◌≤◌, Bool, true, false, cond, List, [], ◌++◌, length, take, drop, replicate, ◌≢◌, refl}
use Rattle.std.proofs.Common.{sym, ap, ◌∙◌, arith}
use Rattle.std.proofs.Math.Nat.{add-sub_cancel_left}
use borrow.Rule.Slice.PartMut.{put_mid, post_of}
use Rattle.std.proofs.lemmas.List.{append-nil, drop_all, take_all, take_at, take_rest, drop_at, take-append-drop, length-append, length-take, length-drop, take-replicate, drop-replicate}
use Rattle.std.proofs.ByRecursion.{All-take, All-drop}
use Rattle.std.proofs.lemmas.Bool.{and_from, and_parts, cond_both, cond-true, cond-false, eq-eqb, ne_eqb, false≢true}
use Rattle.space.specs.Meaning.{Meaning}
use Rattle.space.specs.Recording.{Recording, Faithful, blank_point, as_wide, read_point, written_over}
use Rattle.beside.specs.Pair.{fit, joined, first_alone, pair_meaning, joined_bytes, first_bytes, pair_recording}

-- an admitted pair is writable where both of its points are
module _ {P Q : Type 0} (M : Meaning P) (N : Meaning Q) (p : P × Q) where
  pub none_admitted : fit M N ≡ false → (pair_meaning M N).admits p ≢ true
  none_admitted apart a = false≢true (sym (ap (λ b. (cond b (joined M N) (first_alone M)).admits p) apart) ∙ a)

  pub both_writable : (R : Recording P) (S : Recording Q) → fit M N ≡ true → (M.admits p.0 ≡ true → R.writable p.0 ≡ true) → (N.admits p.1 ≡ true → S.writable p.1 ≡ true) → (pair_meaning M N).admits p ≡ true → (pair_recording (fit M N) R S).writable p ≡ true
  both_writable R S together first second a =
      let both = and_parts (M.admits p.0) (N.admits p.1) (sym (ap (λ b. (cond b (joined M N) (first_alone M)).admits p) together) ∙ a) in
      ap (λ b. (pair_recording b R S).writable p) together ∙ and_from (R.writable p.0) (S.writable p.1) (first both.0) (second both.1)

module _ {P Q : Type 0} (R : Recording P) (S : Recording Q) where
  -- zero bytes give both blanks
  joined_blank : blank_point (joined_bytes R S) ≡ (blank_point R, blank_point S)
  joined_blank =
      let front : R.reads (take R.width (replicate (R.width + S.width) 0)) ≡ blank_point R = ap R.reads (take-replicate R.width (R.width + S.width) 0 (omega arith)) in
      let rest : replicate {A = ℕ} (R.width + S.width - R.width) 0 ≡ replicate S.width 0 = ap (λ n. replicate {A = ℕ} n 0) (add-sub_cancel_left R.width S.width) in
      let back : S.reads (drop R.width (replicate (R.width + S.width) 0)) ≡ blank_point S = ap S.reads (drop-replicate R.width (R.width + S.width) 0 ∙ rest) in
      cc

  pub pair_blank : (fits : Bool) → blank_point (pair_recording fits R S) ≡ (blank_point R, blank_point S)
  pair_blank fits = cond_both fits (joined_bytes R S) (first_bytes R S) (λ T. blank_point T ≡ (blank_point R, blank_point S)) (λ e. joined_blank) (λ e. refl)

  pub joined_width : (fits : Bool) → fits ≡ true → (pair_recording fits R S).width ≡ R.width + S.width
  joined_width fits together = ap (λ b. (pair_recording b R S).width) together

  -- the first space's width is all of the width where the two do not fit
  pub first_width : (fits : Bool) → fits ≡ false → (pair_recording fits R S).width ≡ R.width
  first_width fits apart = ap (λ b. (pair_recording b R S).width) apart

  -- what a pair reads of bytes of its width is what its parts read, the second from the middle on
  pub pair_read : (fits : Bool) (bs : List ℕ) → 0 < S.width → length bs ≡ (pair_recording fits R S).width → (pair_recording fits R S).reads bs ≡ (read_point R (take R.width bs), read_point S (drop R.width bs))
  pair_read fits bs some =
      cond_both fits (joined_bytes R S) (first_bytes R S) (λ T. length bs ≡ T.width → T.reads bs ≡ (read_point R (take R.width bs), read_point S (drop R.width bs)))
      (λ e long.
      let front = cond-true (as_wide R (take R.width bs)) (R.reads (take R.width bs)) (blank_point R) (eq-eqb _ _ (length-take R.width bs ∙ omega arith)) in
      let back = cond-true (as_wide S (drop R.width bs)) (S.reads (drop R.width bs)) (blank_point S) (eq-eqb _ _ (length-drop R.width bs ∙ omega arith)) in
      cc)
      (λ e long.
      let whole = take_all R.width bs (omega arith) in
      let front = cond-true (as_wide R (take R.width bs)) (R.reads (take R.width bs)) (blank_point R) (eq-eqb _ _ (length-take R.width bs ∙ omega arith)) in
      let back = cond-false (as_wide S (drop R.width bs)) (S.reads (drop R.width bs)) (blank_point S) (ne_eqb _ _ (λ same. absurd (omega (arith, length-drop R.width bs)))) in
      cc)

  module _ (FR : Faithful R) (FS : Faithful S) where
    -- what a pair writes: where its spaces do not fit, and where they do
    pub writes_first : (fits : Bool) → fits ≡ false → (p : P × Q) → (pair_recording fits R S).writes p ≡ R.writes p.0
    writes_first fits apart p = ap (λ b. (pair_recording b R S).writes p) apart

    pub writes_joined : (fits : Bool) → fits ≡ true → (p : P × Q) → (pair_recording fits R S).writes p ≡ R.writes p.0 ++ S.writes p.1
    writes_joined fits together p = ap (λ b. (pair_recording b R S).writes p) together

    -- a part of the right length holds the point once it is written
    written : {X : Type 0} (T : Recording X) (p : X) (bs : List ℕ) → length bs ≡ T.width → written_over T p bs ≡ T.writes p
    written T p bs e = cond-true (as_wide T bs) (T.writes p) bs (eq-eqb (length bs) T.width e)

    module _ (bs : List ℕ) (n : ℕ) (middle : R.width ≡ n) where
      -- the first part is as long as the first space wants
      pub front_lent : R.width ≤ length bs → length (take (n - 0) bs) ≡ R.width
      front_lent enough = length-take (n - 0) bs ∙ omega arith

      -- so it holds the first point
      front_written : R.width ≤ length bs → (p : P) (front : List ℕ) → front ≡ written_over R p (take (n - 0) bs) → front ≡ R.writes p
      front_written enough p front e = e ∙ written R p (take (n - 0) bs) (front_lent enough)

      -- where the two do not fit, that is all
      pub write_first : length bs ≡ R.width → (p : P) (front : List ℕ) → front ≡ written_over R p (take (n - 0) bs) → front ++ post_of 0 (n - 0) bs ≡ R.writes p
      write_first long p front e =
          let gone : post_of 0 (n - 0) bs ≡ [] = drop_all (n - 0) bs (omega arith) in
          ap (λ rest. front ++ rest) gone ∙ append-nil front ∙ front_written (omega arith) p front e

      -- where they fit, the second part is as long as the second space wants
      pub back_lent : length bs ≡ R.width + S.width → (p : P) (front : List ℕ) → front ≡ written_over R p (take (n - 0) bs) → length (take (length (front ++ post_of 0 (n - 0) bs) - n) (drop n (front ++ post_of 0 (n - 0) bs))) ≡ S.width
      back_lent long p front e =
          let rest = drop (n - 0) bs in
          let front_long : length front ≡ n = ap length (front_written (omega arith) p front e) ∙ FR.long p ∙ middle in
          let lent : take (length (front ++ rest) - n) (drop n (front ++ rest)) ≡ rest = take_rest (front ++ rest) n ∙ drop_at front rest n front_long in
          ap length lent ∙ length-drop (n - 0) bs ∙ omega arith

      -- and holds the second point
      pub write_both : length bs ≡ R.width + S.width → (p : P) (q : Q) (front back : List ℕ) → front ≡ written_over R p (take (n - 0) bs) → back ≡ written_over S q (take (length (front ++ post_of 0 (n - 0) bs) - n) (drop n (front ++ post_of 0 (n - 0) bs))) → put_mid n (length (front ++ post_of 0 (n - 0) bs) - n) (front ++ post_of 0 (n - 0) bs) back ≡ R.writes p ++ S.writes q
      write_both long p q front back e f =
          let rest = drop (n - 0) bs in
          let whole = front ++ rest in
          let first = front_written (omega arith) p front e in
          let front_long : length front ≡ n = ap length first ∙ FR.long p ∙ middle in
          let head : take n whole ≡ front = take_at front rest n front_long in
          let tail : drop n whole ≡ rest = drop_at front rest n front_long in
          let second : back ≡ S.writes q = f ∙ written S q (take (length whole - n) (drop n whole)) (back_lent long p front e) in
          let gone : drop (length whole - n) (drop n whole) ≡ [] = drop_all (length whole - n) (drop n whole) (omega (arith, ap length tail, length-append front rest)) in
          let end : back ++ drop (length whole - n) (drop n whole) ≡ back = ap (λ r. back ++ r) gone ∙ append-nil back in
          cc

    faithful_joined : Faithful (joined_bytes R S)
    faithful_joined = record {
      reads_back = λ p w.
          let both = and_parts (R.writable p.0) (S.writable p.1) w in
          let front = take_at (R.writes p.0) (S.writes p.1) R.width (FR.long p.0) in
          let back = drop_at (R.writes p.0) (S.writes p.1) R.width (FR.long p.0) in
          let first : R.reads (take R.width (R.writes p.0 ++ S.writes p.1)) ≡ p.0 = ap R.reads front ∙ FR.reads_back p.0 both.0 in
          let second : S.reads (drop R.width (R.writes p.0 ++ S.writes p.1)) ≡ p.1 = ap S.reads back ∙ FS.reads_back p.1 both.1 in
          let whole : (R.reads (take R.width (R.writes p.0 ++ S.writes p.1)), S.reads (drop R.width (R.writes p.0 ++ S.writes p.1))) ≡ (p.0, p.1) = cc in
          whole;
      writes_back = λ bs small long.
          let first = FR.writes_back (take R.width bs) (All-take _ R.width bs small) (length-take R.width bs ∙ omega arith) in
          let second = FS.writes_back (drop R.width bs) (All-drop _ R.width bs small) (length-drop R.width bs ∙ omega arith) in
          let whole = take-append-drop R.width bs in
          cc;
      long = λ p. length-append (R.writes p.0) (S.writes p.1) ∙ omega (arith, FR.long p.0, FS.long p.1);
    }

    faithful_first : Faithful (first_bytes R S)
    faithful_first = record {
      reads_back = λ p w. absurd (false≢true w);
      writes_back = λ bs small long. FR.writes_back bs small long;
      long = λ p. FR.long p.0;
    }

    pub faithful_pair : (fits : Bool) → Faithful (pair_recording fits R S)
    faithful_pair fits = cond_both fits (joined_bytes R S) (first_bytes R S) Faithful (λ e. faithful_joined) (λ e. faithful_first)
