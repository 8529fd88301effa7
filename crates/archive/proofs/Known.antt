-- What is known of the members: the spans of one member more, and what a glance at some bytes tells.
use Rattle.std.proofs.Common.{◌≡◌, ℕ, ◌*◌, ◌||◌, cond, subst, add-one, ◌+◌, ◌<◌, ◌≤◌, List, [], length, get_or, replicate, set, length-set, get_or-set_same, get_or-set_other, sym, refl, ap, ◌∙◌, ⊎_elim, arith, map, Bool, true, false, ◌&&◌, ℤ, pos, int_le}
use Rattle.std.specs.Prelude.{◌≢◌, slice_index_or}
use Rattle.std.specs.List.{range_with_len}
use Rattle.std.proofs.lemmas.List.FromFn.{get_or-map-range_with_len, fill_by_all}
use Rattle.std.proofs.lemmas.List.{get_or_default, get_or-replicate, length-replicate}
use Rattle.std.proofs.Math.Bool.{and_comm}
use Rattle.std.proofs.lemmas.Bool.{cases_eq, or_cases, cases_Bool, false≢true}
use Rattle.space.specs.Meaning.{Meaning}
use Rattle.space.specs.Recording.{Recording}
use Rattle.space.specs.Spans.{SpansOf, each_in, in_span, signed_at}
use Rattle.space.specs.declared.spans.Spans.{Spans}
use Rattle.space.specs.declared.tagged.Trial.{Trial}
use Rattle.archive.specs.declared.knowing.Ends.{Ends}
use Rattle.archive.specs.declared.knowing.Known.{Known}
use Rattle.archive.specs.Knowing.{AllLong, column, KnowsIfTold, Roomy, in_least, in_most, span_at, spans_at}

-- of the numbers of member k those of the first i objectives are kept, and those of the other members are as they were
pub record Keeping (ns ns' : List (List ℤ)) (k : ℕ) (boxes : List ℤ) (i : ℕ) : Type 0 where
  pub long : length ns' ≡ 6
  pub each_long : AllLong ns'
  pub kept : (m : ℕ) → m < i → slice_index_or (get_or ns' m []) k (pos 0) ≡ slice_index_or boxes m (pos 0)
  pub others : (m j : ℕ) → m < 6 → j ≢ k → slice_index_or (get_or ns' m []) j (pos 0) ≡ slice_index_or (get_or ns m []) j (pos 0)

-- rows of zeros have the room
pub zeros_long : AllLong (replicate 6 (replicate {A = ℤ} 64 (pos 0)))
zeros_long i l = ap length (get_or-replicate 6 i (replicate {A = ℤ} 64 (pos 0)) [] l) ∙ length-replicate {A = ℤ} 64 (pos 0)

module _ (ns ns' : List (List ℤ)) (k : ℕ) (boxes : List ℤ) (i : ℕ) (K : Keeping ns ns' k boxes i) where
  -- one objective more
  pub keeping_more : i < 6 → k < 64 → Keeping ns (set ns' i (set (get_or ns' i []) k (slice_index_or boxes i (pos 0)))) k boxes (i + 1)
  keeping_more six room =
      let row = set (get_or ns' i []) k (slice_index_or boxes i (pos 0)) in
      let this : (m : ℕ) → m ≡ i → get_or (set ns' i row) m [] ≡ row = λ m e. ap (λ x. get_or (set ns' i row) x []) e ∙ get_or-set_same ns' i row [] (omega (arith, K.long)) in
      let that : (m : ℕ) → m ≢ i → get_or (set ns' i row) m [] ≡ get_or ns' m [] = λ m e. get_or-set_other ns' i m row [] e in
      record {
        long = length-set ns' i row ∙ K.long;
        each_long = λ m l.
            ⊎_elim
            (λ (e : m ≡ i). ap length (this m e) ∙ length-set (get_or ns' i []) k (slice_index_or boxes i (pos 0)) ∙ K.each_long i six)
            (λ (e : m ≢ i). ap length (that m e) ∙ K.each_long m l)
            (cases_eq m i);
        kept = λ m l.
            ⊎_elim
            (λ (e : m ≡ i). ap (λ r. slice_index_or r k (pos 0)) (this m e) ∙ get_or-set_same (get_or ns' i []) k (slice_index_or boxes i (pos 0)) (pos 0) (omega (arith, room, K.each_long i six)) ∙ ap (λ x. slice_index_or boxes x (pos 0)) (sym e))
            (λ (e : m ≢ i). ap (λ r. slice_index_or r k (pos 0)) (that m e) ∙ K.kept m (omega (arith, e, l)))
            (cases_eq m i);
        others = λ m j l apart.
            ⊎_elim
            (λ (e : m ≡ i). ap (λ r. slice_index_or r j (pos 0)) (this m e) ∙ get_or-set_other (get_or ns' i []) k j (slice_index_or boxes i (pos 0)) (pos 0) apart ∙ ap (λ x. slice_index_or (get_or ns' x []) j (pos 0)) (sym e) ∙ K.others m j l apart)
            (λ (e : m ≢ i). ap (λ r. slice_index_or r j (pos 0)) (that m e) ∙ K.others m j l apart)
            (cases_eq m i);
      }

  module _ (all : i ≡ 6) where
    pub kept_column : length boxes ≡ 6 → column ns' k ≡ boxes
    kept_column six =
        sym (fill_by_all (λ i. slice_index_or (slice_index_or ns' i []) k (pos 0)) boxes 6 (pos 0) six (λ m l. sym (K.kept m (omega (arith, l)))))

    pub other_columns : (j : ℕ) → j ≢ k → column ns' j ≡ column ns j
    other_columns j apart =
        let e0 = K.others 0 j (omega arith) apart in
        let e1 = K.others 1 j (omega arith) apart in
        let e2 = K.others 2 j (omega arith) apart in
        let e3 = K.others 3 j (omega arith) apart in
        let e4 = K.others 4 j (omega arith) apart in
        let e5 = K.others 5 j (omega arith) apart in
        cc

-- what stands in a column
column_at : (rows : List (List ℤ)) (k i : ℕ) → i < 6 → get_or (column rows k) i (pos 0) ≡ get_or (get_or rows i []) k (pos 0)
column_at rows k i l = get_or-map-range_with_len (λ i. slice_index_or (slice_index_or rows i []) k (pos 0)) 0 6 i i (pos 0) l (omega arith)

-- one number more is held against a span
pub one_more_in : (e : Ends) (k i n : ℕ) (bs : List ℕ) (numbers : List ℤ) (all : Bool) (f m t : ℤ) → i < n → n ≤ 6 → numbers ≡ map (signed_at bs) (range_with_len 0 n)
    → f ≡ get_or (get_or e.from i []) k (pos 0) → m ≡ get_or numbers i (pos 0) → t ≡ get_or (get_or e.to i []) k (pos 0) → all ≡ each_in i (span_at e k) bs
    → (all && (int_le f m && int_le m t)) ≡ each_in (i + 1) (span_at e k) bs
one_more_in e k i n bs numbers all f m t l six read from at to so_far =
    let first = column_at e.from k i (omega (arith, l, six)) in
    let last = column_at e.to k i (omega (arith, l, six)) in
    let number : m ≡ signed_at bs i = at ∙ ap (λ ns. get_or ns i (pos 0)) read ∙ get_or-map-range_with_len (signed_at bs) 0 n i i (pos 0) l (omega arith) in
    let here : (int_le f m && int_le m t) ≡ in_span (span_at e k) i (signed_at bs i) = cc in
    and_comm all (int_le f m && int_le m t) ∙ ap (λ b. b && all) here ∙ ap (λ b. in_span (span_at e k) i (signed_at bs i) && b) so_far ∙ ap (λ n. each_in n (span_at e k) bs) (sym (add-one i))

-- a glance at the first n members: whether these bytes are in the one span of some, in how many of the others they are, and the sum of the rows of those
pub record Glancing (known : Known) (bs : List ℕ) (n : ℕ) (shut : Bool) (many row : ℕ) : Type 0 where
  pub some : shut ≡ true → (k : ℕ) × ((k < n) × (in_most known bs k ≡ true))
  pub none : many ≡ 0 → (k : ℕ) → k < n → in_least known bs k ≡ false
  pub one : many ≡ 1 → (row < n) × (in_least known bs row ≡ true) × ((k : ℕ) → k < n → k ≢ row → in_least known bs k ≡ false)
  pub fewer : many ≤ n
  pub low : row ≤ 64 * n
  pub nowhere : many ≡ 0 → row ≡ 0

pub glancing_none : (known : Known) (bs : List ℕ) → Glancing known bs 0 false 0 0
glancing_none known bs = record {
  some = λ e. absurd (false≢true e);
  none = λ e k l. absurd (omega (arith, l));
  one = λ e. absurd (omega (arith, e));
  fewer = omega arith;
  low = omega arith;
  nowhere = λ e. refl;
}

-- and at one member more
pub glancing_more : (known : Known) (bs : List ℕ) (n : ℕ) (shut most least : Bool) (many row : ℕ) → n < 64 → most ≡ in_most known bs n → least ≡ in_least known bs n → Glancing known bs n shut many row
    → Glancing known bs (n + 1) (shut || most) (many + cond least 1 0) (row + cond least n 0)
glancing_more known bs n shut most least many row room here there G =
    let seen : (shut || most) ≡ true → (k : ℕ) × ((k < n + 1) × (in_most known bs k ≡ true)) = λ e.
    ⊎_elim (λ s. let found = G.some s in (found.0, (omega (arith, found.1.0), found.1.1))) (λ m. (n, (omega arith, sym here ∙ m))) (or_cases shut most e) in
    ⊎_elim
    (λ (yes : least ≡ true). subst (λ b. Glancing known bs (n + 1) (shut || most) (many + cond b 1 0) (row + cond b n 0)) (sym yes) (record {
      some = seen;
      none = λ e. absurd (omega (arith, e));
      one = λ e.
          let nothing : many ≡ 0 = omega (arith, e) in
          let at : row + n ≡ n = omega (arith, G.nowhere nothing) in
          (omega (arith, at), ap (in_least known bs) at ∙ sym there ∙ yes, λ k l apart. G.none nothing k (omega (arith, l, apart, at)));
      fewer = omega (arith, G.fewer);
      low = omega (arith, G.low, room);
      nowhere = λ e. absurd (omega (arith, e));
    }))
    (λ (no : least ≡ false). subst (λ b. Glancing known bs (n + 1) (shut || most) (many + cond b 1 0) (row + cond b n 0)) (sym no) (record {
      some = seen;
      none = λ e k l. ⊎_elim (λ (e' : k ≡ n). ap (in_least known bs) e' ∙ sym there ∙ no) (λ (d : k ≢ n). G.none (omega (arith, e)) k (omega (arith, l, d))) (cases_eq k n);
      one = λ e.
          let same : row + 0 ≡ row = omega arith in
          let before = G.one (omega (arith, e)) in (
            omega (arith, before.0),
            ap (in_least known bs) same ∙ before.1,
            λ k l apart.
                ⊎_elim (λ (e' : k ≡ n). ap (in_least known bs) e' ∙ sym there ∙ no) (λ (d : k ≢ n). before.2 k (omega (arith, l, d)) (λ h. apart (h ∙ sym same))) (cases_eq k n),
          );
      fewer = omega (arith, G.fewer);
      low = omega (arith, G.low);
      nowhere = λ e. omega (arith, e, G.nowhere (omega (arith, e)));
    }))
    (cases_Bool least)

module _ {P : Type 0} (M : Meaning P) (R : Recording P) where
  -- the spans of one member more are known
  pub known_more : (members : List (Trial P)) (known known' : Known) (k : ℕ) (x : Trial P) (spans : Spans) → x ≡ get_or members k x → spans_at known' k ≡ spans → ((j : ℕ) → j ≢ k → spans_at known' j ≡ spans_at known j) → SpansOf M R x.point spans
      → ((i : ℕ) (t : Trial P) → i < k → t ≡ get_or members i t → SpansOf M R t.point (spans_at known i)) → k < length members → (i : ℕ) (t : Trial P) → i < k + 1 → t ≡ get_or members i t → SpansOf M R t.point (spans_at known' i)
  known_more members known known' k x spans read kept others told before inside i t l is =
      ⊎_elim
      (λ (e : i ≡ k).
      let same : x ≡ t = read ∙ get_or_default members k x t inside ∙ ap (λ n. get_or members n t) (sym e) ∙ sym is in
      subst (λ y. SpansOf M R y.point (spans_at known' i)) same (subst (SpansOf M R x.point) (sym (ap (spans_at known') e ∙ kept)) told))
      (λ (e : i ≢ k). subst (SpansOf M R t.point) (sym (others i e)) (before i t (omega (arith, e, l)) is))
      (cases_eq i k)

  -- what is known of some members is known of the same, and there is as much room
  pub known_same : (ms ms' : List (Trial P)) (k k' : Known) → ms' ≡ ms → k' ≡ k → Roomy k.most × Roomy k.least × KnowsIfTold M R ms k → Roomy k'.most × Roomy k'.least × KnowsIfTold M R ms' k'
  known_same ms ms' k k' em ek known = rw (em, ek) known

  -- once nothing is known any more, there is as much room
  pub known_nothing : (ms : List (Trial P)) (k k' : Known) → (k'.most ≡ k.most) × (k'.least ≡ k.least) × (k'.told ≡ false) → Roomy k.most × Roomy k.least → Roomy k'.most × Roomy k'.least × KnowsIfTold M R ms k'
  known_nothing ms k k' e room =
      (subst Roomy (sym e.0) room.0, subst Roomy (sym e.1) room.1, λ told. absurd (false≢true (sym e.2 ∙ told)))
