-- How a grid is made from its scales, one after the other.
use Rattle.std.proofs.Common.{◌≡◌, ℕ, ◌+◌, ◌-◌, ◌<◌, ◌≤◌, Bool, true, false, cond, ◌&&◌, leb, List, [], ◌∷◌, ◌++◌, map, length, get_or, take, drop, set, replicate, Some, None, sym, refl, ap, ◌∙◌, subst, ⊎_elim, arith}
use Rattle.std.proofs.lemmas.List.{take_more_set, take-append-drop, drop-set-lt, drop-map, drop-replicate, map-append, length-map, take_all, at_drop_more, at_drop_all, map_push, map_more, length-set}
use Rattle.std.proofs.Math.Seq.{drop-drop}
use Rattle.std.proofs.lemmas.Bool.{cases_Bool, cond-true, cond-false, le-leb, and_from}
use Rattle.space.specs.declared.refusal.BadGrid.TheVariants.{Objectives, Objective}
use Rattle.grid.specs.Line.{Line}
use Rattle.grid.specs.Making.{first_fault, grid_fault, six_rules}

module _ {S A F : Type 0} (sound : S → Bool) (rule : S → Line F) (line : A → Line F) where
  -- what the maker of one rule tells by granting it
  granted : (s : S) (a : A) → Some (line a) ≡ cond (sound s) (Some (rule s)) None → (sound s ≡ true) × (line a ≡ rule s)
  granted s a e =
      ⊎_elim
      (λ yes. let is = cond-true (sound s) (Some (rule s)) None yes in let same : line a ≡ rule s = cc in (yes, same))
      (λ no. let is = cond-false (sound s) (Some (rule s)) None no in let z : ◌≡◌ {A = ℕ} 0 1 = cc in absurd (omega arith))
      (cases_Bool (sound s))

  -- and by refusing
  refused : (s : S) → None ≡ cond (sound s) (Some (rule s)) None → sound s ≡ false
  refused s e =
      ⊎_elim
      (λ yes. let is = cond-true (sound s) (Some (rule s)) None yes in let z : ◌≡◌ {A = ℕ} 0 1 = cc in absurd (omega arith))
      (λ no. no)
      (cases_Bool (sound s))

  -- the rule of the first scale
  head_of : (scales : List S) (s : S) (l : Line F) (ls : List (Line F)) → 1 ≤ length scales → s ≡ get_or scales 0 s → map rule scales ≡ l ∷ ls → rule s ≡ l
  head_of [] s l ls one read is = absurd (omega (arith, one))
  head_of (x ∷ xs) s l ls one read is = let first : s ≡ x = read in let same : rule x ≡ l = cc in ap rule first ∙ same

  -- one place less past the rules
  past_one_more : (axes : List A) (i : ℕ) (a : A) (l : Line F) → map line (drop i axes) ≡ replicate (6 - i) l → map line (drop (i + 1) (set axes i a)) ≡ replicate (6 - (i + 1)) l
  past_one_more axes i a l past =
      let kept = drop-set-lt (i + 1) axes i a (omega arith) ∙ sym (drop-drop 1 i axes) in
      ap (map line) kept ∙ sym (drop-map line 1 (drop i axes)) ∙ ap (drop 1) past ∙ drop-replicate 1 (6 - i) l ∙ ap (λ n. replicate n l) (omega arith)

  -- the rules in front and the places past them are all six
  six_made : (scales : List S) (axes : List A) → 1 ≤ length scales → map line (take (length scales) axes) ≡ map rule scales → ((l : Line F) (ls : List (Line F)) → map rule scales ≡ l ∷ ls → map line (drop (length scales) axes) ≡ replicate (6 - length scales) l) → map line axes ≡ six_rules (map rule scales)
  six_made [] axes one front past = absurd (omega (arith, one))
  six_made (x ∷ xs) axes one front past =
      let n = length (x ∷ xs) in
      let halves = ap (map line) (sym (take-append-drop n axes)) ∙ map-append line (take n axes) (drop n axes) in
      let less : 6 - n ≡ 5 - length (map rule xs) = omega (arith, length-map xs rule) in
      let back = past (rule x) (map rule xs) refl ∙ ap (λ k. replicate k (rule x)) less in
      halves ∙ ap (λ p. p ++ map line (drop n axes)) front ∙ ap (λ q. map rule (x ∷ xs) ++ q) back

  -- the first i rules are made, the first one stands again in the places past them, and none of their scales is at fault
  pub record Made (scales : List S) (axes : List A) (i : ℕ) : Type 0 where
    pub six : length axes ≡ 6
    pub lines : map line (take i axes) ≡ map rule (take i scales)
    pub past : (l : Line F) (ls : List (Line F)) → map rule scales ≡ l ∷ ls → map line (drop i axes) ≡ replicate (6 - i) l
    pub faultless : first_fault sound 0 scales ≡ first_fault sound i (drop i scales)

  module _ (scales : List S) (few : length scales ≤ 6) where
    -- none yet
    pub made_none : (s : S) (a : A) → 1 ≤ length scales → s ≡ get_or scales 0 s → Some (line a) ≡ cond (sound s) (Some (rule s)) None → Made scales (replicate 6 a) 0
    made_none s a one read e = record { six = refl; lines = refl; past = λ l ls is. ap (replicate 6) ((granted s a e).1 ∙ head_of scales s l ls one read is); faultless = refl }

    -- what is left begins with the next scale
    next_fault : (i : ℕ) (s : S) → i < length scales → s ≡ get_or scales i s → first_fault sound i (drop i scales) ≡ cond (sound s) (first_fault sound (i + 1) (drop (i + 1) scales)) (Some (Objective i))
    next_fault i s l read = at_drop_more (first_fault sound i) scales i s l ∙ ap (λ x. cond (sound x) (first_fault sound (i + 1) (drop (i + 1) scales)) (Some (Objective i))) (sym read)

    -- the number of objectives is not at fault
    counted : 1 ≤ length scales → grid_fault sound scales ≡ first_fault sound 0 scales
    counted one = cond-true (leb 1 (length scales) && leb (length scales) 6) (first_fault sound 0 scales) (Some Objectives) (and_from (leb 1 (length scales)) (leb (length scales) 6) (le-leb 1 (length scales) one) (le-leb (length scales) 6 few))

    -- one more
    pub made_more : (axes : List A) (i : ℕ) (s : S) (a : A) → i < length scales → s ≡ get_or scales i s → Some (line a) ≡ cond (sound s) (Some (rule s)) None → Made scales axes i → Made scales (set axes i a) (i + 1)
    made_more axes i s a l read e made =
        let told = granted s a e in
        let from = ap (map line) (take_more_set axes i a (omega (arith, made.six))) in
        let pushed = map_push line (take i axes) a in
        let to = map_more rule scales i s l in
        let next = next_fault i s l read in
        let sound-here = cond-true (sound s) (first_fault sound (i + 1) (drop (i + 1) scales)) (Some (Objective i)) told.0 in
        record { six = length-set axes i a ∙ made.six; lines = cc; past = λ l ls is. past_one_more axes i a l (made.past l ls is); faultless = cc }

    -- a scale at fault
    pub made_fault : (i : ℕ) (s : S) → i < length scales → s ≡ get_or scales i s → None ≡ cond (sound s) (Some (rule s)) None → first_fault sound 0 scales ≡ first_fault sound i (drop i scales) → grid_fault sound scales ≡ Some (Objective i)
    made_fault i s l read e faultless = counted (omega arith) ∙ faultless ∙ next_fault i s l read ∙ cond-false (sound s) (first_fault sound (i + 1) (drop (i + 1) scales)) (Some (Objective i)) (refused s e)

    -- all
    pub made_all : (axes : List A) (i : ℕ) → 1 ≤ length scales → i ≡ length scales → Made scales axes i → (grid_fault sound scales ≡ None) × (map line (take (length scales) axes) ≡ map rule scales) × (map line axes ≡ six_rules (map rule scales))
    made_all axes i one e made =
        let none = at_drop_all (first_fault sound i) scales i (omega arith) in
        let whole = take_all i scales (omega arith) in
        let met : map line (take i axes) ≡ map rule scales = cc in
        let front = subst (λ n. map line (take n axes) ≡ map rule scales) e met in
        let past = subst (λ n. (l : Line F) (ls : List (Line F)) → map rule scales ≡ l ∷ ls → map line (drop n axes) ≡ replicate (6 - n) l) e made.past in
        (counted one ∙ made.faultless ∙ none, front, six_made scales axes one front past)
