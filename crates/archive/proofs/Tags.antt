-- Tags in front of a list, one at a time.
use Rattle.std.proofs.Common.{◌≡◌, ℕ, ◌+◌, ◌<◌, ◌≤◌, List, [], ◌∷◌, ◌++◌, map, length, get_or, take, drop, set, sym, ap, ◌∙◌, arith}
use Rattle.std.proofs.lemmas.List.{append_assoc, drop_more, length-map, length-take-le, map_more, set_at, take_all}
use Rattle.space.specs.declared.tagged.Trial.{Trial}

-- the tags of some trials
abbrev pub tags_of : {P : Type 0} → List (Trial P) → List ℕ
tags_of ms = map (λ r. r.tag) ms

module _ {P : Type 0} (ms : List (Trial P)) (before : List ℕ) (room : length ms ≤ length before) where
  pub tags_more : (tags : List ℕ) (i : ℕ) (d : Trial P) → i < length ms → d ≡ get_or ms i d → tags ≡ tags_of (take i ms) ++ drop i before → set tags i d.tag ≡ tags_of (take (i + 1) ms) ++ drop (i + 1) before
  tags_more tags i d l read e =
      let x = (get_or ms i d).tag in
      let front = tags_of (take i ms) in
      let long : length front ≡ i = length-map (take i ms) (λ r. r.tag) ∙ length-take-le i ms (omega arith) in
      let split : tags ≡ front ++ get_or before i 0 ∷ drop (i + 1) before = e ∙ ap (λ xs. front ++ xs) (drop_more before i 0 (omega arith)) in
      ap (λ t. set tags i t.tag) read
      ∙ (ap (λ xs. set xs i x) split
      ∙ (set_at front (get_or before i 0) (drop (i + 1) before) x i long
      ∙ (sym (append_assoc front (x ∷ []) (drop (i + 1) before)) ∙ ap (λ xs. xs ++ drop (i + 1) before) (sym (map_more (λ r. r.tag) ms i d l)))))

  pub tags_all : (tags : List ℕ) (i : ℕ) → length ms ≤ i → i ≤ length ms → tags ≡ tags_of (take i ms) ++ drop i before → tags ≡ tags_of ms ++ drop (length ms) before
  tags_all tags i l h e =
      let whole = take_all i ms l in
      let same : i ≡ length ms = omega arith in
      e ∙ (ap (λ xs. tags_of xs ++ drop i before) whole ∙ ap (λ k. tags_of ms ++ drop k before) same)
