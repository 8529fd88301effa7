-- Rows that close up while a loop goes over them.
use Rattle.std.proofs.Common.{◌≡◌, ℕ, ◌+◌, ◌-◌, ◌<◌, ◌≤◌, Bool, true, false, cond, not, List, [], ◌∷◌, ◌++◌, map, length, get_or, take, drop, set, filter, sym, refl, ap, ◌∙◌, add-zero, arith}
use Rattle.std.proofs.lemmas.List.{get_or-drop, take_all, take_more_set, drop-set-lt, map_push, drop-drop, append-nil, length-set}
use Rattle.std.proofs.lemmas.List.Elements.{filter_more}
use Rattle.std.proofs.lemmas.List.Filters.{FiltersInPlace, FiltersInPlace-more_no, FiltersInPlace-more_set}
use Rattle.std.proofs.lemmas.Bool.{cond-true, cond-false, not_from_true, not_from_false}
use Rattle.space.specs.declared.tagged.Trial.{Trial}
use Rattle.archive.specs.Offering.{Closed}

-- of the first i of xs, n went, and their tags are in front of the list, if it has room for them
pub record Noting {P : Type 0} (goes : Trial P → Bool) (xs : List (Trial P)) (list list' : List ℕ) (n i : ℕ) : Type 0 where
  pub tags : n ≤ length list → take n list' ≡ map (λ r. r.tag) (filter goes (take i xs))
  pub rest : drop n list' ≡ drop n list
  pub long : length list' ≡ length list

module _ {P : Type 0} {goes : Trial P → Bool} {xs : List (Trial P)} {list list' : List ℕ} {n i : ℕ} {x : Trial P} (N : Noting goes xs list list' n i) (inside : i < length xs) (read : x ≡ get_or xs i x) where
  -- this row goes
  noting_more : goes x ≡ true → Noting goes xs list (set list' n x.tag) (n + 1) (i + 1)
  noting_more e = record {
    tags = λ room.
        let more = filter_more goes xs i x inside in
        let this : cond (goes (get_or xs i x)) (get_or xs i x ∷ []) [] ≡ x ∷ [] = ap (λ y. cond (goes y) (y ∷ []) []) (sym read) ∙ cond-true (goes x) (x ∷ []) [] e in
        take_more_set list' n x.tag (omega (arith, N.long)) ∙ ap (λ l. l ++ (x.tag ∷ [])) (N.tags (omega arith))
        ∙ sym (map_push (λ r. r.tag) (filter goes (take i xs)) x)
        ∙ ap (map (λ r. r.tag)) (sym (more ∙ ap (λ l. filter goes (take i xs) ++ l) this));
    rest = drop-set-lt (n + 1) list' n x.tag (omega arith) ∙ sym (drop-drop 1 n list') ∙ ap (drop 1) N.rest ∙ drop-drop 1 n list;
    long = length-set list' n x.tag ∙ N.long;
  }

  -- this row stays
  noting_more_no : goes x ≡ false → Noting goes xs list list' n (i + 1)
  noting_more_no e = record {
    tags = λ room.
        let more = filter_more goes xs i x inside in
        let this : cond (goes (get_or xs i x)) (get_or xs i x ∷ []) [] ≡ [] = ap (λ y. cond (goes y) (y ∷ []) []) (sym read) ∙ cond-false (goes x) (x ∷ []) [] e in
        N.tags room ∙ ap (map (λ r. r.tag)) (sym (more ∙ ap (λ l. filter goes (take i xs) ++ l) this ∙ append-nil (filter goes (take i xs))));
    rest = N.rest;
    long = N.long;
  }

-- what stands past the rows that were gone over is as it was
read_ahead : {X : Type 0} {p : X → Bool} {xs ys : List X} {k i : ℕ} {x : X} → FiltersInPlace p xs ys k i → x ≡ get_or ys i x → x ≡ get_or xs i x
read_ahead {X} {p} {xs} {ys} {k} {i} {x} K e =
    e ∙ ap (λ j. get_or ys j x) (sym (add-zero i)) ∙ sym (get_or-drop i ys 0 x) ∙ ap (λ l. get_or l 0 x) K.rest ∙ get_or-drop i xs 0 x ∙ ap (λ j. get_or xs j x) (add-zero i)

-- the first i rows have closed up: each of them stays or went
pub record ClosingUp {P : Type 0} (goes : Trial P → Bool) (xs ys : List (Trial P)) (list list' : List ℕ) (stay went i : ℕ) : Type 0 where
  pub keeping : FiltersInPlace (λ r. not (goes r)) xs ys stay i
  pub noting : Noting goes xs list list' went i
  pub each : went + stay ≡ i

module _ {P : Type 0} {goes : Trial P → Bool} {xs ys : List (Trial P)} {list list' : List ℕ} {stay went i : ℕ} where
  module _ (C : ClosingUp goes xs ys list list' stay went i) (x : Trial P) (ys' : List (Trial P)) (list'' : List ℕ) (stay' went' : ℕ) (inside : i < length ys) (read : x ≡ get_or ys i x) where
    -- the row at hand goes, and its tag is noted
    pub closing_up_goes : goes x ≡ true → ys' ≡ ys → list'' ≡ set list' went x.tag → stay' ≡ stay → went' ≡ went + 1 → ClosingUp goes xs ys' list list'' stay' went' (i + 1)
    closing_up_goes e ey el es ew =
        rw (ey, el, es, ew)
        record {
          keeping = FiltersInPlace-more_no {x = x} C.keeping inside (not_from_true (goes x) e) read;
          noting = noting_more C.noting (omega (arith, C.keeping.long)) (read_ahead C.keeping read) e;
          each = omega (arith, C.each);
        }

    -- the row at hand stays, and moves up
    pub closing_up_stays : goes x ≡ false → ys' ≡ set ys stay x → list'' ≡ list' → stay' ≡ stay + 1 → went' ≡ went → ClosingUp goes xs ys' list list'' stay' went' (i + 1)
    closing_up_stays e ey el es ew =
        rw (ey, el, es, ew)
        record {
          keeping = FiltersInPlace-more_set C.keeping inside (not_from_false (goes x) e) read;
          noting = noting_more_no C.noting (omega (arith, C.keeping.long)) (read_ahead C.keeping read) e;
          each = omega (arith, C.each);
        }

  pub closing_up_all : ClosingUp goes xs ys list list' stay went i → i ≡ length xs → Closed goes xs list stay ys list'
  closing_up_all C e =
      let K = C.keeping in
      let N = C.noting in
      let whole = take_all i xs (omega arith) in
      let d : went ≡ length xs - stay = omega (arith, C.each) in
      record {
        fewer = omega (arith, C.each);
        stay = K.front ∙ ap (filter (λ r. not (goes r))) whole;
        tags = λ room. ap (λ n. take n list') (sym d) ∙ N.tags (omega arith) ∙ ap (λ l. map (λ r. r.tag) (filter goes l)) whole;
        rest = ap (λ n. drop n list') (sym d) ∙ N.rest ∙ ap (λ n. drop n list) d;
      }

pub closing_up_none : {P : Type 0} (goes : Trial P → Bool) (xs : List (Trial P)) (list : List ℕ) → ClosingUp goes xs xs list list 0 0 0
closing_up_none goes xs list = record {
  keeping = record { front = refl; rest = refl; behind = omega arith; within = omega arith; long = refl };
  noting = record { tags = λ _. refl; rest = refl; long = refl };
  each = refl;
}
