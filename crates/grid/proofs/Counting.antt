-- What the counts of some trials tell of them, by two tests.
use Rattle.std.proofs.Common.{◌≡◌, ℕ, suc, ◌+◌, ◌-◌, ◌^◌, ◌%◌, ◌<◌, Bool, true, false, cond, ◌&&◌, ◌||◌, not, ltb, List, [], ◌∷◌, ◌++◌, length, get_or, take, filter, sym, refl, ap, ◌∙◌, ⊎_elim, arith}
use Rattle.std.specs.Prelude.{◌==◌}
use Rattle.std.specs.Int.Bits.{bit_or}
use Rattle.std.specs.List.{list_any}
use Rattle.std.proofs.lemmas.Bool.{cases_Bool, eqb-true, lt-ltb}
use Rattle.std.proofs.lemmas.Bool.Decides.{nat_tests}
use Rattle.std.proofs.lemmas.List.{length-take-le, take_more}
use Rattle.std.proofs.lemmas.List.Filters.{length-filter_more}
use Rattle.space.specs.Looking.{before_first, holders_of, look_by}
use Rattle.space.specs.declared.looking.Holders.TheVariants.{Nobody, One, Several}
use Rattle.space.proofs.Looks.{before_few, before_kept, before_last}
use Rattle.grid.specs.Counts.{counted, told_by}
use Rattle.grid.specs.declared.counts.Counts.{Counts}
use Rattle.grid.specs.declared.counts.Missed.{Missed}

-- one passes where the number of those that pass is not zero
any_counted : {T : Type 0} (f : T → Bool) (ts : List T) → ltb 0 (length (filter f ts)) ≡ list_any f ts
any_counted f [] = refl
any_counted f (t ∷ ts) = elim (f t) as (λ b. ltb 0 (length (cond b (t ∷ filter f ts) (filter f ts))) ≡ (b || list_any f ts)) [ true ↦ lt-ltb 0 (suc (length (filter f ts))) (omega arith) | false ↦ any_counted f ts ]

module _ {T : Type 0} (over under : T → Bool) where
  -- those that pass the one test pass the other too, or not
  split : (ts : List T) → length (filter over ts) ≡ length (filter (λ t. over t && under t) ts) + length (filter (λ t. over t && not (under t)) ts)
  split [] = refl
  split (t ∷ ts) =
      let both : T → Bool = λ t. over t && under t in
      let alone : T → Bool = λ t. over t && not (under t) in
      (elim (over t) as (λ a. length (cond a (t ∷ filter over ts) (filter over ts)) ≡ length (cond (a && under t) (t ∷ filter both ts) (filter both ts)) + length (cond (a && not (under t)) (t ∷ filter alone ts) (filter alone ts))) [
        | true ↦ (elim (under t) as (λ b. suc (length (filter over ts)) ≡ length (cond b (t ∷ filter both ts) (filter both ts)) + length (cond (not b) (t ∷ filter alone ts) (filter alone ts))) [ true ↦ omega (arith, split ts) | false ↦ omega (arith, split ts) ])
        | false ↦ split ts
      ])

  -- so many of these trials fail each test, and so many one of both; and the one that passes both, where there is one alone, is at this place
  pub record Counted (ts : List T) (c : Counts) : Type 0 where
    pub most : c.most + length (filter over ts) ≡ length ts
    pub least : c.least + length (filter under ts) ≡ length ts
    pub others : c.others + length (filter (λ t. over t && under t) ts) ≡ length ts
    pub none : length (filter (λ t. over t && under t) ts) ≡ 0 → c.places ≡ 0
    pub one : length (filter (λ t. over t && under t) ts) ≡ 1 → c.places ≡ before_first (λ t. over t && under t) ts

  -- of no trial nothing is counted
  pub counted_none : (c : Counts) → c.most ≡ 0 → c.least ≡ 0 → c.others ≡ 0 → c.places ≡ 0 → Counted [] c
  counted_none c most least others places = record { most = omega (arith, most); least = omega (arith, least); others = omega (arith, others); none = λ e. places; one = λ e. absurd (omega (arith, e)) }

  -- a test is passed, or counted as failed
  passed : (a : Bool) → cond a 0 1 + cond a 1 0 ≡ 1
  passed a = elim a as (λ a. cond a 0 1 + cond a 1 0 ≡ 1) [ true ↦ refl | false ↦ refl ]

  -- one of both is failed
  failed : (a b : Bool) → bit_or (cond a 0 1) (cond b 0 1) ≡ cond (a && b) 0 1
  failed a b = elim a as (λ a. bit_or (cond a 0 1) (cond b 0 1) ≡ cond (a && b) 0 1) [ true ↦ elim b as (λ b. bit_or 0 (cond b 0 1) ≡ cond b 0 1) [ true ↦ refl | false ↦ refl ] | false ↦ elim b as (λ b. bit_or 1 (cond b 0 1) ≡ 1) [ true ↦ refl | false ↦ refl ] ]

  -- one trial more
  pub counted_more : (ts : List T) (i : ℕ) (t : T) (c : Counts) (missed : Missed) → i < length ts → length ts < 2 ^ 32 → t ≡ get_or ts i t → missed.most ≡ cond (over t) 0 1 → missed.least ≡ cond (under t) 0 1 → Counted (take i ts) c → Counted (take (i + 1) ts) (counted c i missed)
  counted_more ts i t c missed inside few read most least C =
      let both : T → Bool = λ t. over t && under t in
      let first = take i ts in
      let long : length first ≡ i = length-take-le i ts (omega (arith, inside)) in
      let longer : length (take (i + 1) ts) ≡ i + 1 = length-take-le (i + 1) ts (omega (arith, inside)) in
      let more : take (i + 1) ts ≡ first ++ (t ∷ []) = take_more ts i t inside ∙ ap (λ x. first ++ (x ∷ [])) (sym read) in
      let overs : length (filter over (take (i + 1) ts)) ≡ length (filter over first) + cond (over t) 1 0 = length-filter_more over ts i t inside ∙ ap (λ x. length (filter over first) + cond (over x) 1 0) (sym read) in
      let unders : length (filter under (take (i + 1) ts)) ≡ length (filter under first) + cond (under t) 1 0 = length-filter_more under ts i t inside ∙ ap (λ x. length (filter under first) + cond (under x) 1 0) (sym read) in
      let boths : length (filter both (take (i + 1) ts)) ≡ length (filter both first) + cond (both t) 1 0 = length-filter_more both ts i t inside ∙ ap (λ x. length (filter both first) + cond (both x) 1 0) (sym read) in
      let other : bit_or missed.most missed.least ≡ cond (both t) 0 1 = ap (λ x. bit_or x missed.least) most ∙ ap (bit_or (cond (over t) 0 1)) least ∙ failed (over t) (under t) in
      ⊎_elim
      (λ (yes : both t ≡ true).
      let fails : bit_or missed.most missed.least ≡ 0 = other ∙ ap (λ b. cond b 0 1) yes in
      let passes : ◌≡◌ {A = ℕ} (cond (both t) 1 0) 1 = ap (λ b. cond b 1 0) yes in
      let here : cond (bit_or missed.most missed.least == 0) i 0 ≡ i = ap (λ n. cond (n == 0) i 0) fails in
      record {
        most = omega (arith, most, passed (over t), overs, C.most, long, longer, inside, few);
        least = omega (arith, least, passed (under t), unders, C.least, long, longer, inside, few);
        others = omega (arith, fails, passes, boths, C.others, long, longer, inside, few);
        none = λ e. absurd (omega (arith, e, boths, passes));
        one = λ e.
            let none : length (filter both first) ≡ 0 = omega (arith, e, boths, passes) in
            let place : (c.places + cond (bit_or missed.most missed.least == 0) i 0) % 2 ^ 32 ≡ i = omega (arith, here, C.none none, inside, few) in
            place ∙ sym (ap (before_first both) more ∙ before_last both first t none yes ∙ long);
      })
      (λ (no : both t ≡ false).
      let fails : bit_or missed.most missed.least ≡ 1 = other ∙ ap (λ b. cond b 0 1) no in
      let passes : ◌≡◌ {A = ℕ} (cond (both t) 1 0) 0 = ap (λ b. cond b 1 0) no in
      let nowhere : cond (bit_or missed.most missed.least == 0) i 0 ≡ 0 = ap (λ n. cond (n == 0) i 0) fails in
      record {
        most = omega (arith, most, passed (over t), overs, C.most, long, longer, inside, few);
        least = omega (arith, least, passed (under t), unders, C.least, long, longer, inside, few);
        others = omega (arith, fails, passes, boths, C.others, long, longer, inside, few);
        none = λ e. omega (arith, nowhere, C.none (omega (arith, e, boths, passes)));
        one = λ e.
            let before : length (filter both first) ≡ 1 = omega (arith, e, boths, passes) in
            let place : (c.places + cond (bit_or missed.most missed.least == 0) i 0) % 2 ^ 32 ≡ before_first both first = omega (arith, nowhere, C.one before, before_few both first, long, inside, few) in
            place ∙ sym (ap (before_first both) more ∙ before_kept both first (t ∷ []) (omega (arith, before)));
      })
      (cases_Bool (both t))

  -- the counts of all trials tell who passes the tests
  pub counted_all : (ts : List T) (c : Counts) (n : ℕ) → n ≡ length ts → Counted ts c → told_by c n ≡ look_by over under ts
  counted_all ts c n all C =
      let both : T → Bool = λ t. over t && under t in
      let alone : T → Bool = λ t. over t && not (under t) in
      let many : n - c.others ≡ length (filter both ts) = omega (arith, all, C.others) in
      let parts = split ts in
      let less : ltb c.most c.others ≡ ltb 0 (length (filter alone ts)) = grind (arith, nat_tests, parts, all, C.most, C.others) in
      let below : ltb c.most c.others ≡ list_any alone ts = less ∙ any_counted alone ts in
      let fewer : ltb c.least n ≡ ltb 0 (length (filter under ts)) = grind (arith, nat_tests, all, C.least) in
      let shut : ltb c.least n ≡ list_any under ts = fewer ∙ any_counted under ts in
      let count = length (filter both ts) in
      let place : cond (count == 1) (One c.places) Several ≡ cond (count == 1) (One (before_first both ts)) Several =
      ⊎_elim
      (λ (yes : (count == 1) ≡ true). ap (λ n. cond (count == 1) (One n) Several) (C.one (eqb-true count 1 yes)))
      (λ (no : (count == 1) ≡ false). ap (λ b. cond b (One c.places) Several) no ∙ sym (ap (λ b. cond b (One (before_first both ts)) Several) no))
      (cases_Bool (count == 1)) in
      let holders : cond ((n - c.others) == 0) Nobody (cond ((n - c.others) == 1) (One c.places) Several) ≡ holders_of both ts = ap (λ m. cond (m == 0) Nobody (cond (m == 1) (One c.places) Several)) many ∙ ap (cond (count == 0) Nobody) place in
      cc
