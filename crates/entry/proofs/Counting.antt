-- How a number is read digit by digit.
use Rattle.std.proofs.Common.{◌≡◌, ℕ, ◌+◌, ◌-◌, ◌*◌, ◌<◌, ◌≤◌, true, false, cond, ◌&&◌, ltb, List, [], ◌∷◌, length, get_or, drop, Some, None, Option, ap, arith}
use Rattle.std.proofs.lemmas.List.{at_drop_more, at_drop_all}
use Rattle.std.proofs.lemmas.Bool.{cond-true, cond-false, and_right, le-ltb, lt-ltb}
use Rattle.entry.specs.Line.{digit, digits, decimal_after, number_below}

-- what the digits that are left make of the number so far
abbrev pub number_after : ℕ → ℕ → List ℕ → Option ℕ
number_after limit n ds = cond (digits ds && ltb (decimal_after n ds) limit) (Some (decimal_after n ds)) None

-- the number never falls
decimal_ge : (n : ℕ) (ds : List ℕ) → n ≤ decimal_after n ds
unfolding decimal_after
decimal_ge n [] = omega arith
decimal_ge n (d ∷ ds) = omega (arith, decimal_ge (10 * n + (d - 48)) ds)

-- a field that is not empty is read from 0 on
from_zero : (limit : ℕ) (ds : List ℕ) → 0 < length ds → number_below limit ds ≡ number_after limit 0 ds
from_zero limit ds l =
    ap (λ t. cond (t && (digits ds && ltb (decimal_after 0 ds) limit)) (Some (decimal_after 0 ds)) None) (lt-ltb 0 (length ds) l)

-- one more digit
digit_more : (limit n d : ℕ) (ds : List ℕ) → digit d ≡ true → number_after limit n (d ∷ ds) ≡ number_after limit (10 * n + (d - 48)) ds
unfolding digits decimal_after
digit_more limit n d ds h =
    let m = 10 * n + (d - 48) in
    ap (λ t. cond ((t && digits ds) && ltb (decimal_after m ds) limit) (Some (decimal_after m ds)) None) h

-- a byte that is none
digit_fails : (limit n d : ℕ) (ds : List ℕ) → digit d ≡ false → number_after limit n (d ∷ ds) ≡ None
unfolding digits decimal_after
digit_fails limit n d ds h =
    let m = 10 * n + (d - 48) in
    ap (λ t. cond ((t && digits ds) && ltb (decimal_after m ds) limit) (Some (decimal_after m ds)) None) h

-- the limit is reached
limit_fails : (limit n : ℕ) (ds : List ℕ) → limit ≤ n → number_after limit n ds ≡ None
limit_fails limit n ds h =
    cond-false (digits ds && ltb (decimal_after n ds) limit) _ _
    (and_right (digits ds) (ltb (decimal_after n ds) limit) (le-ltb _ _ (omega (arith, decimal_ge n ds))))

-- no digit is left
all_read : (limit n : ℕ) → n < limit → number_after limit n [] ≡ Some n
unfolding digits decimal_after
all_read limit n h = cond-true (ltb n limit) (Some n) None (lt-ltb n limit h)

-- at place i of the digits, those before it having made n
module _ (limit : ℕ) (ds : List ℕ) (i n : ℕ) (made : number_after limit n (drop i ds) ≡ number_after limit 0 ds) where
  module _ (inside : i < length ds) where
    -- what stands there is no digit
    pub fails_here : digit (get_or ds i 0) ≡ false → None ≡ number_below limit ds
    fails_here h =
        let first = from_zero limit ds (omega arith) in
        let next = at_drop_more (number_after limit n) ds i 0 inside in
        let none = digit_fails limit n (get_or ds i 0) (drop (i + 1) ds) h in
        cc

    -- a digit stands there
    pub made_more : digit (get_or ds i 0) ≡ true → number_after limit (10 * n + (get_or ds i 0 - 48)) (drop (i + 1) ds) ≡ number_after limit 0 ds
    made_more h =
        let next = at_drop_more (number_after limit n) ds i 0 inside in
        let more = digit_more limit n (get_or ds i 0) (drop (i + 1) ds) h in
        cc

    -- and with it the limit is reached
    pub over_here : digit (get_or ds i 0) ≡ true → limit ≤ 10 * n + (get_or ds i 0 - 48) → None ≡ number_below limit ds
    over_here h l =
        let first = from_zero limit ds (omega arith) in
        let more = made_more h in
        let none = limit_fails limit (10 * n + (get_or ds i 0 - 48)) (drop (i + 1) ds) l in
        cc

  -- all are read
  pub made_all : 0 < length ds → length ds ≤ i → n < limit → Some n ≡ number_below limit ds
  made_all some past l =
      let first = from_zero limit ds some in
      let last = at_drop_all (number_after limit n) ds i past in
      let whole = all_read limit n l in
      cc
