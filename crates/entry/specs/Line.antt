-- What a line of text says: TAG DELAY LIFE, three decimal numbers between spaces.
use Rattle.std.specs.Prelude.{ℕ, ◌+◌, ◌-◌, ◌*◌, ◌^◌, Bool, true, cond, ◌&&◌, List, [], ◌∷◌, ◌++◌, length, take, drop, ℤ, pos, neg_ℤ, Some, None, Ok, Err, Option, Result, ◌==◌, nat_le, nat_lt, slice_index, slice_index_or}
use Rattle.std.specs.Option.{option_map}
use Rattle.entry.specs.declared.outcome.Entry.{Entry}
use Rattle.entry.specs.declared.outcome.Malformed.{Malformed}
use Rattle.entry.specs.declared.outcome.Malformed.TheVariants.{Fields, Tag, Delay, Life}

-- the line without a carriage return at its end
abbrev pub without_return : List ℕ → List ℕ
without_return bs = cond (slice_index bs (length bs - 1) == 13) (take (length bs - 1) bs) bs

-- a field before others, unless it is empty
abbrev pub closed : List ℕ → List (List ℕ) → List (List ℕ)
closed f fs = cond (nat_lt 0 (length f)) (f ∷ fs) fs

-- the fields of what is left of a line, f being the part of the first that is read already
unfoldable pub fields_after : List ℕ → List ℕ → List (List ℕ)
fields_after f [] = closed f []
fields_after f (b ∷ bs) = cond (b == 32) (closed f (fields_after [] bs)) (fields_after (f ++ (b ∷ [])) bs)

-- the fields of a line: the bytes between its spaces
abbrev pub fields : List ℕ → List (List ℕ)
fields bs = fields_after [] bs

-- the byte is a decimal digit
abbrev pub digit : ℕ → Bool
digit b = nat_le 48 b && nat_le b 57

-- each byte is
unfoldable pub digits : List ℕ → Bool
digits [] = true
digits (b ∷ bs) = digit b && digits bs

-- the number that digits write, after the number n that those before them write
unfoldable pub decimal_after : ℕ → List ℕ → ℕ
decimal_after n [] = n
decimal_after n (b ∷ bs) = decimal_after (10 * n + (b - 48)) bs

-- the number that digits write
abbrev pub decimal : List ℕ → ℕ
decimal bs = decimal_after 0 bs

-- the number that a field writes, where it is of digits alone, one at least, and the number is below a limit
abbrev pub number_below : ℕ → List ℕ → Option ℕ
number_below limit f = cond (nat_lt 0 (length f) && (digits f && nat_lt (decimal f) limit)) (Some (decimal f)) None

-- a number of 32 bits
abbrev pub unsigned : List ℕ → Option ℕ
unsigned f = number_below (2 ^ 32) f

-- a signed number of 32 bits, with a `-` in front where it is negative
abbrev pub signed : List ℕ → Option ℤ
signed f = cond (slice_index f 0 == 45) (option_map (λ n. neg_ℤ (pos n)) (number_below (2 ^ 31 + 1) (drop 1 f))) (option_map pos (number_below (2 ^ 31) f))

-- the entry of three numbers, or the first that is none
abbrev pub joined : Option ℕ → Option ℤ → Option ℕ → Result Entry Malformed
joined None delay life = Err Tag
joined (Some t) None life = Err Delay
joined (Some t) (Some d) None = Err Life
joined (Some t) (Some d) (Some l) = Ok (record { tag = t; delay = d; life = l })

-- what the fields of a line say: three numbers are wanted
abbrev pub entry_of_fields : List (List ℕ) → Result Entry Malformed
entry_of_fields fs = cond (length fs == 3) (joined (unsigned (slice_index_or fs 0 [])) (signed (slice_index_or fs 1 [])) (unsigned (slice_index_or fs 2 []))) (Err (Fields (length fs)))

-- what a line says
abbrev pub entry_of : List ℕ → Result Entry Malformed
entry_of bs = entry_of_fields (fields (without_return bs))
