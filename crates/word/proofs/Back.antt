-- Bytes say the number that they are made of, and are those of the number that they say.
use Rattle.std.proofs.Common.{◌≡◌, ℕ, ◌+◌, ◌*◌, ◌/◌, ◌%◌, ◌^◌, ◌<◌, [], ◌∷◌, get_or, subst, arith}
use native.Mathlib.Nat.{div-div-eq-div-mul}
use Rattle.std.proofs.lemmas.Nat.{div-add-mod'}
use Rattle.word.specs.Word.{four_bytes, two_bytes}

-- the four bytes of a number say that number
pub four_back : (n : ℕ) → n < 2 ^ 32 → get_or (four_bytes n) 0 0 * 16777216 + get_or (four_bytes n) 1 0 * 65536 + get_or (four_bytes n) 2 0 * 256 + get_or (four_bytes n) 3 0 ≡ n
four_back n small =
    let top : n / 16777216 % 256 ≡ n / 16777216 = omega arith in
    let high : n / 16777216 * 256 + n / 65536 % 256 ≡ n / 65536 = subst (λ q. q * 256 + n / 65536 % 256 ≡ n / 65536) (div-div-eq-div-mul n 65536 256) (div-add-mod' (n / 65536) 256) in
    let middle : n / 65536 * 256 + n / 256 % 256 ≡ n / 256 = subst (λ q. q * 256 + n / 256 % 256 ≡ n / 256) (div-div-eq-div-mul n 256 256) (div-add-mod' (n / 256) 256) in
    let low : n / 256 * 256 + n % 256 ≡ n = div-add-mod' n 256 in
    omega (arith, top, high, middle, low)

-- and four bytes are those of the number that they say
pub four_again : (a b c d : ℕ) → a < 256 → b < 256 → c < 256 → d < 256 → four_bytes (a * 16777216 + b * 65536 + c * 256 + d) ≡ a ∷ b ∷ c ∷ d ∷ []
four_again a b c d la lb lc ld =
    let n = a * 16777216 + b * 65536 + c * 256 + d in
    let first : n / 16777216 % 256 ≡ a = omega arith in
    let to-second : n / 65536 ≡ a * 256 + b = omega arith in
    let second : n / 65536 % 256 ≡ b = omega (arith, to-second) in
    let to-third : n / 256 ≡ a * 65536 + b * 256 + c = omega arith in
    let third : n / 256 % 256 ≡ c = omega (arith, to-third) in
    let fourth : n % 256 ≡ d = omega arith in
    cc

-- the two bytes of a number of 16 bits say that number
pub two_back : (n : ℕ) → n < 65536 → get_or (two_bytes n) 0 0 * 256 + get_or (two_bytes n) 1 0 ≡ n
two_back n small =
    let top : n / 256 % 256 ≡ n / 256 = omega arith in
    let low : n / 256 * 256 + n % 256 ≡ n = div-add-mod' n 256 in
    omega (arith, top, low)

-- and two bytes are those of the number that they say
pub two_again : (a b : ℕ) → a < 256 → b < 256 → two_bytes (a * 256 + b) ≡ a ∷ b ∷ []
two_again a b la lb =
    let n = a * 256 + b in
    let first : n / 256 % 256 ≡ a = omega arith in
    let second : n % 256 ≡ b = omega arith in
    cc
