-- Octal digits, and the bits of letters.
use Rattle.std.proofs.Common.{ℕ, zero, suc, ◌≡◌, ◌≤◌, ◌<◌, ◌+◌, ◌*◌, ◌-◌, Bool, true, false, ◌&&◌, List, length, get_or, refl, sym, ap, ◌∙◌, arith, add-one, drop, drop-cons}
use Rattle.std.specs.Prelude.{nat_le, bit_or}
use Rattle.std.specs.List.{list_all}
use Rattle.std.proofs.lemmas.Bool.{and_parts, true≢false}
use Rattle.std.proofs.lemmas.Bool.Decides.{nat_tests}
use Rattle.std.proofs.lemmas.List.Folds.{list_all_at}
use Rattle.std.proofs.lemmas.Nat.{or_lt}
use Rattle.sh_files.specs.Modes.{is_octal, is_octal_digit, bits_from}

-- 1. Octal digits.

-- what so many octal digits can't write
abbrev pub limit : ℕ → ℕ
limit zero = 1
limit (suc n) = 8 * limit n

limit-more : (n : ℕ) → limit (n + 1) ≡ 8 * limit n
limit-more n = ap limit (add-one n)

pub limit-few : (n : ℕ) → n ≤ 3 → limit n ≤ 512
limit-few zero few = omega arith
limit-few (suc zero) few = omega arith
limit-few (suc (suc zero)) few = omega arith
limit-few (suc (suc (suc zero))) few = omega arith
limit-few (suc (suc (suc (suc n)))) few = absurd (omega arith)

pub limit-all : (n : ℕ) → n ≤ 4 → limit n ≤ 4096
limit-all zero few = omega arith
limit-all (suc n) few = let less : limit n ≤ 512 = limit-few n (omega arith) in omega arith

-- a digit of an octal word
pub record IsDigit (digits : List ℕ) (i : ℕ) : Type 0 where
  pub low : 48 ≤ get_or digits i 0
  pub high : get_or digits i 0 ≤ 55
  pub few : i ≤ 3

le-from : (a b : ℕ) → nat_le a b ≡ true → a ≤ b
le-from a b is = grind (arith, nat_tests)

at-digit : (byte : ℕ) → is_octal_digit byte ≡ true → (48 ≤ byte) × (byte ≤ 55)
at-digit byte is = let both = and_parts (nat_le 48 byte) (nat_le byte 55) is in (le-from 48 byte both.0, le-from byte 55 both.1)

all-at : {X : Type 0} (test : X → Bool) (xs : List X) (i : ℕ) (d : X) → list_all test xs ≡ true → i < length xs → test (get_or xs i d) ≡ true
all-at test xs i d all within = by (test (get_or xs i d)) refl
  where
    by : (b : Bool) → test (get_or xs i d) ≡ b → test (get_or xs i d) ≡ true
    by true is = is
    by false is = absurd (true≢false (sym all ∙ list_all_at test xs i d within is))

parts-of : (digits : List ℕ) → is_octal digits ≡ true → (nat_le (length digits) 4 ≡ true) × (list_all is_octal_digit digits ≡ true)
parts-of digits is =
    let both = and_parts (nat_le 1 (length digits) && nat_le (length digits) 4) (list_all is_octal_digit digits) is in
    ((and_parts (nat_le 1 (length digits)) (nat_le (length digits) 4) both.0).1, both.1)

pub octal-short : (digits : List ℕ) → is_octal digits ≡ true → length digits ≤ 4
octal-short digits is = le-from (length digits) 4 (parts-of digits is).0

pub octal-digit : (digits : List ℕ) (i : ℕ) → is_octal digits ≡ true → i < length digits → IsDigit digits i
octal-digit digits i is within =
    let digit = at-digit (get_or digits i 0) (all-at is_octal_digit digits i 0 (parts-of digits is).1 within) in
    let short = octal-short digits is in
    record { low = digit.0; high = digit.1; few = omega arith }

-- one more digit
pub octal-room : (digits : List ℕ) (i value : ℕ) → IsDigit digits i → value < limit i → value * 8 + (get_or digits i 0 - 48) < limit (i + 1)
octal-room digits i value digit less = let more = limit-more i in let low = digit.low in let high = digit.high in omega arith

pub octal-few : (digits : List ℕ) (i value : ℕ) → IsDigit digits i → value < limit i → value < 512
octal-few digits i value digit less = let few = limit-few i digit.few in omega arith

-- 2. Bits.

pub bits-within : (a b : ℕ) → a ≤ 511 → b ≤ 511 → bit_or a b ≤ 511
bits-within a b one two = let both : bit_or a b < 512 = or_lt 9 a b (omega arith) (omega arith) in omega arith

-- a mode with more bits is a mode
pub or_modest : (a b : ℕ) → a ≤ 4095 → b ≤ 4095 → bit_or a b ≤ 4095
or_modest a b one two = let both : bit_or a b < 4096 = or_lt 12 a b (omega arith) (omega arith) in omega arith

-- one more letter
pub bits-on : (bits_of : ℕ → ℕ) (letters : List ℕ) (i bits one whole : ℕ) → i < length letters → one ≡ bits_of (get_or letters i 0) → bits_from bits_of bits (drop i letters) ≡ whole
    → bits_from bits_of (bit_or bits one) (drop (i + 1) letters) ≡ whole
bits-on bits_of letters i bits one whole within is so_far =
    ap (λ n. bits_from bits_of (bit_or bits one) (drop n letters)) (add-one i)
    ∙ ap (λ b. bits_from bits_of (bit_or bits b) (drop (suc i) letters)) is
    ∙ sym (ap (bits_from bits_of bits) (drop-cons letters i 0 within)) ∙ so_far
