-- The number of workers that a word says.
use Rattle.std.proofs.Common.{◌≡◌, ℕ, ◌+◌, ◌-◌, ◌*◌, ◌≤◌, Bool, true, false, List, [], ◌∷◌, Option, Some, None, refl, ap, arith}
use Rattle.std.specs.Prelude.{◌&&◌, nat_le, if◌then◌else◌}
use Rattle.std.proofs.lemmas.Bool.{and_parts}
use Rattle.std.proofs.lemmas.Bool.Decides.{nat_tests}
use Rattle.br_words.specs.Command.{IsDigit, IsWorkers, one, two}
use Rattle.br_words.specs.Reading.{is_digit, one_digit, with_tens, workers_of}

-- a choice, by each of its sides
pub if_cases : {A : Type 0} (b : Bool) (P : A → Type 0) (x y : A) → (b ≡ true → P x) → (b ≡ false → P y) → P (if b then x else y)
if_cases true P x y first second = first refl
if_cases false P x y first second = second refl

-- what is said of the number in a word, if it says one
abbrev pub IsSaid : List ℕ → Option ℕ → Type 0
IsSaid text None = Unit {0}
IsSaid text (Some n) = IsWorkers text n

abbrev IsOneDigit : ℕ → Option ℕ → Type 0
IsOneDigit byte None = Unit {0}
IsOneDigit byte (Some n) = IsDigit byte n × (1 ≤ n)

low : (least byte : ℕ) → is_digit least byte ≡ true → least ≤ byte
low least byte is = grind (arith, nat_tests)

high : (least byte : ℕ) → is_digit least byte ≡ true → byte ≤ 57
high least byte is = grind (arith, nat_tests)

one_digit-said : (byte : ℕ) → IsOneDigit byte (one_digit byte)
one_digit-said byte =
    if_cases (is_digit 49 byte) (IsOneDigit byte) (Some (byte - 48)) None
    (λ is. let least = low 49 byte is in let most = high 49 byte is in ((omega arith, omega arith), omega arith)) (λ other. tt)

with_tens-said : (first second : ℕ) (tens : Option ℕ) → IsOneDigit first tens → IsSaid (first ∷ second ∷ []) (with_tens tens second)
with_tens-said first second None said = tt
with_tens-said first second (Some tens) said =
    if_cases (is_digit 48 second && nat_le (tens * 10 + (second - 48)) 64) (IsSaid (first ∷ second ∷ [])) (Some (tens * 10 + (second - 48))) None
    (λ is.
    let parts = and_parts _ _ is in
    let least = low 48 second parts.0 in
    let most = high 48 second parts.0 in
    let few : tens * 10 + (second - 48) ≤ 64 = grind (arith, nat_tests) in
    two first tens second (second - 48) said.0 said.1 (omega arith, omega arith) few)
    (λ other. tt)

pub workers_of-said : (text : List ℕ) → IsSaid text (workers_of text)
workers_of-said [] = tt
workers_of-said (byte ∷ []) = said_alone byte (one_digit byte) (one_digit-said byte)
  where
    said_alone : (byte : ℕ) (found : Option ℕ) → IsOneDigit byte found → IsSaid (byte ∷ []) found
    said_alone byte None said = tt
    said_alone byte (Some n) said = one byte n said.0 said.1
workers_of-said (first ∷ second ∷ []) = with_tens-said first second (one_digit first) (one_digit-said first)
workers_of-said (first ∷ second ∷ third ∷ bytes) = tt

is_digit-digit : (least byte value : ℕ) → IsDigit byte value → least ≤ byte → is_digit least byte ≡ true
is_digit-digit least byte value is above = let most = is.0 in let same = is.1 in grind (arith, nat_tests)

one_digit-digit : (byte value : ℕ) → IsDigit byte value → 1 ≤ value → one_digit byte ≡ Some value
one_digit-digit byte value is some =
    let least : 49 ≤ byte = omega (arith, is.1, some) in
    let back : byte - 48 ≡ value = omega (arith, is.1) in
    rw (is_digit-digit 49 byte value is least) (ap Some back)

-- and a word that says one is read
pub IsWorkers-workers_of : (text : List ℕ) (n : ℕ) → IsWorkers text n → workers_of text ≡ Some n
IsWorkers-workers_of _ _ (one byte value is some) = one_digit-digit byte value is some
IsWorkers-workers_of _ _ (two first tens second ones is some other few) =
    let low : 48 ≤ second = omega (arith, other.1) in
    let back : second - 48 ≡ ones = omega (arith, other.1) in
    let same : tens * 10 + (second - 48) ≡ tens * 10 + ones = ap (λ k. tens * 10 + k) back in
    let small : nat_le (tens * 10 + (second - 48)) 64 ≡ true = grind (arith, nat_tests) in
    rw (one_digit-digit first tens is some) (rw (is_digit-digit 48 second ones other low, small) (ap Some same))
