-- Digits: modes, numbers and bytes are what their digits write, and no other digits write them.
use Rattle.std.proofs.Common.{◌≡◌, ℕ, zero, suc, ◌+◌, ◌-◌, ◌*◌, ◌/◌, ◌%◌, ◌<◌, ◌≤◌, ◌^◌, ◌==◌, ◌&&◌, not, Bool, true, false, true≢false, inl, inr, cond, List, [], ◌∷◌, length, get_or, slice_index, Option, Some, None, unwrap_or, refl, sym, ap, subst, ◌∙◌, arith, rules, tests, eq-eqb, ne_eqb}
use Rattle.std.specs.Prelude.{All}
use Rattle.std.specs.Option.{option_map, option_and_then}
use Rattle.std.specs.List.{list_all}
use Rattle.std.specs.Fmt.{decimal}
use Rattle.std.proofs.lemmas.Bool.{and_parts, eqb-true, cases_lt}
use Rattle.std.proofs.lemmas.Fmt.{decimal-digits_value, digits_decimal, digits_value-decimal, first_decimal, decimal_nonempty, decimal_digit}
use Rattle.std.proofs.lemmas.Str.Parse.{IsNumeralModel, numerals_by_fold}
use Rattle.std.proofs.lemmas.List.Elements.{All-cons, All-nil, All-head, All-tail}
use Rattle.hex.specs.Hex.{encode_lower, encode_with, lower_digits}
use Rattle.br_path.specs.Mode.{octal}
use Rattle.br_path.specs.Text.{is_digit}
use Rattle.root_image.specs.Words.{is_octal, mode_of, number_on, is_number, number_of, digit_of, byte_of, bytes_of}

-- a test that lets a value through held, and this is the value
pub passed : {A : Type 0} (b : Bool) (x y : A) → cond b (Some x) None ≡ Some y → (b ≡ true) × (x ≡ y)
passed true x y is = (refl, cc)
passed false x y is = cc

pub map_some : {A B : Type 0} (f : A → B) (o : Option A) (y : B) → option_map f o ≡ Some y → (x : A) × (o ≡ Some x) × (f x ≡ y)
map_some f None y is = cc
map_some f (Some x) y is = (x, refl, cc)

pub then_some : {A B : Type 0} (f : A → Option B) (o : Option A) (y : B) → option_and_then f o ≡ Some y → (x : A) × (o ≡ Some x) × (f x ≡ Some y)
then_some f None y is = cc
then_some f (Some x) y is = (x, refl, is)

octal-fact : (byte : ℕ) → is_octal byte ≡ true → (48 ≤ byte) × (byte ≤ 55)
octal-fact byte is = grind arith

octal-test : (byte : ℕ) → 48 ≤ byte → byte ≤ 55 → is_octal byte ≡ true
octal-test byte low high = grind arith

pub mode_of-octal : (mode : ℕ) → mode < 4096 → mode_of (octal mode) ≡ Some mode
mode_of-octal mode small =
    let a = octal-test (48 + mode / 512 % 8) (omega arith) (omega arith) in
    let b = octal-test (48 + mode / 64 % 8) (omega arith) (omega arith) in
    let c = octal-test (48 + mode / 8 % 8) (omega arith) (omega arith) in
    let d = octal-test (48 + mode % 8) (omega arith) (omega arith) in
    let value : (48 + mode / 512 % 8 - 48) * 512 + (48 + mode / 64 % 8 - 48) * 64 + (48 + mode / 8 % 8 - 48) * 8 + (48 + mode % 8 - 48) ≡ mode = omega arith in
    rw (a, b, c, d) (ap Some value)

pub octal-mode_of : (text : List ℕ) (mode : ℕ) → mode_of text ≡ Some mode → (mode < 4096) × (text ≡ octal mode)
octal-mode_of [] mode is = cc
octal-mode_of (a ∷ []) mode is = cc
octal-mode_of (a ∷ b ∷ []) mode is = cc
octal-mode_of (a ∷ b ∷ c ∷ []) mode is = cc
octal-mode_of (a ∷ b ∷ c ∷ d ∷ []) mode is =
    let passes = passed (is_octal a && is_octal b && is_octal c && is_octal d) _ mode is in
    let three = and_parts (is_octal a && is_octal b && is_octal c) (is_octal d) passes.0 in
    let two = and_parts (is_octal a && is_octal b) (is_octal c) three.0 in
    let one = and_parts (is_octal a) (is_octal b) two.0 in
    let at_a = octal-fact a one.0 in
    let at_b = octal-fact b one.1 in
    let at_c = octal-fact c two.1 in
    let at_d = octal-fact d three.1 in
    let value = passes.1 in
    let is_a : a ≡ 48 + mode / 512 % 8 = omega arith in
    let is_b : b ≡ 48 + mode / 64 % 8 = omega arith in
    let is_c : c ≡ 48 + mode / 8 % 8 = omega arith in
    let is_d : d ≡ 48 + mode % 8 = omega arith in
    (omega arith, λ i. is_a i ∷ is_b i ∷ is_c i ∷ is_d i ∷ [])
octal-mode_of (a ∷ b ∷ c ∷ d ∷ e ∷ text) mode is = cc

own : IsNumeralModel (λ ds. list_all is_digit ds ≡ true) (number_on 0)
own = numerals_by_fold _ (search rules) number_on (search rules)

-- digits whose number is read are decimal digits without a leading zero
number-parts : (digits : List ℕ) → is_number digits ≡ true → (list_all is_digit digits ≡ true) × (0 < length digits) × (get_or digits 0 0 ≡ 48 → length digits ≡ 1)
number-parts [] is = cc
number-parts (digit ∷ []) is = (search (rules, tests), omega arith, λ zero. refl)
number-parts (digit ∷ next ∷ digits) is =
    let two = and_parts (is_digit digit && not (digit == 48)) (list_all is_digit (next ∷ digits)) is in
    let one = and_parts (is_digit digit) (not (digit == 48)) two.0 in
    (rw (one.0, two.1) refl, omega arith, λ zero. absurd (true≢false (sym one.1 ∙ ap not (eq-eqb digit 48 zero))))

parts-number : (digits : List ℕ) → list_all is_digit digits ≡ true → 0 < length digits → (get_or digits 0 0 ≡ 48 → length digits ≡ 1) → is_number digits ≡ true
parts-number [] all some lead = absurd (omega arith)
parts-number (digit ∷ []) all some lead = (and_parts (is_digit digit) true all).0
parts-number (digit ∷ next ∷ digits) all some lead =
    let parts = and_parts (is_digit digit) (list_all is_digit (next ∷ digits)) all in
    let other : (digit == 48) ≡ false = ne_eqb digit 48 (λ zero. let one = lead zero in absurd (omega arith)) in
    rw (parts.0, other, parts.1) refl

pub number_of-decimal : (n : ℕ) → n < 2 ^ 64 → number_of (decimal n) ≡ Some n
number_of-decimal n small =
    let all : list_all is_digit (decimal n) ≡ true = digits_decimal own n small in
    let number = parts-number (decimal n) all (decimal_nonempty n small) (leads n small) in
    rw number (ap Some (digits_value-decimal own n small))
  where
    leads : (n : ℕ) → n < 2 ^ 64 → get_or (decimal n) 0 0 ≡ 48 → length (decimal n) ≡ 1
    leads zero small is = ap length (decimal_digit 0 (omega arith))
    leads (suc n) small is = let above = first_decimal (suc n) (omega arith) small in absurd (omega arith)

pub decimal-number_of : (digits : List ℕ) (n : ℕ) → n < 2 ^ 64 → number_of digits ≡ Some n → digits ≡ decimal n
decimal-number_of digits n small is =
    let passes = passed (is_number digits) (number_on 0 digits) n is in
    let parts = number-parts digits passes.0 in
    sym (decimal-digits_value own digits parts.0 parts.1 parts.2 (rw passes.1 small)) ∙ ap decimal passes.1

pub is_number-decimal : (n : ℕ) → n < 2 ^ 64 → is_number (decimal n) ≡ true
is_number-decimal n small = (passed (is_number (decimal n)) (number_on 0 (decimal n)) n (number_of-decimal n small)).0

pub digits_within : (digits : List ℕ) → is_number digits ≡ true → All (λ byte. (48 ≤ byte) × (byte ≤ 57)) digits
digits_within digits is = by digits (number-parts digits is).0
  where
    fact : (byte : ℕ) → is_digit byte ≡ true → (48 ≤ byte) × (byte ≤ 57)
    fact byte is = grind arith

    by : (digits : List ℕ) → list_all is_digit digits ≡ true → All (λ byte. (48 ≤ byte) × (byte ≤ 57)) digits
    by [] all = All-nil (λ byte. (48 ≤ byte) × (byte ≤ 57))
    by (digit ∷ digits) all =
        let parts = and_parts (is_digit digit) (list_all is_digit digits) all in
        All-cons (λ byte. (48 ≤ byte) × (byte ≤ 57)) digit digits (fact digit parts.0) (by digits parts.1)

-- the digit at each place of the table reads as that place
abbrev reads_back : ℕ → Bool
reads_back d = unwrap_or (digit_of (slice_index lower_digits d)) 99 == d

abbrev all_read_back : ℕ → Bool
all_read_back zero = true
all_read_back (suc n) = reads_back n && all_read_back n

read_back-at : (n k : ℕ) → all_read_back n ≡ true → k < n → reads_back k ≡ true
read_back-at zero k h lt = absurd (omega arith)
read_back-at (suc n) k h lt =
    let parts = and_parts (reads_back n) (all_read_back n) h in
    elim (cases_lt k n) [
      | inl below ↦ read_back-at n k parts.1 below
      | inr top ↦ let e : k ≡ n = omega arith in rw e parts.0
    ]

some_from_unwrap : (o : Option ℕ) (d : ℕ) → d < 16 → unwrap_or o 99 ≡ d → o ≡ Some d
some_from_unwrap (Some v) d lt e = ap Some e
some_from_unwrap None d lt e = absurd (omega arith)

pub digit_of-lower : (d : ℕ) → d < 16 → digit_of (slice_index lower_digits d) ≡ Some d
digit_of-lower d lt = some_from_unwrap (digit_of (slice_index lower_digits d)) d lt (eqb-true _ d (read_back-at 16 d refl lt))

pub digit_of-below : (byte d : ℕ) → digit_of byte ≡ Some d → d < 16
digit_of-below byte d is = grind arith

-- two digits of one value are one
digit_of-same : (a b d : ℕ) → digit_of a ≡ Some d → digit_of b ≡ Some d → a ≡ b
digit_of-same a b d is other = grind arith

pub lower-digit_of : (byte d : ℕ) → digit_of byte ≡ Some d → byte ≡ slice_index lower_digits d
lower-digit_of byte d is = digit_of-same byte (slice_index lower_digits d) d is (digit_of-lower d (digit_of-below byte d is))

pub bytes_of-encode : (bytes : List ℕ) → All (λ byte. byte < 256) bytes → bytes_of (encode_lower bytes) ≡ Some bytes
unfolding encode_with
bytes_of-encode [] small = refl
bytes_of-encode (byte ∷ bytes) small =
    let fits : byte < 256 = All-head (λ byte. byte < 256) byte bytes small in
    let high = digit_of-lower (byte / 16) (omega arith) in
    let low = digit_of-lower (byte % 16) (omega arith) in
    let rest = bytes_of-encode bytes (All-tail (λ byte. byte < 256) byte bytes small) in
    let whole : byte / 16 * 16 + byte % 16 ≡ byte = omega arith in
    rw (high, low, rest) (ap (λ b. Some (b ∷ bytes)) whole)

pub encode-bytes_of : (digits bytes : List ℕ) → bytes_of digits ≡ Some bytes → All (λ byte. byte < 256) bytes × (digits ≡ encode_lower bytes)
unfolding encode_with
encode-bytes_of [] bytes is = let none : [] ≡ bytes = cc in subst (λ b. All (λ byte. byte < 256) b × ([] ≡ encode_lower b)) none (All-nil (λ byte. byte < 256), refl)
encode-bytes_of (high ∷ []) bytes is = cc
encode-bytes_of (high ∷ low ∷ digits) bytes is =
    let one = then_some (λ byte. option_map (λ bytes. byte ∷ bytes) (bytes_of digits)) (byte_of high low) bytes is in
    let rest = map_some (λ bytes. one.0 ∷ bytes) (bytes_of digits) bytes one.2 in
    let at_high = then_some (λ h. option_map (λ l. h * 16 + l) (digit_of low)) (digit_of high) one.0 one.1 in
    let at_low = map_some (λ l. at_high.0 * 16 + l) (digit_of low) one.0 at_high.2 in
    let back = encode-bytes_of digits rest.0 rest.1 in
    let small_high = digit_of-below high at_high.0 at_high.1 in
    let small_low = digit_of-below low at_low.0 at_low.1 in
    let value = at_low.2 in
    let is_high : one.0 / 16 ≡ at_high.0 = omega arith in
    let is_low : one.0 % 16 ≡ at_low.0 = omega arith in
    let front : high ≡ slice_index lower_digits (one.0 / 16) = lower-digit_of high at_high.0 at_high.1 ∙ ap (slice_index lower_digits) (sym is_high) in
    let behind : low ≡ slice_index lower_digits (one.0 % 16) = lower-digit_of low at_low.0 at_low.1 ∙ ap (slice_index lower_digits) (sym is_low) in
    subst (λ b. All (λ byte. byte < 256) b × (high ∷ low ∷ digits ≡ encode_lower b)) rest.2
    (All-cons (λ byte. byte < 256) one.0 rest.0 (omega arith) back.0, λ i. front i ∷ behind i ∷ back.1 i)
