-- Texts, and the bytes that rules name.
use Rattle.std.specs.Prelude.{ℕ, Bool, ◌==◌, ◌||◌, ◌&&◌, nat_eq, nat_le, List}
use Rattle.std.specs.Cmp.Lexicographic.{pointwise}

-- two texts have the same bytes
abbrev pub is_text : List ℕ → List ℕ → Bool
is_text = pointwise nat_eq

-- a space or a tab
abbrev pub is_blank : ℕ → Bool
is_blank byte = byte == 32 || byte == 9

-- a byte between words: a blank or a newline
abbrev pub is_white : ℕ → Bool
is_white byte = byte == 32 || byte == 9 || byte == 10

abbrev pub is_digit : ℕ → Bool
is_digit byte = nat_le 48 byte && nat_le byte 57

-- a letter of ASCII
abbrev pub is_letter : ℕ → Bool
is_letter byte = (nat_le 97 byte && nat_le byte 122) || (nat_le 65 byte && nat_le byte 90)
