-- What a byte can be part of.
use Rattle.std.specs.Prelude.{ℕ, Bool, ◌||◌, ◌&&◌, ◌==◌, nat_le}

-- a space or a tab
abbrev pub blank : ℕ → Bool
blank byte = (byte == 32) || (byte == 9)

abbrev pub letter : ℕ → Bool
letter byte = (nat_le 97 byte && nat_le byte 122) || (nat_le 65 byte && nat_le byte 90)

-- what the name of a symbol has: letters, digits and `_`
unfoldable pub of_symbol : ℕ → Bool
of_symbol byte = letter byte || (nat_le 48 byte && nat_le byte 57) || (byte == 95)

-- what a bare word has: letters, digits, `_`, `-` and `.`
unfoldable pub of_word : ℕ → Bool
of_word byte = of_symbol byte || (byte == 45) || (byte == 46)
