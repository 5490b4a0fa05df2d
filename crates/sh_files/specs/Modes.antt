-- Modes as words of a command.
use Rattle.std.specs.Prelude.{ℕ, ◌≤◌, ◌+◌, ◌-◌, ◌*◌, Bool, ◌&&◌, ◌||◌, ◌==◌, not, nat_le, List, [], ◌∷◌, length, take, drop, Option, Some, None, if◌then◌else◌, bit_and, bit_or, bit_xor}
use Rattle.std.specs.List.{list_all}
use Rattle.std.specs.Option.{option_or}
use Rattle.tree_ops.specs.Walk.{is_filled}
use Rattle.tree_worlds.specs.Operand.{up_to}
use Rattle.sh_files.specs.declared.mode.ModeChange.{ModeChange}
use Rattle.sh_files.specs.declared.mode.ModeChange.TheVariants.{To, Plus, Minus}

-- 1. One to four octal digits: `755`, `0644`, `4755`.

abbrev pub is_octal_digit : ℕ → Bool
is_octal_digit byte = nat_le 48 byte && nat_le byte 55

abbrev pub is_octal : List ℕ → Bool
is_octal word = nat_le 1 (length word) && nat_le (length word) 4 && list_all is_octal_digit word

-- the number that octal digits write, after those that were read
abbrev pub octal_from : ℕ → List ℕ → ℕ
octal_from value [] = value
octal_from value (digit ∷ digits) = octal_from (value * 8 + (digit - 48)) digits

abbrev pub octal_mode : List ℕ → Option ℕ
octal_mode word = if is_octal word then Some (octal_from 0 word) else None

-- 2. A clause: whom, as letters among `ugoa`, perhaps none; `+` or `-`; and what, as one or more letters among `rwx`.

-- u, g, o, a
abbrev pub is_whom : ℕ → Bool
is_whom byte = byte == 117 || byte == 103 || byte == 111 || byte == 97

-- 0700, 0070, 0007, 0777
abbrev pub whom_bits : ℕ → ℕ
whom_bits byte = if byte == 117 then 448 else if byte == 103 then 56 else if byte == 111 then 7 else 511

-- r, w, x
abbrev pub is_what : ℕ → Bool
is_what byte = byte == 114 || byte == 119 || byte == 120

-- 0444, 0222, 0111
abbrev pub what_bits : ℕ → ℕ
what_bits byte = if byte == 114 then 292 else if byte == 119 then 146 else 73

-- the bits of letters, with those that were read
abbrev pub bits_from : (ℕ → ℕ) → ℕ → List ℕ → ℕ
bits_from bits_of bits [] = bits
bits_from bits_of bits (letter ∷ letters) = bits_from bits_of (bit_or bits (bits_of letter)) letters

-- nobody named means all, without the bits 0022
abbrev pub bits_of_whom : List ℕ → ℕ
bits_of_whom letters = if is_filled letters then bits_from whom_bits 0 letters else 493

abbrev pub signed : ℕ → ℕ → Option ModeChange
signed sign bits = if sign == 43 then Some (Plus bits) else if sign == 45 then Some (Minus bits) else None

abbrev pub granted : List ℕ → List ℕ → Option ModeChange
granted whom [] = None
granted whom (sign ∷ letters) =
    if is_filled letters && list_all is_what letters then signed sign (bit_and (bits_of_whom whom) (bits_from what_bits 0 letters)) else None

abbrev pub clause : List ℕ → Option ModeChange
clause word = let whom = up_to (λ byte. not (is_whom byte)) word in granted (take whom word) (drop whom word)

-- 3. What chmod makes of a mode.

abbrev pub set_to : Option ℕ → Option ModeChange
set_to None = None
set_to (Some mode) = Some (To mode)

abbrev pub mode_change : List ℕ → Option ModeChange
mode_change word = option_or (set_to (octal_mode word)) (clause word)

abbrev pub changed_mode : ModeChange → ℕ → ℕ
changed_mode (To mode) old = mode
changed_mode (Plus bits) old = bit_or old bits
changed_mode (Minus bits) old = bit_and old (bit_xor 4095 bits)

-- 4. The mode of an option `m`, else another.

-- the mode that a word gives
abbrev pub mode_or : Option (List ℕ) → ℕ → Option ℕ
mode_or None mode = Some mode
mode_or (Some word) mode = octal_mode word

-- its bits are among 07777
abbrev pub IsModest : ModeChange → Type 0
IsModest (To mode) = mode ≤ 4095
IsModest (Plus bits) = bits ≤ 4095
IsModest (Minus bits) = bits ≤ 4095
