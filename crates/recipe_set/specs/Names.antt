-- Names of packages, and what the names of their variables begin with.
use Rattle.std.specs.Prelude.{ℕ, ◌-◌, ◌==◌, ◌&&◌, ◌||◌, not, nat_eq, nat_le, Bool, false, List, [], ◌∷◌, map, codes, if◌then◌else◌}
use Rattle.std.specs.List.{list_all, list_any, starts_with}
use Rattle.br_path.specs.Text.{is_text}

-- a lower-case letter
abbrev pub is_letter : ℕ → Bool
is_letter byte = nat_le 97 byte && nat_le byte 122

-- a byte that a name may begin with: a lower-case letter or a digit
abbrev pub is_first_byte : ℕ → Bool
is_first_byte byte = is_letter byte || (nat_le 48 byte && nat_le byte 57)

-- a byte of a name: such a one, `-`, `_` or `.`
abbrev pub is_package_byte : ℕ → Bool
is_package_byte byte = is_first_byte byte || byte == 45 || byte == 95 || byte == 46

-- the first byte of a name is one that a name may begin with
abbrev pub begins_well : List ℕ → Bool
begins_well [] = false
begins_well (byte ∷ name) = is_first_byte byte

-- a name that stands for something else
abbrev pub is_reserved : List ℕ → Bool
is_reserved name =
    starts_with nat_eq name (codes "host-") || is_text name (codes "host") || is_text name (codes "target") || is_text name (codes "staging") || is_text name (codes "build")

-- a name of a package: of such bytes, begun by a letter or a digit, that stands for nothing else
abbrev pub is_package_name : List ℕ → Bool
is_package_name name = begins_well name && list_all is_package_byte name && not (is_reserved name)

-- a byte of a variable's name: a letter in upper case, `_` for `-` and `.`
abbrev pub upper_byte : ℕ → ℕ
upper_byte byte = if is_letter byte then byte - 32 else if byte == 45 || byte == 46 then 95 else byte

-- what the variables of a package begin with
abbrev pub upper_form : List ℕ → List ℕ
upper_form name = map upper_byte name

-- a folder's name that a recipe may have after earlier ones: a package's name, with an upper-case form of its own
abbrev pub is_allowed : List (List ℕ) → List ℕ → Bool
is_allowed earlier name = is_package_name name && not (list_any (λ other. is_text (upper_form other) (upper_form name)) earlier)
