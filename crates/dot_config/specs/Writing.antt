-- The text of a configuration's values.
use Rattle.std.specs.Prelude.{ℕ, ◌+◌, ◌≡◌, ◌≢◌, ◌⊎◌, Bool, true, not, ◌||◌, ◌==◌, List, [], ◌∷◌, ◌++◌, length, All, Option, Some, None, codes, if◌then◌else◌}
use Rattle.std.specs.List.{flat_map, filter_map}
use Rattle.std.specs.Option.{option_map}
use Rattle.kc_values.specs.Values.{is_y, Table}
use Rattle.kc_values.specs.declared.values.Valued.{Valued}
use Rattle.kc_values.specs.declared.kind.Kind.{Kind}
use Rattle.kc_values.specs.declared.kind.Kind.TheVariants.{Bool as BoolKind, Text as TextKind, Int as IntKind}
use Rattle.kc_menu.specs.Visible.{is_visible}
use Rattle.kc_menu.specs.declared.menu.KcEntry.{KcEntry}
use Rattle.kc_menu.specs.declared.wishes.Wish.{Wish}
use Rattle.kc_menu.specs.declared.wishes.WishValue.{WishValue}
use Rattle.kc_menu.specs.declared.wishes.WishValue.TheVariants.{No, Word, Quoted}
use Rattle.dot_config.specs.Line.{is_symbol, is_word, unset}

-- the wish by which a bool is written: y, or n where it is visible
abbrev pub bool_wish : Bool → List ℕ → Option WishValue
bool_wish visible text = if is_y text then Some (Word (codes "y")) else if visible then Some No else None

-- that of a string that is visible or not empty
abbrev pub string_wish : Bool → List ℕ → Option WishValue
string_wish visible text = if visible || not (length text == 0) then Some (Quoted text) else None

-- that of an int that isn't empty
abbrev pub int_wish : List ℕ → Option WishValue
int_wish text = if length text == 0 then None else Some (Word text)

abbrev pub wish_as : Kind → Bool → List ℕ → Option WishValue
wish_as BoolKind visible text = bool_wish visible text
wish_as TextKind visible text = string_wish visible text
wish_as IntKind visible text = int_wish text

-- the wish by which a value is written; other values have no line
abbrev pub wish_for : Bool → Valued → Option WishValue
wish_for visible valued = wish_as valued.kind visible valued.text

-- a backslash before each quote and backslash
abbrev pub escaped_byte : ℕ → List ℕ
escaped_byte byte = if (byte == 34) || (byte == 92) then 92 ∷ byte ∷ [] else byte ∷ []

unfoldable pub escaped : List ℕ → List ℕ
escaped text = flat_map escaped_byte text

-- the line of a wish
abbrev pub wish_text : List ℕ → WishValue → List ℕ
wish_text symbol No = unset symbol
wish_text symbol (Word word) = symbol ++ 61 ∷ word
wish_text symbol (Quoted text) = symbol ++ 61 ∷ 34 ∷ (escaped text ++ 34 ∷ [])

abbrev pub line_of : List ℕ → Option WishValue → List ℕ
line_of symbol None = []
line_of symbol (Some value) = wish_text symbol value ++ 10 ∷ []

-- the wishes that are written, in the order of the values
unfoldable pub written : List KcEntry → Table → List (List ℕ × WishValue)
written entries values =
    filter_map (λ v. option_map (λ value. (v.0, value)) (wish_for (is_visible entries v.0 values) v.1)) values

-- the text of the values: a line for each wish that is written
unfoldable pub config_text : List KcEntry → Table → List ℕ
config_text entries values = flat_map (λ w. wish_text w.0 w.1 ++ 10 ∷ []) (written entries values)

-- wishes on lines of their own, of which the first has this number
abbrev pub numbered : ℕ → List (List ℕ × WishValue) → List Wish
numbered number [] = []
numbered number (w ∷ more) = record { symbol = w.0; value = w.1; line = number } ∷ numbered (number + 1) more

-- a text that can stand on a line of its kind: that of a string has no newline, that of an int is a bare word or empty
abbrev pub IsOnLine : Kind → List ℕ → Type 0
IsOnLine BoolKind text = Unit {0}
IsOnLine TextKind text = All (λ byte. byte ≢ 10) text
IsOnLine IntKind text = (text ≡ []) ⊎ (is_word text ≡ true)

-- the values whose text can be read again
abbrev pub AreReadable : Table → Type 0
AreReadable values = All (λ v. (is_symbol v.0 ≡ true) × IsOnLine v.1.kind v.1.text) values
