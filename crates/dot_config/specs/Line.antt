-- The forms of a line, each a relation between the line and what it says.
use Rattle.std.specs.Prelude.{ℕ, ◌≡◌, ◌≢◌, ◌⊎◌, Bool, true, not, ◌&&◌, ◌==◌, nat_le, List, [], ◌∷◌, ◌++◌, length, codes}
use Rattle.std.specs.List.{list_all}
use Rattle.kc_text.specs.Bytes as byte_is
use Rattle.kc_menu.specs.declared.wishes.WishValue.TheVariants.{No, Word, Quoted}
use Rattle.dot_config.specs.declared.line.Said.{Said}
use Rattle.dot_config.specs.declared.line.Said.TheVariants.{Nothing, Asks}

-- the name of a symbol: one or more letters, digits and `_`
abbrev pub is_symbol : List ℕ → Bool
is_symbol symbol = not (length symbol == 0) && list_all byte_is.of_symbol symbol

-- what a bare word has: the printable bytes but the space and `"`
abbrev pub of_word : ℕ → Bool
of_word byte = nat_le 33 byte && nat_le byte 126 && not (byte == 34)

abbrev pub is_word : List ℕ → Bool
is_word word = not (length word == 0) && list_all of_word word

-- what stands between two quotes, and the text that it stands for: a backslash takes the next byte as it is
pub data IsQuoted : List ℕ → List ℕ → Type 0 where
  nothing : IsQuoted [] []
  plain : (byte : ℕ) (inner text : List ℕ) → byte ≢ 34 → byte ≢ 92 → IsQuoted inner text → IsQuoted (byte ∷ inner) (byte ∷ text)
  escaped : (byte : ℕ) (inner text : List ℕ) → IsQuoted inner text → IsQuoted (92 ∷ byte ∷ inner) (byte ∷ text)

-- blanks alone
abbrev pub is_blank : List ℕ → Bool
is_blank line = list_all byte_is.blank line

-- `# S is not set`
abbrev pub unset : List ℕ → List ℕ
unset symbol = codes "# " ++ (symbol ++ codes " is not set")

abbrev pub IsUnset : List ℕ → List ℕ → Type 0
IsUnset line symbol = (is_symbol symbol ≡ true) × (line ≡ unset symbol)

-- any other line that begins with `#`
abbrev pub IsComment : List ℕ → Type 0
IsComment line = ((rest : List ℕ) × (line ≡ 35 ∷ rest)) × ((symbol : List ℕ) → IsUnset line symbol → ⊥)

-- `S=word`
abbrev pub IsWordLine : List ℕ → List ℕ → List ℕ → Type 0
IsWordLine line symbol word = (is_symbol symbol ≡ true) × (is_word word ≡ true) × (line ≡ symbol ++ 61 ∷ word)

-- `S="text"`
abbrev pub IsQuotedLine : List ℕ → List ℕ → List ℕ → Type 0
IsQuotedLine line symbol text =
    (is_symbol symbol ≡ true) × ((inner : List ℕ) × IsQuoted inner text × (line ≡ symbol ++ 61 ∷ 34 ∷ (inner ++ 34 ∷ [])))

-- the line has a form, and says this by it
abbrev pub IsLine : List ℕ → Said → Type 0
IsLine line Nothing = (is_blank line ≡ true) ⊎ IsComment line
IsLine line (Asks symbol No) = IsUnset line symbol
IsLine line (Asks symbol (Word word)) = IsWordLine line symbol word
IsLine line (Asks symbol (Quoted text)) = IsQuotedLine line symbol text

abbrev pub HasForm : List ℕ → Type 0
HasForm line = (said : Said) × IsLine line said
