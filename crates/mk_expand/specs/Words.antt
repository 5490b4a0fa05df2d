-- Words, the blanks between them, and words in a row.
use Rattle.std.specs.Prelude.{ℕ, Bool, ◌||◌, ◌==◌, nat_eq, not, List, [], ◌∷◌, ◌++◌, length, filter, if◌then◌else◌}
use Rattle.std.specs.List.{slice_split}
use Rattle.std.specs.Cmp.Lexicographic.{pointwise}

-- a space or a tab
abbrev pub is_blank : ℕ → Bool
is_blank b = b == 32 || b == 9

-- a byte between words: a blank or a newline
abbrev pub is_white : ℕ → Bool
is_white b = b == 32 || b == 9 || b == 10

-- the text has a byte
abbrev pub is_filled : List ℕ → Bool
is_filled text = not (length text == 0)

-- the words of a text: what stands between white bytes and has a byte
abbrev pub words : List ℕ → List (List ℕ)
words text = filter is_filled (slice_split is_white text)

-- the text without the bytes at its start that pass the test
abbrev pub without_front : (ℕ → Bool) → List ℕ → List ℕ
without_front test [] = []
without_front test (b ∷ text) = if test b then without_front test text else b ∷ text

-- a byte and a text after it, from which the bytes at its end are gone; the byte goes too where it passes the test and ends the whole
abbrev pub onto_back : (ℕ → Bool) → ℕ → List ℕ → List ℕ
onto_back test b [] = if test b then [] else b ∷ []
onto_back test b (c ∷ text) = b ∷ c ∷ text

-- the text without the bytes at its end that pass the test
abbrev pub without_back : (ℕ → Bool) → List ℕ → List ℕ
without_back test [] = []
without_back test (b ∷ text) = onto_back test b (without_back test text)

-- the text without white bytes at both ends
abbrev pub trimmed : List ℕ → List ℕ
trimmed text = without_back is_white (without_front is_white text)

-- words in a row, a gap before the first and a space before each other
abbrev pub row_behind : List ℕ → List (List ℕ) → List ℕ
row_behind gap [] = []
row_behind gap (word ∷ words) = gap ++ (word ++ row_behind (32 ∷ []) words)

-- words in a row with a space between two
abbrev pub row : List (List ℕ) → List ℕ
row words = row_behind [] words
