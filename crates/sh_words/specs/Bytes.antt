-- What bytes mean to a line: `"` is 34, `#` 35, `'` 39, `>` 62, a backslash 92 and `~` 126.
use Rattle.std.specs.Prelude.{ℕ, Bool, true, false, ◌||◌, ◌==◌, List, [], ◌∷◌, codes, if◌then◌else◌}
use Rattle.std.specs.List.{list_any, list_all}
use Rattle.br_path.specs.Text.{is_blank}

-- the bytes that have a meaning for a shell, and none here
abbrev pub is_unsupported : ℕ → Bool
is_unsupported byte = list_any (λ other. byte == other) (codes "$`|&;<()*?[")

-- the bytes that a backslash takes in `"`
abbrev pub is_taken : ℕ → Bool
is_taken byte = list_any (λ other. byte == other) (codes "\"\\$`")

-- what a backslash in `"` and the byte after it stand for: the byte where it is taken, else both
abbrev pub behind_backslash : ℕ → List ℕ
behind_backslash byte = if is_taken byte then byte ∷ [] else 92 ∷ byte ∷ []

-- the bytes that stand in `"` after a backslash alone
abbrev pub is_bare : ℕ → Bool
is_bare byte = list_any (λ other. byte == other) (codes "$`")

abbrev pub are_blanks : List ℕ → Bool
are_blanks text = list_all is_blank text

abbrev pub begins_operator : List ℕ → Bool
begins_operator [] = false
begins_operator (byte ∷ text) = byte == 62

-- a word ends at a blank, at an operator, and where nothing is left
abbrev pub ends_word : List ℕ → Bool
ends_word [] = true
ends_word (byte ∷ text) = is_blank byte || byte == 62

-- a line is over where nothing is left, and at a `#` that begins a word
abbrev pub is_over : List ℕ → Bool
is_over [] = true
is_over (byte ∷ text) = byte == 35
