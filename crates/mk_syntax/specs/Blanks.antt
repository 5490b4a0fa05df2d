-- Blanks and words.
use Rattle.std.specs.Prelude.{ℕ, ◌==◌, ◌||◌, Bool, List, [], ◌∷◌, if◌then◌else◌, length, take, drop, reverse, bytes_eq, Option, Some, None}
use Rattle.std.specs.List.{position_or_len}

-- a blank is a space or a tab
abbrev pub is_blank : ℕ → Bool
is_blank b = b == 32 || b == 9

-- a text without the blanks that it begins with
abbrev pub skip_blanks : List ℕ → List ℕ
skip_blanks [] = []
skip_blanks (b ∷ bs) = if is_blank b then skip_blanks bs else (b ∷ bs)

-- a text without the blanks at its end
abbrev pub trim_end : List ℕ → List ℕ
trim_end text = reverse (skip_blanks (reverse text))

-- the first word of a text: its bytes up to a blank
abbrev pub first_word : List ℕ → List ℕ
first_word text = take (position_or_len is_blank text) text

-- what stands after the first word, without the blanks between
abbrev pub behind_word : List ℕ → List ℕ
behind_word text = skip_blanks (drop (position_or_len is_blank text) text)

-- what stands after a front, where the text begins with it
abbrev pub behind : List ℕ → List ℕ → Option (List ℕ)
behind front text = if bytes_eq (take (length front) text) front then Some (drop (length front) text) else None
