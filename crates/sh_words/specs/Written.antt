-- Lines that are written so that they are read back.
use Rattle.std.specs.Prelude.{ℕ, Bool, true, false, ◌||◌, ◌&&◌, ◌==◌, List, [], ◌∷◌, ◌++◌, filter, flat_map, Option, Some, None, codes, if◌then◌else◌}
use Rattle.std.specs.List.{list_all, slice_split}
use Rattle.br_path.specs.Path.{Names}
use Rattle.br_path.specs.Text.{is_blank}
use Rattle.sh_words.specs.declared.line.Line.{Line}
use Rattle.sh_words.specs.declared.line.Redirect.{Redirect}
use Rattle.sh_words.specs.Bytes.{are_blanks}
use Rattle.sh_words.specs.Grammar.{is_plain, may_begin}

-- a word between two `'`, with `'\''` for each `'` in it
abbrev pub quoted_byte : ℕ → List ℕ
quoted_byte byte = if byte == 39 then codes "'\\''" else byte ∷ []

abbrev pub quoted : List ℕ → List ℕ
quoted word = 39 ∷ (flat_map quoted_byte word ++ 39 ∷ [])

-- an operator with its target, or nothing
abbrev pub written_target : Option Redirect → List ℕ
written_target None = []
written_target (Some into) = (if into.append then codes ">>" else codes ">") ++ quoted into.word

-- a line, with a gap after each word
abbrev pub written : List ℕ → Line → List ℕ
written gap line = flat_map (λ word. quoted word ++ gap) line.words ++ written_target line.into

-- a gap: blanks, and one at least
abbrev pub is_gap : List ℕ → Bool
is_gap [] = false
is_gap (byte ∷ text) = are_blanks (byte ∷ text)

-- blanks and bytes that stand for themselves wherever they are
abbrev pub is_plain_text : List ℕ → Bool
is_plain_text text = list_all (λ byte. is_blank byte || (is_plain byte && may_begin (byte ∷ []))) text

abbrev pub is_filled : List ℕ → Bool
is_filled [] = false
is_filled (byte ∷ text) = true

-- the parts of a text between its blanks
abbrev pub between_blanks : List ℕ → Names
between_blanks text = filter is_filled (slice_split is_blank text)
