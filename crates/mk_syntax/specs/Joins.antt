-- What joining does to the parts of a text between newlines.
use Rattle.std.specs.Prelude.{◌≡◌, ℕ, ◌+◌, true, false, List, [], ◌∷◌, ◌++◌, length, map, All}
use Rattle.mk_syntax.specs.declared.lines.Line.{Line}
use Rattle.mk_syntax.specs.Blanks.{is_blank}
use Rattle.mk_syntax.specs.Lines.{is_joined, joined_parts}

-- the bytes of lines
abbrev pub texts : List Line → List (List ℕ)
texts lines = map (λ line. line.bytes) lines

-- blanks alone
abbrev pub AreBlanks : List ℕ → Type 0
AreBlanks text = All (λ b. is_blank b ≡ true) text

-- a text that doesn't begin with a blank
abbrev pub BeginsPlain : List ℕ → Type 0
BeginsPlain text = (b : ℕ) (back : List ℕ) → text ≡ b ∷ back → is_blank b ≡ false

-- a text that doesn't end in a blank
abbrev pub EndsPlain : List ℕ → Type 0
EndsPlain text = (front : List ℕ) (b : ℕ) → text ≡ front ++ b ∷ [] → is_blank b ≡ false

-- a line, so many lines later
abbrev pub later : ℕ → Line → Line
later count line = record { number = line.number + count; bytes = line.bytes }

-- parts are the lines where none ends in a backslash
abbrev pub StayApart : List (List ℕ) → Type 0
StayApart parts = All (λ part. is_joined part ≡ false) parts → texts (joined_parts parts) ≡ parts

-- a backslash at the end of a part, with the blanks before it and those that begin the next part, becomes one space
abbrev pub BecomesOneSpace : List (List ℕ) → List ℕ → List ℕ → List ℕ → List ℕ → List (List ℕ) → Type 0
BecomesOneSpace front line before after next back =
    EndsPlain line → AreBlanks before → AreBlanks after → BeginsPlain next
    → texts (joined_parts (front ++ (line ++ before ++ 92 ∷ []) ∷ (after ++ next) ∷ back)) ≡ texts (joined_parts (front ++ (line ++ 32 ∷ next) ∷ back))

-- after a part that isn't joined with the next, lines are those of what follows, counted on
abbrev pub CountOn : List (List ℕ) → List ℕ → List (List ℕ) → Type 0
CountOn front part back =
    is_joined part ≡ false → joined_parts (front ++ part ∷ back) ≡ joined_parts (front ++ part ∷ []) ++ map (later (length front + 1)) (joined_parts back)
