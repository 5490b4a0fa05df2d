-- A line has no more words than bytes.
use Rattle.std.proofs.Common.{ℕ, zero, suc, ◌+◌, ◌≡◌, ◌≤◌, ◌==◌, Bool, true, false, cond, List, [], ◌∷◌, length, Result, Ok, Err, subst, arith}
use Rattle.std.specs.Prelude.{is_some}
use Rattle.std.proofs.lemmas.List.{length-append}
use Rattle.br_path.specs.Gives.{◌>>=◌}
use Rattle.br_path.specs.Text.{is_blank}
use Rattle.sh_words.specs.declared.fault.WordFault.{WordFault}
use Rattle.sh_words.specs.declared.line.Line.{Line}
use Rattle.sh_words.specs.Left.{Left, left, Reading, at_most, repeated, behind_blanks}
use Rattle.sh_words.specs.Bytes.{is_over}
use Rattle.sh_words.specs.Words.{word_of}
use Rattle.sh_words.specs.Lines.{line_of, item, item_in, redirect, second, with_word, with_target, no_words}

-- a line that is read has at most one word more
abbrev IsShort : Line → Reading Line → Type 0
IsShort line (Ok next) = length next.0.words ≤ length line.words + 1
IsShort line (Err fault) = Unit {0}

word-short : (line : Line) (reading : Reading (List ℕ)) → IsShort line (reading >>= λ next. Ok (with_word line next.0, next.1))
word-short line (Err fault) = tt
word-short line (Ok next) = let all = length-append line.words (next.0 ∷ []) in omega arith

target-short : (line : Line) (append : Bool) (reading : Reading (List ℕ)) → IsShort line (reading >>= λ next. Ok (with_target line append next.0, next.1))
target-short line append (Err fault) = tt
target-short line append (Ok next) = omega arith

either-short : (line : Line) (b : Bool) (one other : Reading Line) → IsShort line one → IsShort line other → IsShort line (cond b one other)
either-short line true one other first second = first
either-short line false one other first second = second

item-short : (line : Line) (rest : Left) → IsShort line (item line rest)
item-short line rest = by rest.place rest.text
  where
    by : (place : ℕ) (text : List ℕ) → IsShort line (item_in line place text)
    by place [] = omega arith
    by place (byte ∷ text) =
        let behind = behind_blanks (second (place + 1) text).1.place (second (place + 1) text).1.text in
        either-short line (is_blank byte) (Ok (line, left (place + 1) text)) _ (omega arith)
        (either-short line (byte == 62) (redirect line place text) _
        (either-short line (is_some line.into) _ _ tt (either-short line (is_over behind.text) _ _ tt (target-short line (second (place + 1) text).0 (word_of behind))))
        (word-short line (word_of (left place (byte ∷ text)))))

-- a line that is read in so many steps has at most so many words more
abbrev IsWithin : ℕ → Line → Reading Line → Type 0
IsWithin most line (Ok next) = length next.0.words ≤ length line.words + most
IsWithin most line (Err fault) = Unit {0}

wider : (most : ℕ) (line next : Line) (reading : Reading Line) → length next.words ≤ length line.words + 1 → IsWithin most next reading → IsWithin (suc most) line reading
wider most line next (Ok done) short within = omega arith
wider most line next (Err fault) short within = tt

-- after the first step, so many are left
abbrev AreShort : ℕ → Type 0
AreShort most = (line : Line) (rest : Left) → IsWithin most line (at_most is_over item most line rest)

step : (most : ℕ) (line : Line) (reading : Reading Line) → IsShort line reading → AreShort most → IsWithin (suc most) line (reading >>= λ next. at_most is_over item most next.0 next.1)
step most line (Err fault) short each = tt
step most line (Ok next) short each = wider most line next.0 (at_most is_over item most next.0 next.1) short (each next.0 next.1)

over : (most : ℕ) (line : Line) (rest : Left) (b : Bool) → AreShort most → IsWithin (suc most) line (cond b (Ok (line, rest)) (item line rest >>= λ next. at_most is_over item most next.0 next.1))
over most line rest true each = omega arith
over most line rest false each = step most line (item line rest) (item-short line rest) each

steps-short : (most : ℕ) → AreShort most
steps-short zero line rest = omega arith
steps-short (suc most) line rest = over most line rest (is_over rest.text) (λ next left. steps-short most next left)

abbrev IsNoLonger : List ℕ → Result Line WordFault → Type 0
IsNoLonger text (Ok line) = length line.words ≤ length text
IsNoLonger text (Err fault) = Unit {0}

pub few_words : (text : List ℕ) (line : Line) → line_of text ≡ Ok line → length line.words ≤ length text
unfolding line_of repeated
few_words text line is = by (at_most is_over item (length text) no_words (left 0 text)) (steps-short (length text) no_words (left 0 text)) is
  where
    by : (reading : Reading Line) → IsWithin (length text) no_words reading → (reading >>= λ done. Ok done.0) ≡ Ok line → length line.words ≤ length text
    by (Err fault) within is = cc
    by (Ok done) within is = let short : length done.0.words ≤ length text = omega (arith, within) in subst (λ (r : Result Line WordFault). IsNoLonger text r) is short
