-- The bytes of names, words and blank lines.
use Rattle.std.proofs.Common.{ℕ, ◌≡◌, Bool, true, false, List, [], ◌∷◌, refl, sym, ap, ◌∙◌, true≢false}
use Rattle.std.specs.Prelude.{◌==◌, ◌&&◌, All, length, not}
use Rattle.std.specs.List.{list_all}
use Rattle.std.proofs.lemmas.Bool.{eqb-true, false_from_ne_true, and_parts}
use Rattle.std.proofs.lemmas.List.Elements.{All-nil, All-cons}
use Rattle.kc_text.specs.Bytes as byte_is
use Rattle.kc_text.specs.Bytes.{of_symbol}
use Rattle.dot_config.specs.Line.{is_symbol, is_word, of_word}

-- a byte that passes a test is none that doesn't
pub apart : (test : ℕ → Bool) (byte other : ℕ) → test other ≡ false → test byte ≡ true → (byte == other) ≡ false
apart test byte other shut here =
    false_from_ne_true (byte == other) (λ same. true≢false (sym here ∙ ap test (eqb-true byte other same) ∙ shut))

-- where each byte passes a test, none is a byte that doesn't
pub All-apart : (test : ℕ → Bool) (bytes : List ℕ) (other : ℕ) → test other ≡ false → list_all test bytes ≡ true → All (λ byte. (byte == other) ≡ false) bytes
All-apart test [] other shut passed = All-nil (λ byte. (byte == other) ≡ false)
All-apart test (byte ∷ bytes) other shut passed =
    let parts = and_parts (test byte) (list_all test bytes) passed in
    All-cons (λ byte. (byte == other) ≡ false) byte bytes (apart test byte other shut parts.0) (All-apart test bytes other shut parts.1)

pub of_symbol_not_equals : of_symbol 61 ≡ false
unfolding of_symbol
of_symbol_not_equals = refl

pub of_symbol_not_newline : of_symbol 10 ≡ false
unfolding of_symbol
of_symbol_not_newline = refl

pub of_symbol_not_hash : of_symbol 35 ≡ false
unfolding of_symbol
of_symbol_not_hash = refl

pub of_symbol_not_space : of_symbol 32 ≡ false
unfolding of_symbol
of_symbol_not_space = refl

pub of_symbol_not_tab : of_symbol 9 ≡ false
unfolding of_symbol
of_symbol_not_tab = refl

-- what is not empty and whose bytes pass a test has a first byte that passes
pub first_passes : (test : ℕ → Bool) (bytes : List ℕ) → (not (length bytes == 0) && list_all test bytes) ≡ true → (first : ℕ) × ((rest : List ℕ) × (bytes ≡ first ∷ rest) × (test first ≡ true))
first_passes test [] passed = absurd (cc)
first_passes test (first ∷ rest) passed =
    let whole = and_parts (not (length (first ∷ rest) == 0)) (test first && list_all test rest) passed in
    (first, (rest, refl, (and_parts (test first) (list_all test rest) whole.1).0))

pub symbol_bytes : (symbol : List ℕ) → is_symbol symbol ≡ true → list_all of_symbol symbol ≡ true
symbol_bytes symbol is = (and_parts (not (length symbol == 0)) (list_all of_symbol symbol) is).1

pub word_bytes : (word : List ℕ) → is_word word ≡ true → list_all of_word word ≡ true
word_bytes word is = (and_parts (not (length word == 0)) (list_all of_word word) is).1
