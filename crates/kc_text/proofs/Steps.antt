-- What one byte does to what is read of a line.
use Rattle.std.proofs.Common.{◌≡◌, ℕ, Bool, true, false, cond, ◌||◌, List, [], ◌∷◌, Option, Some, None, refl, sym, ap, ◌∙◌, fold, ⊎_elim}
use Rattle.std.specs.Prelude.{◌==◌, ◌&&◌, IsTrue}
use Rattle.std.proofs.lemmas.Bool.{eqb-true, eq-eqb, ne_eqb, or_cases, or_parts, true≢false}
use Rattle.kc_text.specs.Bytes as byte_is
use Rattle.kc_text.specs.Lexer.{Lexer, is_quote, is_sign, single, double, pair, begin, step, in_word, in_quote, finish, enter, keep, put_part, put_word, put_quoted}
use Rattle.kc_text.specs.Grammar as grammar
use Rattle.kc_text.specs.declared.part.Part.{Part}
use Rattle.kc_text.specs.declared.part.Part.TheVariants.{Differ}
use Rattle.kc_text.specs.declared.lexer.Mode.{Mode}
use Rattle.kc_text.specs.declared.lexer.Mode.TheVariants.{Between, Word, Quote, Escape, Sign, Comment}

abbrev pub lexer : List Part → List ℕ → Mode → Lexer
lexer done text mode = record { parts = done; text = text; mode = mode }

-- the parts that are read once a line is read to its end
abbrev pub run : Lexer → List ℕ → Option (List Part)
run l [] = finish l
run l (byte ∷ line) = run (step l byte) line

pub run-fold : (line : List ℕ) (l : Lexer) → finish (fold step l line) ≡ run l line
run-fold [] l = refl
run-fold (byte ∷ line) l = run-fold line (step l byte)

-- a byte of a word is nothing else
not_of_word : (b : ℕ) (other : ℕ) → byte_is.of_word b ≡ true → byte_is.of_word other ≡ false → (b == other) ≡ false
not_of_word b other is isnt = ne_eqb b other (λ same. true≢false (sym is ∙ ap byte_is.of_word same ∙ isnt))

both_false : (x y : Bool) → x ≡ false → y ≡ false → (x || y) ≡ false
both_false x y p q = rw (p, q) refl

pub word_blank : (b : ℕ) → byte_is.of_word b ≡ true → byte_is.blank b ≡ false
unfolding byte_is.of_word byte_is.of_symbol
word_blank b is = both_false (b == 32) (b == 9) (not_of_word b 32 is refl) (not_of_word b 9 is refl)

pub word_comment : (b : ℕ) → byte_is.of_word b ≡ true → (b == 35) ≡ false
unfolding byte_is.of_word byte_is.of_symbol
word_comment b is = not_of_word b 35 is refl

pub word_quote : (b : ℕ) → byte_is.of_word b ≡ true → is_quote b ≡ false
unfolding byte_is.of_word byte_is.of_symbol
word_quote b is = both_false (b == 34) (b == 39) (not_of_word b 34 is refl) (not_of_word b 39 is refl)

pub word_sign : (b : ℕ) → byte_is.of_word b ≡ true → is_sign b ≡ false
unfolding byte_is.of_word byte_is.of_symbol
word_sign b is = both_false ((b == 124) || (b == 38)) (b == 33) (both_false (b == 124) (b == 38) (not_of_word b 124 is refl) (not_of_word b 38 is refl)) (not_of_word b 33 is refl)

-- no operator of two bytes begins with another byte than `|`, `&` and `!`
pub pair_none : (b c : ℕ) → is_sign b ≡ false → pair b c ≡ None
unfolding pair double
pair_none b c isnt =
    let outer = or_parts _ _ isnt in
    let inner = or_parts _ _ outer.0 in
    by (b == c) inner.0 inner.1 outer.1
  where
    by : (t : Bool) → (b == 124) ≡ false → (b == 38) ≡ false → (b == 33) ≡ false → cond t (double b) (cond ((b == 33) && (c == 61)) (Some Differ) None) ≡ None
    by true bar ampersand mark = rw (bar, ampersand) refl
    by false bar ampersand mark = rw mark refl

-- an operator of two bytes begins with one of these
pub pair_sign : (b c : ℕ) (part : Part) → pair b c ≡ Some part → is_sign b ≡ true
pair_sign b c part is = by (is_sign b) refl
  where
    by : (t : Bool) → is_sign b ≡ t → is_sign b ≡ true
    by true e = e
    by false e = let clash : None ≡ Some part = sym (pair_none b c e) ∙ is in absurd (cc)

pub begin_blank : (l : Lexer) (b : ℕ) → byte_is.blank b ≡ true → begin l b ≡ enter l Between
unfolding begin
begin_blank l b is = rw is refl

pub begin_comment : (l : Lexer) (b : ℕ) → b ≡ 35 → begin l b ≡ enter l Comment
unfolding begin
begin_comment l b is = rw is refl

pub begin_quote : (l : Lexer) (b : ℕ) → is_quote b ≡ true → begin l b ≡ enter l (Quote b)
unfolding begin
begin_quote l b is = ⊎_elim (λ e. rw (eqb-true b 34 e) refl) (λ e. rw (eqb-true b 39 e) refl) (or_cases _ _ is)

pub begin_sign : (l : Lexer) (b : ℕ) → is_sign b ≡ true → begin l b ≡ enter l (Sign b)
unfolding begin byte_is.of_word byte_is.of_symbol
begin_sign l b is =
    ⊎_elim (λ two. ⊎_elim (λ e. rw (eqb-true b 124 e) refl) (λ e. rw (eqb-true b 38 e) refl) (or_cases _ _ two)) (λ e. rw (eqb-true b 33 e) refl) (or_cases _ _ is)

pub begin_word : (l : Lexer) (b : ℕ) → byte_is.of_word b ≡ true → begin l b ≡ keep l b Word
unfolding begin
begin_word l b is = rw (word_blank b is, word_comment b is, word_quote b is, word_sign b is, is) refl

pub begin_single : (l : Lexer) (b : ℕ) → byte_is.blank b ≡ false → (b == 35) ≡ false → is_quote b ≡ false → is_sign b ≡ false → byte_is.of_word b ≡ false → begin l b ≡ put_part l (single b)
unfolding begin
begin_single l b blank comment quote sign word = rw (blank, comment, quote, sign, word) refl

-- one that begins no blank, comment, quoted text or word
pub sign_byte : (b : ℕ) → byte_is.blank b ≡ false → (b == 35) ≡ false → is_quote b ≡ false → byte_is.of_word b ≡ false → IsTrue (grammar.is_sign b)
sign_byte b blank comment quote word = rw (blank, comment, quote, word) refl

pub sign_sign : (b : ℕ) → is_sign b ≡ true → IsTrue (grammar.is_sign b)
unfolding byte_is.of_word byte_is.of_symbol
sign_sign b is =
    ⊎_elim (λ two. ⊎_elim (λ e. rw (eqb-true b 124 e) refl) (λ e. rw (eqb-true b 38 e) refl) (or_cases _ _ two)) (λ e. rw (eqb-true b 33 e) refl) (or_cases _ _ is)

-- a byte in quotes that isn't the quote and no backslash belongs to the text
pub in_quote_plain : (l : Lexer) (q b : ℕ) → (b == q) ≡ false → (b == 92) ≡ false → in_quote l q b ≡ keep l b (Quote q)
unfolding in_quote
in_quote_plain l q b other plain = rw (other, plain) refl

-- a backslash is no quote, and takes the next byte
pub in_quote_backslash : (l : Lexer) (q : ℕ) → is_quote q ≡ true → in_quote l q 92 ≡ enter l (Escape q)
unfolding in_quote
in_quote_backslash l q begins =
    let apart : (92 == q) ≡ false = ne_eqb 92 q (λ same. true≢false (sym begins ∙ ap is_quote (sym same))) in
    rw apart refl

pub in_quote_closes : (l : Lexer) (q : ℕ) → in_quote l q q ≡ put_quoted l
unfolding in_quote
in_quote_closes l q = let same : (q == q) ≡ true = eq-eqb q q refl in rw same refl

pub in_word_goes : (l : Lexer) (b : ℕ) → byte_is.of_word b ≡ true → in_word l b ≡ keep l b Word
unfolding in_word
in_word_goes l b is = rw is refl

pub in_word_ends : (l : Lexer) (b : ℕ) → byte_is.of_word b ≡ false → in_word l b ≡ begin (put_word l) b
unfolding in_word
in_word_ends l b isnt = rw isnt refl
