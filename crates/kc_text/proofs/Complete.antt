-- A line is read as the parts that it is written by.
use Rattle.std.proofs.Common.{◌≡◌, ℕ, Bool, true, false, List, [], ◌∷◌, ◌++◌, Some, None, refl, sym, ap, ◌∙◌, subst, append_assoc, append-nil}
use Rattle.std.specs.Prelude.{◌==◌, ◌↔◌, IsTrue}
use Rattle.std.specs.List.{list_all}
use Rattle.std.proofs.lemmas.Bool.{ne_eqb, and_parts, or_parts, not-true}
use Rattle.kc_text.specs.Bytes as byte_is
use Rattle.kc_text.specs.Lexer.{is_quote, is_sign, single, pair, begin, step, behind_sign, behind, finish, parts, start}
use Rattle.kc_text.specs.Grammar.{IsQuoted, IsUnclosed, IsFront, IsLine, IsOver, HasOpenQuote, EndsWord, IsAlone}
use Rattle.kc_text.specs.declared.part.Part.{Part}
use Rattle.kc_text.specs.declared.part.Part.TheVariants.{Word as WordPart, Quoted}
use Rattle.kc_text.specs.declared.lexer.Mode.TheVariants.{Between, Word, Quote, Sign}
use Rattle.kc_text.proofs.Steps.{lexer, run, run-fold, pair_sign, begin_blank, begin_comment, begin_quote, begin_sign, begin_word, begin_single, in_quote_plain, in_quote_backslash, in_quote_closes, in_word_goes, in_word_ends}
use Rattle.kc_text.proofs.Sound.{Sound, comment_runs, line_sound}

word_bytes : (bytes line : List ℕ) (done : List Part) (text : List ℕ) → IsTrue (list_all byte_is.of_word bytes) → run (lexer done text Word) (bytes ++ line) ≡ run (lexer done (text ++ bytes) Word) line
unfolding step
word_bytes [] line done text all = ap (λ t. run (lexer done t Word) line) (sym (append-nil text))
word_bytes (c ∷ bytes) line done text all =
    let p = and_parts (byte_is.of_word c) (list_all byte_is.of_word bytes) all in
    ap (λ l. run l (bytes ++ line)) (in_word_goes (lexer done text Word) c p.0) ∙ (word_bytes bytes line done (text ++ c ∷ []) p.1 ∙ ap (λ t. run (lexer done t Word) line) (append_assoc text (c ∷ []) bytes))

word_ends : (line : List ℕ) (done : List Part) (text : List ℕ) → EndsWord line → run (lexer done text Word) line ≡ run (lexer (done ++ WordPart text ∷ []) [] Between) line
unfolding step finish
word_ends [] done text ends = refl
word_ends (c ∷ line) done text ends = ap (λ l. run l line) (in_word_ends (lexer done text Word) c ends)

quoted_bytes : (q : ℕ) (text written line : List ℕ) (done : List Part) (before : List ℕ) → IsTrue (is_quote q) → IsQuoted q text written →
    run (lexer done before (Quote q)) (written ++ line) ≡ run (lexer done (before ++ text) (Quote q)) line
unfolding step
quoted_bytes q text written line done before begins (IsQuoted.empty) = ap (λ t. run (lexer done t (Quote q)) line) (sym (append-nil before))
quoted_bytes q text written line done before begins (IsQuoted.plain b t w other plain more) =
    ap (λ l. run l (w ++ line)) (in_quote_plain (lexer done before (Quote q)) q b (ne_eqb b q other) (ne_eqb b 92 plain))
    ∙ (quoted_bytes q t w line done (before ++ b ∷ []) begins more ∙ ap (λ x. run (lexer done x (Quote q)) line) (append_assoc before (b ∷ []) t))
quoted_bytes q text written line done before begins (IsQuoted.escaped b t w more) =
    ap (λ l. run l (b ∷ (w ++ line))) (in_quote_backslash (lexer done before (Quote q)) q begins)
    ∙ (quoted_bytes q t w line done (before ++ b ∷ []) begins more ∙ ap (λ x. run (lexer done x (Quote q)) line) (append_assoc before (b ∷ []) t))

quote_closes : (q : ℕ) (line : List ℕ) (done : List Part) (text : List ℕ) → run (lexer done text (Quote q)) (q ∷ line) ≡ run (lexer (done ++ Quoted text ∷ []) [] Between) line
unfolding step
quote_closes q line done text = ap (λ l. run l line) (in_quote_closes (lexer done text (Quote q)) q)

pair_goes : (a b : ℕ) (part : Part) (line : List ℕ) (done : List Part) → pair a b ≡ Some part → run (lexer done [] (Sign a)) (b ∷ line) ≡ run (lexer (done ++ part ∷ []) [] Between) line
unfolding step behind_sign
pair_goes a b part line done is = ap (λ p. run (behind (lexer done [] (Sign a)) a b p) line) is

sign_goes : (t : Bool) (b : ℕ) (line : List ℕ) (done : List Part) → is_sign b ≡ t → byte_is.blank b ≡ false → (b == 35) ≡ false → is_quote b ≡ false → byte_is.of_word b ≡ false → IsAlone b line →
    run (begin (lexer done [] Between) b) line ≡ run (lexer (done ++ single b ∷ []) [] Between) line
unfolding step behind_sign finish
sign_goes true b [] done is blank hash quote word alone = ap finish (begin_sign (lexer done [] Between) b is)
sign_goes true b (c ∷ line) done is blank hash quote word alone =
    ap (λ l. run l (c ∷ line)) (begin_sign (lexer done [] Between) b is) ∙ ap (λ p. run (behind (lexer done [] (Sign b)) b c p) line) alone
sign_goes false b line done is blank hash quote word alone = ap (λ l. run l line) (begin_single (lexer done [] Between) b blank hash quote is word)

-- what stands at the front of a line is read, and the rest goes on from there
front_runs : (line rest : List ℕ) (found : List Part) (done : List Part) → IsFront line found rest → run (lexer done [] Between) line ≡ run (lexer (done ++ found) [] Between) rest
unfolding step
front_runs line rest found done (IsFront.nothing l) = ap (λ d. run (lexer d [] Between) l) (sym (append-nil done))
front_runs line rest found done (IsFront.blank b l r ps is front) = ap (λ x. run x l) (begin_blank (lexer done [] Between) b is) ∙ front_runs l r ps done front
front_runs line rest found done (IsFront.word b bytes l r ps all ends front) =
    let p = and_parts (byte_is.of_word b) (list_all byte_is.of_word bytes) all in
    ap (λ x. run x (bytes ++ l)) (begin_word (lexer done [] Between) b p.0) ∙ (word_bytes bytes l done (b ∷ []) p.1 ∙ (word_ends l done (b ∷ bytes) ends
    ∙ (front_runs l r ps (done ++ WordPart (b ∷ bytes) ∷ []) front ∙ ap (λ d. run (lexer d [] Between) r) (append_assoc done (WordPart (b ∷ bytes) ∷ []) ps))))
front_runs line rest found done (IsFront.quoted q text written l r ps begins quoted front) =
    ap (λ x. run x (written ++ q ∷ l)) (begin_quote (lexer done [] Between) q begins) ∙ (quoted_bytes q text written (q ∷ l) done [] begins quoted ∙ (quote_closes q l done text
    ∙ (front_runs l r ps (done ++ Quoted text ∷ []) front ∙ ap (λ d. run (lexer d [] Between) r) (append_assoc done (Quoted text ∷ []) ps))))
front_runs line rest found done (IsFront.double a b part l r ps is front) =
    ap (λ x. run x (b ∷ l)) (begin_sign (lexer done [] Between) a (pair_sign a b part is)) ∙ (pair_goes a b part l done is
    ∙ (front_runs l r ps (done ++ part ∷ []) front ∙ ap (λ d. run (lexer d [] Between) r) (append_assoc done (part ∷ []) ps)))
front_runs line rest found done (IsFront.sign b l r ps is alone front) =
    let none = or_parts _ _ (not-true _ is) in
    let quote = or_parts _ _ none.0 in
    let hash = or_parts _ _ quote.0 in
    sign_goes (is_sign b) b l done refl hash.0 hash.1 quote.1 none.1 alone
    ∙ (front_runs l r ps (done ++ single b ∷ []) front ∙ ap (λ d. run (lexer d [] Between) r) (append_assoc done (single b ∷ []) ps))

over_runs : (rest : List ℕ) (done : List Part) → IsOver rest → run (lexer done [] Between) rest ≡ Some done
unfolding step finish
over_runs [] done over = refl
over_runs (b ∷ line) done over = ap (λ x. run x line) (begin_comment (lexer done [] Between) b over) ∙ comment_runs done [] line

unclosed_runs : (q : ℕ) (back : List ℕ) (done : List Part) → IsTrue (is_quote q) → IsUnclosed q back → run (lexer done [] (Quote q)) back ≡ None
unfolding step finish
unclosed_runs q back done begins (IsUnclosed.bare text written quoted) = ap (run (lexer done [] (Quote q))) (sym (append-nil written)) ∙ quoted_bytes q text written [] done [] begins quoted
unclosed_runs q back done begins (IsUnclosed.backslash text written quoted) = quoted_bytes q text written (92 ∷ []) done [] begins quoted ∙ ap finish (in_quote_backslash (lexer done text (Quote q)) q begins)

line_runs : (line : List ℕ) (found : List Part) → IsLine line found → run (lexer [] [] Between) line ≡ Some found
line_runs line found is = front_runs line is.rest found [] is.front ∙ over_runs is.rest found is.over

open_runs : (line : List ℕ) → HasOpenQuote line → run (lexer [] [] Between) line ≡ None
unfolding step
open_runs line is = front_runs line (is.quote ∷ is.back) is.parts [] is.front
    ∙ (ap (λ x. run x is.back) (begin_quote (lexer is.parts [] Between) is.quote is.begins) ∙ unclosed_runs is.quote is.back is.parts is.begins is.unclosed)

read_back : (line : List ℕ) (found : List Part) → run (lexer [] [] Between) line ≡ Some found → IsLine line found
read_back line found e =
    let s : Sound [] line (Some found) = subst (Sound [] line) e (line_sound line) in
    subst (IsLine line) (sym s.1) s.2

open_back : (line : List ℕ) → run (lexer [] [] Between) line ≡ None → HasOpenQuote line
open_back line e = subst (Sound [] line) e (line_sound line)

-- a line has these parts exactly where it is written by them
pub line_parts : (line : List ℕ) (found : List Part) → IsLine line found ↔ (parts line ≡ Some found)
unfolding parts
line_parts line found = (λ is. run-fold line start ∙ line_runs line found is, λ e. read_back line found (sym (run-fold line start) ∙ e))

-- and none exactly where a quote of it doesn't close
pub line_open : (line : List ℕ) → HasOpenQuote line ↔ (parts line ≡ None)
unfolding parts
line_open line = (λ is. run-fold line start ∙ open_runs line is, λ e. open_back line (sym (run-fold line start) ∙ e))
