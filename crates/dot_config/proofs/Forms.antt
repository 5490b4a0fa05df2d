-- What a line says is what is found of it, and the other way round.
use Rattle.std.proofs.Common.{ℕ, ◌≡◌, ◌+◌, Bool, true, false, cond, List, [], ◌∷◌, ◌++◌, length, take, drop, Option, Some, None, refl, sym, ap, subst, ◌∙◌, ⊎_elim, inl, inr, arith}
use Rattle.std.specs.Prelude.{◌==◌, ◌⊎◌, ◌&&◌, ◌||◌, position, codes}
use Rattle.std.specs.List.{list_all}
use Rattle.std.specs.Option.{option_and_then, option_map}
use Rattle.std.proofs.lemmas.Bool.{eqb-true, cond-true, cond-false, and_left, or_from}
use Rattle.std.proofs.Math.Seq.{take-append_seam, drop-append-add}
use Rattle.kc_text.specs.Bytes.{of_symbol}
use Rattle.kc_menu.specs.declared.wishes.WishValue.{WishValue}
use Rattle.kc_menu.specs.declared.wishes.WishValue.TheVariants.{No, Word, Quoted}
use Rattle.dot_config.specs.declared.line.Said.{Said}
use Rattle.dot_config.specs.declared.line.Said.TheVariants.{Nothing, Asks}
use Rattle.dot_config.specs.Line.{is_symbol, is_word, of_word, is_blank, unset, IsUnset, IsComment, IsLine, IsQuoted}
use Rattle.dot_config.specs.SaidBy.{behind, before, if_symbol, unset_symbol, said_of_unset, comment, is_comment, unquoted, word_of, value_of, assignment, assigned_at, assigned, said_by}
use Rattle.dot_config.proofs.Bytes.{apart, All-apart, first_passes, symbol_bytes, of_symbol_not_equals, of_symbol_not_hash, of_symbol_not_space, of_symbol_not_tab}
use Rattle.dot_config.proofs.Cuts.{cond_cases, some_then, and_then_some, mapped_some, behind_sound, behind_reads, before_sound, before_reads, cut_at, position-append}
use Rattle.dot_config.proofs.Quotes.{quoted_sound, quoted_reads}

unset_sound : (line symbol : List ℕ) → unset_symbol line ≡ Some symbol → IsUnset line symbol
unset_sound line symbol e =
    let whole = and_then_some if_symbol (option_and_then (before (codes " is not set")) (behind (codes "# ") line)) symbol e in
    let inner = and_then_some (before (codes " is not set")) (behind (codes "# ") line) whole.0 whole.1 in
    let name = some_then (is_symbol whole.0) (Some whole.0) symbol whole.2 in
    let same : whole.0 ≡ symbol = (cc (name.1)) in
    let front : line ≡ codes "# " ++ inner.0 = behind_sound (codes "# ") line inner.0 inner.1 in
    let back : inner.0 ≡ whole.0 ++ codes " is not set" = before_sound (codes " is not set") inner.0 whole.0 inner.2 in
    (subst (λ s. is_symbol s ≡ true) same name.0, front ∙ ap (λ r. codes "# " ++ r) (back ∙ ap (λ s. s ++ codes " is not set") same))

unset_reads : (line symbol : List ℕ) → IsUnset line symbol → unset_symbol line ≡ Some symbol
unset_reads line symbol is =
    let P : List ℕ → Type 0 = λ l. unset_symbol l ≡ Some symbol in
    let inner : option_and_then (before (codes " is not set")) (behind (codes "# ") (unset symbol)) ≡ Some symbol =
    ap (option_and_then (before (codes " is not set"))) (behind_reads (codes "# ") (symbol ++ codes " is not set")) ∙ before_reads (codes " is not set") symbol in
    subst P (sym is.1) (ap (option_and_then if_symbol) inner ∙ cond-true (is_symbol symbol) (Some symbol) None is.0)

begins : (line : List ℕ) → is_comment line ≡ true → (rest : List ℕ) × (line ≡ 35 ∷ rest)
begins [] e = absurd (cc)
begins (byte ∷ bytes) e = (bytes, ap (λ b. b ∷ bytes) (eqb-true byte 35 e))

comment_as : (line : List ℕ) (found : Option (List ℕ)) → unset_symbol line ≡ found → is_comment line ≡ true → IsLine line (said_of_unset found)
comment_as line (Some symbol) e hash = unset_sound line symbol e
comment_as line None e hash = inr (begins line hash, λ symbol is. let reads : unset_symbol line ≡ Some symbol = unset_reads line symbol is in cc)

comment_sound : (line : List ℕ) → is_comment line ≡ true → IsLine line (comment line)
unfolding comment
comment_sound line hash = comment_as line (unset_symbol line) refl hash

value_sound : (line symbol value : List ℕ) (wished : WishValue) → value_of value ≡ Some wished → is_symbol symbol ≡ true → line ≡ symbol ++ 61 ∷ value → IsLine line (Asks symbol wished)
unfolding value_of
value_sound line symbol [] wished e name whole = absurd (cc)
value_sound line symbol (byte ∷ bytes) wished e name whole =
    ⊎_elim
    (λ quote.
    let found = mapped_some Quoted (unquoted bytes) wished quote.1 in
    let read = quoted_sound bytes found.0 found.1 in
    let begin : byte ≡ 34 = eqb-true byte 34 quote.0 in
    let text : line ≡ symbol ++ 61 ∷ 34 ∷ (read.0 ++ 34 ∷ []) = whole ∙ ap (λ b. symbol ++ 61 ∷ b ∷ bytes) begin ∙ ap (λ r. symbol ++ 61 ∷ 34 ∷ r) read.2 in
    subst (λ w. IsLine line (Asks symbol w)) found.2 (name, (read.0, read.1, text)))
    (λ bare.
    let found = some_then (is_word (byte ∷ bytes)) (Some (Word (byte ∷ bytes))) wished bare.1 in
    let same : Word (byte ∷ bytes) ≡ wished = (cc (found.1)) in
    subst (λ w. IsLine line (Asks symbol w)) same (name, found.0, whole))
    (cond_cases (byte == 34) (option_map Quoted (unquoted bytes)) (word_of (byte ∷ bytes)) (Some wished) e)

wish_sound : (line symbol value : List ℕ) (said : Said) → assignment symbol value ≡ Some said → line ≡ symbol ++ 61 ∷ value → IsLine line said
unfolding assignment
wish_sound line symbol value said e whole =
    let name = some_then (is_symbol symbol) (option_map (Asks symbol) (value_of value)) said e in
    let found = mapped_some (Asks symbol) (value_of value) said name.1 in
    subst (IsLine line) found.2 (value_sound line symbol value found.0 found.1 name.0 whole)

assigned_as : (line : List ℕ) (said : Said) (place : Option ℕ) → position (λ byte. byte == 61) line ≡ place → assigned_at line place ≡ Some said → IsLine line said
assigned_as line said None is e = absurd (cc)
assigned_as line said (Some place) is e = wish_sound line (take place line) (drop (place + 1) line) said e (cut_at 61 line place is)

assigned_sound : (line : List ℕ) (said : Said) → assigned line ≡ Some said → IsLine line said
unfolding assigned
assigned_sound line said e = assigned_as line said (position (λ byte. byte == 61) line) refl e

pub said_sound : (line : List ℕ) (said : Said) → said_by line ≡ Some said → IsLine line said
unfolding said_by
said_sound line said e =
    ⊎_elim
    (λ blank. let same : Nothing ≡ said = (cc (blank.1)) in subst (IsLine line) same (inl blank.0))
    (λ filled.
    ⊎_elim
    (λ hash. let same : comment line ≡ said = (cc (hash.1)) in subst (IsLine line) same (comment_sound line hash.0))
    (λ bare. assigned_sound line said bare.1)
    (cond_cases (is_comment line) (Some (comment line)) (assigned line) (Some said) filled.1))
    (cond_cases (is_blank line) (Some Nothing) (cond (is_comment line) (Some (comment line)) (assigned line)) (Some said) e)

-- a line that begins with `#` is a comment or of a symbol that isn't set
hash_reads : (line rest : List ℕ) → line ≡ 35 ∷ rest → said_by line ≡ Some (comment line)
unfolding said_by
hash_reads line rest e = let P : List ℕ → Type 0 = λ l. cond (is_blank l) (Some Nothing) (cond (is_comment l) (Some (comment l)) (assigned l)) ≡ Some (comment l) in subst P (sym e) refl

comment_none : (line : List ℕ) (found : Option (List ℕ)) → unset_symbol line ≡ found → ((symbol : List ℕ) → IsUnset line symbol → ⊥) → said_of_unset found ≡ Nothing
comment_none line None e none = refl
comment_none line (Some symbol) e none = absurd (none symbol (unset_sound line symbol e))

comment_reads : (line : List ℕ) → ((symbol : List ℕ) → IsUnset line symbol → ⊥) → comment line ≡ Nothing
unfolding comment
comment_reads line none = comment_none line (unset_symbol line) refl none

comment_unset : (line symbol : List ℕ) → IsUnset line symbol → comment line ≡ Asks symbol No
unfolding comment
comment_unset line symbol is = ap said_of_unset (unset_reads line symbol is)

-- a line that begins with a name and `=`
assigned_reads : (symbol value : List ℕ) → is_symbol symbol ≡ true → assigned (symbol ++ 61 ∷ value) ≡ assignment symbol value
unfolding assigned
assigned_reads symbol value name =
    let free = All-apart of_symbol symbol 61 of_symbol_not_equals (symbol_bytes symbol name) in
    ap (assigned_at (symbol ++ 61 ∷ value)) (position-append 61 symbol value free)
    ∙ ap (λ s. assignment s (drop (length symbol + 1) (symbol ++ 61 ∷ value))) (take-append_seam symbol (61 ∷ value))
    ∙ ap (assignment symbol) (drop-append-add symbol (61 ∷ value) 1)

-- a line that begins with a byte of a name
bare_reads : (first : ℕ) (rest : List ℕ) → of_symbol first ≡ true → said_by (first ∷ rest) ≡ assigned (first ∷ rest)
unfolding said_by
bare_reads first rest is =
    let space : (first == 32) ≡ false = apart of_symbol first 32 of_symbol_not_space is in
    let tab : (first == 9) ≡ false = apart of_symbol first 9 of_symbol_not_tab is in
    let hash : (first == 35) ≡ false = apart of_symbol first 35 of_symbol_not_hash is in
    cond-false (is_blank (first ∷ rest)) (Some Nothing) (cond (is_comment (first ∷ rest)) (Some (comment (first ∷ rest))) (assigned (first ∷ rest))) (and_left ((first == 32) || (first == 9)) (is_blank rest) (or_from (first == 32) (first == 9) space tab))
    ∙ cond-false (first == 35) (Some (comment (first ∷ rest))) (assigned (first ∷ rest)) hash

name_reads : (symbol value : List ℕ) → is_symbol symbol ≡ true → said_by (symbol ++ 61 ∷ value) ≡ option_map (Asks symbol) (value_of value)
unfolding assignment
name_reads symbol value name =
    let begin = first_passes of_symbol symbol name in
    let P : List ℕ → Type 0 = λ s. said_by (s ++ 61 ∷ value) ≡ assigned (s ++ 61 ∷ value) in
    subst P (sym begin.1.1) (bare_reads begin.0 (begin.1.0 ++ 61 ∷ value) begin.1.2)
    ∙ assigned_reads symbol value name
    ∙ cond-true (is_symbol symbol) (option_map (Asks symbol) (value_of value)) None name

word_reads : (word : List ℕ) → is_word word ≡ true → value_of word ≡ Some (Word word)
unfolding value_of
word_reads word is =
    let begin = first_passes of_word word is in
    let P : List ℕ → Type 0 = λ w. value_of w ≡ word_of w in
    subst P (sym begin.1.1) (cond-false (begin.0 == 34) (option_map Quoted (unquoted begin.1.0)) (word_of (begin.0 ∷ begin.1.0)) (apart of_word begin.0 34 refl begin.1.2))
    ∙ cond-true (is_word word) (Some (Word word)) None is

quote_reads : (inner text : List ℕ) → IsQuoted inner text → value_of (34 ∷ (inner ++ 34 ∷ [])) ≡ Some (Quoted text)
unfolding value_of
quote_reads inner text is = ap (option_map Quoted) (quoted_reads inner text is)

pub line_said : (line : List ℕ) (said : Said) → IsLine line said → said_by line ≡ Some said
unfolding said_by
line_said line Nothing (inl blank) = cond-true (is_blank line) (Some Nothing) (cond (is_comment line) (Some (comment line)) (assigned line)) blank
line_said line Nothing (inr is) = hash_reads line is.0.0 is.0.1 ∙ ap Some (comment_reads line is.1)
line_said line (Asks symbol No) is = hash_reads line (32 ∷ (symbol ++ codes " is not set")) is.1 ∙ ap Some (comment_unset line symbol is)
line_said line (Asks symbol (Word word)) is =
    subst (λ l. said_by l ≡ Some (Asks symbol (Word word))) (sym is.2) (name_reads symbol word is.0 ∙ ap (option_map (Asks symbol)) (word_reads word is.1))
line_said line (Asks symbol (Quoted text)) is =
    subst (λ l. said_by l ≡ Some (Asks symbol (Quoted text))) (sym is.1.2) (name_reads symbol (34 ∷ (is.1.0 ++ 34 ∷ [])) is.0 ∙ ap (option_map (Asks symbol)) (quote_reads is.1.0 text is.1.1))
