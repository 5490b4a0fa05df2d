-- What is written is read as the wishes that it was written for.
use Rattle.std.proofs.Common.{ℕ, ◌≡◌, ◌+◌, Bool, true, false, cond, List, [], ◌∷◌, ◌++◌, map, Option, Some, None, refl, sym, ap, subst, ◌∙◌, ⊎_elim, inl, inr, append_assoc, true≢false}
use Rattle.std.specs.Prelude.{◌==◌, ◌≢◌, ◌⊎◌, ◌||◌, ◌&&◌, not, length, All, codes}
use Rattle.std.specs.List.{flat_map, filter_map, cons_option, slice_split, AllZip, AllByRecursion, IsDistinct}
use Rattle.std.specs.Option.{option_map}
use Rattle.std.specs.Map.{keys_of}
use Rattle.std.proofs.lemmas.Bool.{ne_eqb, eqb-false, cond-false, or_parts, or_from}
use Rattle.std.proofs.lemmas.List.Elements.{All-nil, All-cons, All-head, All-tail, All-append}
use Rattle.std.proofs.lemmas.List.Splits.{slice_split_at}
use Rattle.std.proofs.lemmas.Map.Keys.{IsDistinct-head, IsDistinct-tail, IsDistinct-cons}
use Rattle.kc_text.specs.Bytes.{of_symbol}
use Rattle.kc_text.specs.Lines.{raw_lines}
use Rattle.br_path.specs.Text.{is_text}
use Rattle.kc_values.specs.Values.{is_y, Table, IsTable}
use Rattle.kc_values.specs.declared.values.Valued.{Valued}
use Rattle.kc_values.specs.declared.kind.Kind.{Kind}
use Rattle.kc_values.specs.declared.kind.Kind.TheVariants.{Bool as BoolKind, Text as TextKind, Int as IntKind}
use Rattle.kc_menu.specs.Visible.{is_visible}
use Rattle.kc_menu.specs.declared.menu.KcEntry.{KcEntry}
use Rattle.kc_menu.specs.declared.wishes.Wish.{Wish}
use Rattle.kc_menu.specs.declared.wishes.WishValue.{WishValue}
use Rattle.kc_menu.specs.declared.wishes.WishValue.TheVariants.{No, Word, Quoted}
use Rattle.dot_config.specs.declared.line.Said.{Said}
use Rattle.dot_config.specs.declared.line.Said.TheVariants.{Nothing, Asks}
use Rattle.dot_config.specs.Line.{is_symbol, is_word, of_word, IsQuoted, nothing, plain, escaped as quoted_byte, unset, IsLine}
use Rattle.dot_config.specs.Reading.{wishes_from, last_wishes, IsReading}
use Rattle.dot_config.specs.Writing.{bool_wish, string_wish, int_wish, wish_as, wish_for, escaped_byte, escaped, wish_text, written, config_text, numbered, IsOnLine, AreReadable}
use Rattle.dot_config.proofs.Bytes.{All-apart, symbol_bytes, word_bytes, of_symbol_not_newline}
use Rattle.dot_config.proofs.Cuts.{some_then, some_same, cond_cases}
use Rattle.dot_config.proofs.Last.{asks_for}
use Rattle.dot_config.proofs.Sets.{is_text-flip}

-- a wish as it is written, by the symbol and what is wished of it
abbrev pub Pair : Type 0
Pair = List ℕ × WishValue

abbrev said_for : Pair → Said
said_for w = Asks w.0 w.1

-- a wish that can stand on a line
abbrev HasLine : WishValue → Type 0
HasLine No = Unit {0}
HasLine (Word word) = is_word word ≡ true
HasLine (Quoted text) = All (λ byte. byte ≢ 10) text

abbrev IsLined : Pair → Type 0
IsLined w = (is_symbol w.0 ≡ true) × HasLine w.1

-- quotes and backslashes are read as they were
byte_is : (byte : ℕ) (inner text : List ℕ) → IsQuoted inner text → IsQuoted (escaped_byte byte ++ inner) (byte ∷ text)
byte_is byte inner text is = by ((byte == 34) || (byte == 92)) refl
  where
    by : (q : Bool) → ((byte == 34) || (byte == 92)) ≡ q → IsQuoted (cond q (92 ∷ byte ∷ []) (byte ∷ []) ++ inner) (byte ∷ text)
    by true e = quoted_byte byte inner text is
    by false e = let parts = or_parts (byte == 34) (byte == 92) e in plain byte inner text (eqb-false byte 34 parts.0) (eqb-false byte 92 parts.1) is

escaped_is : (text : List ℕ) → IsQuoted (escaped text) text
unfolding escaped
escaped_is [] = nothing
escaped_is (byte ∷ text) = byte_is byte (flat_map escaped_byte text) text (escaped_is text)

-- lines without a newline
abbrev IsFree : List ℕ → Type 0
IsFree bytes = All (λ byte. (byte == 10) ≡ false) bytes

free_cons : (byte : ℕ) (bytes : List ℕ) → (byte == 10) ≡ false → IsFree bytes → IsFree (byte ∷ bytes)
free_cons byte bytes one rest = All-cons (λ b. (b == 10) ≡ false) byte bytes one rest

free_append : (front back : List ℕ) → IsFree front → IsFree back → IsFree (front ++ back)
free_append front back one rest = All-append (λ b. (b == 10) ≡ false) front back one rest

free_end : (byte : ℕ) → (byte == 10) ≡ false → IsFree (byte ∷ [])
free_end byte one = free_cons byte [] one (All-nil (λ b. (b == 10) ≡ false))

escaped_byte_free : (byte : ℕ) → (byte == 10) ≡ false → IsFree (escaped_byte byte)
escaped_byte_free byte one =
    elim ((byte == 34) || (byte == 92)) as (λ q. IsFree (cond q (92 ∷ byte ∷ []) (byte ∷ []))) [ true ↦ free_cons 92 (byte ∷ []) refl (free_end byte one) | false ↦ free_end byte one ]

escaped_free : (text : List ℕ) → All (λ byte. byte ≢ 10) text → IsFree (escaped text)
unfolding escaped
escaped_free [] free = All-nil (λ b. (b == 10) ≡ false)
escaped_free (byte ∷ text) free =
    free_append (escaped_byte byte) (flat_map escaped_byte text) (escaped_byte_free byte (ne_eqb byte 10 (All-head (λ b. b ≢ 10) byte text free))) (escaped_free text (All-tail (λ b. b ≢ 10) byte text free))

symbol_free : (symbol : List ℕ) → is_symbol symbol ≡ true → IsFree symbol
symbol_free symbol is = All-apart of_symbol symbol 10 of_symbol_not_newline (symbol_bytes symbol is)

-- a line holds no newline
line_free : (symbol : List ℕ) (value : WishValue) → is_symbol symbol ≡ true → HasLine value → IsFree (wish_text symbol value)
line_free symbol No name line =
    free_cons 35 (32 ∷ (symbol ++ codes " is not set")) refl
    (free_cons 32 (symbol ++ codes " is not set") refl (free_append symbol (codes " is not set") (symbol_free symbol name) (All-apart (λ b. not (b == 10)) (codes " is not set") 10 refl refl)))
line_free symbol (Word word) name line = free_append symbol (61 ∷ word) (symbol_free symbol name) (free_cons 61 word refl (All-apart of_word word 10 refl (word_bytes word line)))
line_free symbol (Quoted text) name line =
    free_append symbol (61 ∷ 34 ∷ (escaped text ++ 34 ∷ [])) (symbol_free symbol name)
    (free_cons 61 (34 ∷ (escaped text ++ 34 ∷ [])) refl (free_cons 34 (escaped text ++ 34 ∷ []) refl (free_append (escaped text) (34 ∷ []) (escaped_free text line) (free_end 34 refl))))

-- and says what it was written for
line_form : (symbol : List ℕ) (value : WishValue) → is_symbol symbol ≡ true → HasLine value → IsLine (wish_text symbol value) (Asks symbol value)
line_form symbol No name line = (name, refl)
line_form symbol (Word word) name line = (name, line, refl)
line_form symbol (Quoted text) name line = (name, (escaped text, escaped_is text, refl))

abbrev lines_text : List Pair → List ℕ
lines_text ws = flat_map (λ (w : Pair). wish_text w.0 w.1 ++ 10 ∷ []) ws

-- the lines of the text, and an empty one after the last newline
lines_of : (ws : List Pair) → All IsLined ws → raw_lines (lines_text ws) ≡ map (λ (w : Pair). wish_text w.0 w.1) ws ++ [] ∷ []
unfolding raw_lines
lines_of [] lined = refl
lines_of (w ∷ ws) lined =
    let one = All-head IsLined w ws lined in
    ap (slice_split (λ byte. byte == 10)) (append_assoc (wish_text w.0 w.1) (10 ∷ []) (lines_text ws))
    ∙ slice_split_at (λ byte. byte == 10) (wish_text w.0 w.1) 10 (lines_text ws) (line_free w.0 w.1 one.0 one.1) refl
    ∙ ap (λ rest. wish_text w.0 w.1 ∷ rest) (lines_of ws (All-tail IsLined w ws lined))

forms_of : (ws : List Pair) → All IsLined ws → AllZip IsLine (map (λ (w : Pair). wish_text w.0 w.1) ws ++ [] ∷ []) (map said_for ws ++ Nothing ∷ [])
forms_of [] lined = (inl refl, tt)
forms_of (w ∷ ws) lined = let one = All-head IsLined w ws lined in (line_form w.0 w.1 one.0 one.1, forms_of ws (All-tail IsLined w ws lined))

wishes_of : (number : ℕ) (ws : List Pair) → wishes_from number (map said_for ws ++ Nothing ∷ []) ≡ numbered number ws
wishes_of number [] = refl
wishes_of number (w ∷ ws) = ap (λ rest. record { symbol = w.0; value = w.1; line = number } ∷ rest) (wishes_of (number + 1) ws)

-- no symbol is asked for twice
unasked : (number : ℕ) (symbol : List ℕ) (ws : List Pair) → AllByRecursion (λ other. is_text symbol other ≡ false) (keys_of ws) → asks_for symbol (numbered number ws) ≡ false
unasked number symbol [] apart = refl
unasked number symbol (w ∷ ws) apart =
    or_from (is_text w.0 symbol) (asks_for symbol (numbered (number + 1) ws)) (is_text-flip w.0 symbol ∙ apart.0) (unasked (number + 1) symbol ws apart.1)

last_of : (number : ℕ) (ws : List Pair) → IsDistinct is_text (keys_of ws) → last_wishes (numbered number ws) ≡ numbered number ws
last_of number [] apart = refl
last_of number (w ∷ ws) apart =
    cond-false (asks_for w.0 (numbered (number + 1) ws)) (last_wishes (numbered (number + 1) ws)) (record { symbol = w.0; value = w.1; line = number } ∷ last_wishes (numbered (number + 1) ws)) (unasked (number + 1) w.0 ws (IsDistinct-head is_text w.0 (keys_of ws) apart))
    ∙ ap (λ rest. record { symbol = w.0; value = w.1; line = number } ∷ rest) (last_of (number + 1) ws (IsDistinct-tail is_text w.0 (keys_of ws) apart))

lined_reading : (text : List ℕ) (ws : List Pair) → text ≡ lines_text ws → All IsLined ws → IsDistinct is_text (keys_of ws) → IsReading text (numbered 1 ws)
lined_reading text ws is lined apart = record {
  all = numbered 1 ws;
  forms = record {
    said = map said_for ws ++ Nothing ∷ [];
    forms = subst (λ ls. AllZip IsLine ls (map said_for ws ++ Nothing ∷ [])) (sym (ap raw_lines is ∙ lines_of ws lined)) (forms_of ws lined);
    made = sym (wishes_of 1 ws);
  };
  last = sym (last_of 1 ws apart);
}

-- the wish for a value that can stand on a line can
wish_line : (kind : Kind) (visible : Bool) (text : List ℕ) (value : WishValue) → IsOnLine kind text → wish_as kind visible text ≡ Some value → HasLine value
wish_line BoolKind visible text value fit e =
    ⊎_elim
    (λ set. subst HasLine (some_same (Word (codes "y")) value set.1) refl)
    (λ clear. subst HasLine (some_same No value (some_then visible (Some No) value clear.1).1) tt)
    (cond_cases (is_y text) (Some (Word (codes "y"))) (cond visible (Some No) None) (Some value) e)
wish_line TextKind visible text value fit e =
    subst HasLine (some_same (Quoted text) value (some_then (visible || not (length text == 0)) (Some (Quoted text)) value e).1) fit
wish_line IntKind visible text value fit e =
    ⊎_elim
    (λ empty. absurd (cc (empty.1)))
    (λ full. subst HasLine (some_same (Word text) value full.1) (⊎_elim (λ none. absurd (true≢false (sym (ap (λ t. length t == 0) none) ∙ full.0))) (λ word. word) fit))
    (cond_cases (length text == 0) None (Some (Word text)) (Some value) e)

-- the values that have a line
module _ (wish : List ℕ × Valued → Option WishValue) where
  chosen : Table → List Pair
  chosen values = filter_map (λ (v : List ℕ × Valued). option_map (λ value. (v.0, value)) (wish v)) values

  kept : (P : List ℕ → Type 0) (symbol : List ℕ) (o : Option WishValue) (ws : List Pair) → P symbol → AllByRecursion P (keys_of ws) → AllByRecursion P (keys_of (cons_option (option_map (λ value. (symbol, value)) o) ws))
  kept P symbol None ws one all = all
  kept P symbol (Some value) ws one all = (one, all)

  keys_kept : (P : List ℕ → Type 0) (values : Table) → AllByRecursion P (keys_of values) → AllByRecursion P (keys_of (chosen values))
  unfolding chosen
  keys_kept P [] all = all
  keys_kept P (v ∷ values) all = kept P v.0 (wish v) (chosen values) all.0 (keys_kept P values all.1)

  apart_cons : (symbol : List ℕ) (o : Option WishValue) (ws : List Pair) → AllByRecursion (λ other. is_text symbol other ≡ false) (keys_of ws) → IsDistinct is_text (keys_of ws) → IsDistinct is_text (keys_of (cons_option (option_map (λ value. (symbol, value)) o) ws))
  apart_cons symbol None ws one apart = apart
  apart_cons symbol (Some value) ws one apart = IsDistinct-cons is_text symbol (keys_of ws) one apart

  chosen_apart : (values : Table) → IsDistinct is_text (keys_of values) → IsDistinct is_text (keys_of (chosen values))
  unfolding chosen
  chosen_apart [] apart = apart
  chosen_apart (v ∷ values) apart =
      apart_cons v.0 (wish v) (chosen values) (keys_kept (λ other. is_text v.0 other ≡ false) values (IsDistinct-head is_text v.0 (keys_of values) apart)) (chosen_apart values (IsDistinct-tail is_text v.0 (keys_of values) apart))

  lined_cons : (symbol : List ℕ) (o : Option WishValue) (ws : List Pair) → is_symbol symbol ≡ true → ((value : WishValue) → o ≡ Some value → HasLine value) → All IsLined ws → All IsLined (cons_option (option_map (λ value. (symbol, value)) o) ws)
  lined_cons symbol None ws name line lined = lined
  lined_cons symbol (Some value) ws name line lined = All-cons IsLined (symbol, value) ws (name, line value refl) lined

  chosen_lined : (values : Table) → ((v : List ℕ × Valued) (value : WishValue) → IsOnLine v.1.kind v.1.text → wish v ≡ Some value → HasLine value) → AreReadable values → All IsLined (chosen values)
  unfolding chosen
  chosen_lined [] line readable = All-nil IsLined
  chosen_lined (v ∷ values) line readable =
      let one = All-head (λ (v : List ℕ × Valued). (is_symbol v.0 ≡ true) × IsOnLine v.1.kind v.1.text) v values readable in
      lined_cons v.0 (wish v) (chosen values) one.0 (λ value e. line v value one.1 e) (chosen_lined values line (All-tail (λ (v : List ℕ × Valued). (is_symbol v.0 ≡ true) × IsOnLine v.1.kind v.1.text) v values readable))

pub written_is_read : (entries : List KcEntry) (values : Table) → IsTable values → AreReadable values → IsReading (config_text entries values) (numbered 1 (written entries values))
unfolding config_text written chosen
written_is_read entries values table readable =
    let wish : List ℕ × Valued → Option WishValue = λ v. wish_for (is_visible entries v.0 values) v.1 in
    lined_reading (config_text entries values) (written entries values) refl
    (chosen_lined wish values (λ v value fit e. wish_line v.1.kind (is_visible entries v.0 values) v.1.text value fit e) readable)
    (chosen_apart wish values table.distinct)
