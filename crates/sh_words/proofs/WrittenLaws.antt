-- What is written is read back.
use Rattle.std.proofs.Common.{◌≡◌, ℕ, Bool, true, false, cond, List, [], ◌∷◌, ◌++◌, Option, Some, None, Ok, refl, sym, ap, ◌∙◌, subst, append_assoc, append-nil, ⊎_elim}
use Rattle.std.specs.Prelude.{◌==◌, ◌||◌, ◌&&◌, IsTrue, All, filter, flat_map}
use Rattle.std.specs.List.{list_all, slice_split}
use Rattle.std.proofs.lemmas.Bool.{false≢true, eqb-true, or_parts, or_left, or_cases, and_parts, and_from, and_right, not_from_false}
use Rattle.std.proofs.lemmas.List.Elements.{All-nil, All-cons, All-append}
use Rattle.std.proofs.lemmas.List.Splits.{slice_split_none, slice_split_at}
use Rattle.br_path.specs.Path.{Names}
use Rattle.br_path.specs.Text.{is_blank, is_digit}
use Rattle.sh_words.specs.declared.line.Line.{Line}
use Rattle.sh_words.specs.declared.line.Redirect.{Redirect}
use Rattle.sh_words.specs.Bytes.{are_blanks, begins_operator, ends_word, is_over}
use Rattle.sh_words.specs.Lines.{line_of}
use Rattle.sh_words.specs.Grammar.{IsPiece, IsPieces, IsWord, IsOperator, IsFront, IsLine, has_no_quote, is_plain, may_begin}
use Rattle.sh_words.specs.Written.{quoted_byte, quoted, written_target, written, is_gap, is_plain_text, is_filled, between_blanks}
use Rattle.sh_words.proofs.PieceLaws.{plain_parts}
use Rattle.sh_words.proofs.LineLaws.{line_runs, text_line}
use Rattle.sh_words.proofs.Fronts.{Alike, alike_begin, front_again, front_then, blanks_front, blank_no_operator}

-- 1. Quoted words.

no_quote_push : (byte : ℕ) (text : List ℕ) → (byte == 39) ≡ false → IsTrue (has_no_quote text) → IsTrue (has_no_quote (text ++ byte ∷ []))
no_quote_push byte [] isnt free = and_from _ _ (not_from_false _ isnt) refl
no_quote_push byte (other ∷ text) isnt free = let p = and_parts _ _ free in and_from _ _ p.0 (no_quote_push byte text isnt p.1)

-- the text before a `'` in quotes, and then the rest of the word
quoted_from : (word text : List ℕ) → IsTrue (has_no_quote text) → IsPieces (39 ∷ (text ++ (flat_map quoted_byte word ++ 39 ∷ []))) (text ++ word)
quoted_from [] text free =
    subst (λ w. IsPieces w (text ++ [])) (append-nil (39 ∷ (text ++ 39 ∷ []))) (IsPieces.joined (39 ∷ (text ++ 39 ∷ [])) text [] [] (IsPiece.single text free) IsPieces.nothing)
quoted_from (byte ∷ word) text free = by (byte == 39) refl (λ t f. quoted_from word t f)
  where
    by : (t : Bool) → (byte == 39) ≡ t → ((text : List ℕ) → IsTrue (has_no_quote text) → IsPieces (39 ∷ (text ++ (flat_map quoted_byte word ++ 39 ∷ []))) (text ++ word)) →
        IsPieces (39 ∷ (text ++ ((cond t (39 ∷ 92 ∷ 39 ∷ 39 ∷ []) (byte ∷ []) ++ flat_map quoted_byte word) ++ 39 ∷ []))) (text ++ byte ∷ word)
    by true is more =
        let back : List ℕ = flat_map quoted_byte word ++ 39 ∷ [] in
        subst (λ b. IsPieces (39 ∷ (text ++ 39 ∷ 92 ∷ 39 ∷ 39 ∷ back)) (text ++ b ∷ word)) (sym (eqb-true byte 39 is))
        (subst (λ w. IsPieces (39 ∷ w) (text ++ 39 ∷ word)) (append_assoc text (39 ∷ []) (92 ∷ 39 ∷ 39 ∷ back))
        (IsPieces.joined (39 ∷ (text ++ 39 ∷ [])) text (92 ∷ 39 ∷ 39 ∷ back) (39 ∷ word) (IsPiece.single text free)
        (IsPieces.joined (92 ∷ 39 ∷ []) (39 ∷ []) (39 ∷ back) word (IsPiece.escaped 39) (more [] refl))))
    by false isnt more =
        let back : List ℕ = flat_map quoted_byte word ++ 39 ∷ [] in
        subst (λ v. IsPieces (39 ∷ (text ++ byte ∷ back)) v) (append_assoc text (byte ∷ []) word)
        (subst (λ w. IsPieces (39 ∷ w) ((text ++ byte ∷ []) ++ word)) (append_assoc text (byte ∷ []) back) (more (text ++ byte ∷ []) (no_quote_push byte text isnt free)))

quoted_word : (word behind : List ℕ) → ends_word behind ≡ true → IsWord (quoted word) word behind
quoted_word word behind ends = record { pieces = quoted_from word [] refl; begins = refl; ends = ends; no_number = refl }

gap_ends : (gap behind : List ℕ) → IsTrue (is_gap gap) → ends_word (gap ++ behind) ≡ true
gap_ends [] behind is = absurd (false≢true is)
gap_ends (byte ∷ gap) behind is = or_left _ _ (and_parts (is_blank byte) (are_blanks gap) is).0

gap_blanks : (gap : List ℕ) → IsTrue (is_gap gap) → IsTrue (are_blanks gap)
gap_blanks [] is = refl
gap_blanks (byte ∷ gap) is = is

words_front : (gap : List ℕ) (words : Names) (tail : List ℕ) (after : Option Redirect) → IsTrue (is_gap gap) → IsFront None tail [] after [] →
    IsFront None (flat_map (λ word. quoted word ++ gap) words ++ tail) words after []
words_front gap [] tail after is end = end
words_front gap (word ∷ words) tail after is end =
    let others = flat_map (λ w. quoted w ++ gap) words in
    let regroup : quoted word ++ (gap ++ (others ++ tail)) ≡ ((quoted word ++ gap) ++ others) ++ tail =
    sym (append_assoc (quoted word ++ gap) others tail ∙ append_assoc (quoted word) gap (others ++ tail)) in
    subst (λ t. IsFront None t (word ∷ words) after []) regroup
    (IsFront.word None after (quoted word) word (gap ++ (others ++ tail)) [] words (quoted_word word (gap ++ (others ++ tail)) (gap_ends gap (others ++ tail) is))
    (blanks_front gap None after (others ++ tail) [] words (gap_blanks gap is) (words_front gap words tail after is end)))

target_front : (into : Option Redirect) → IsFront None (written_target into) [] into []
target_front None = IsFront.nothing None []
target_front (Some into) = by into.append into.word
  where
    whole : (word : List ℕ) → quoted word ++ [] ≡ quoted word
    whole word = append-nil (quoted word)

    by : (append : Bool) (word : List ℕ) → IsFront None ((cond append (62 ∷ 62 ∷ []) (62 ∷ [])) ++ quoted word) [] (Some (record { append = append; word = word })) []
    by true word =
        IsFront.target (Some (record { append = true; word = word })) true (62 ∷ 62 ∷ quoted word) [] (quoted word) word [] [] []
        (subst (λ t. IsOperator true (62 ∷ 62 ∷ t) (quoted word ++ [])) (whole word) (IsOperator.two (quoted word ++ []))) refl (quoted_word word [] refl) (IsFront.nothing (Some (record { append = true; word = word })) [])
    by false word =
        IsFront.target (Some (record { append = false; word = word })) false (62 ∷ quoted word) [] (quoted word) word [] [] []
        (subst (λ t. IsOperator false (62 ∷ t) (quoted word ++ [])) (whole word) (IsOperator.one (quoted word ++ []) refl)) refl (quoted_word word [] refl) (IsFront.nothing (Some (record { append = false; word = word })) [])

-- every line is read back as it is written
pub written_reads : (gap : List ℕ) (line : Line) → IsTrue (is_gap gap) → line_of (written gap line) ≡ Ok line
written_reads gap line is =
    line_runs (written gap line) line (record { rest = []; front = words_front gap line.words (written_target line.into) line.into is (target_front line.into); over = refl })

-- 2. Blanks round a line.

pub blanks_before : (blanks text : List ℕ) (line : Line) → IsTrue (are_blanks blanks) → line_of text ≡ Ok line → line_of (blanks ++ text) ≡ Ok line
blanks_before blanks text line are e =
    let is = (text_line text line).1 e in
    line_runs (blanks ++ text) line (record { rest = is.rest; front = blanks_front blanks None line.into text is.rest line.words are is.front; over = is.over })

blanks_end : (blanks : List ℕ) → IsTrue (are_blanks blanks) → Alike [] blanks
blanks_end [] are = record { ends = λ is. is; operator = λ is. is }
blanks_end (byte ∷ blanks) are =
    let blank : is_blank byte ≡ true = (and_parts (is_blank byte) (are_blanks blanks) are).0 in
    record { ends = λ _. or_left _ _ blank; operator = λ is. absurd (false≢true (ap is_blank (sym (eqb-true byte 62 is)) ∙ blank)) }

line_before_blanks : (text blanks rest : List ℕ) (line : Line) → IsTrue (are_blanks blanks) → IsFront None text line.words line.into rest → IsTrue (is_over rest) → IsLine (text ++ blanks) line
line_before_blanks text blanks [] line are front over =
    let s = front_again None line.into text [] line.words front in
    let whole : s.head ++ blanks ≡ text ++ blanks = ap (λ t. t ++ blanks) (sym (s.cut ∙ append-nil s.head)) in
    record {
      rest = [];
      front = subst (λ w. IsFront None (text ++ blanks) w line.into []) (append-nil line.words)
          (front_then None line.into line.into (text ++ blanks) blanks [] line.words [] (subst (λ t. IsFront None t line.words line.into blanks) whole (s.again blanks (blanks_end blanks are)))
          (subst (λ t. IsFront line.into t [] line.into []) (append-nil blanks) (blanks_front blanks line.into line.into [] [] [] are (IsFront.nothing line.into []))));
      over = refl;
    }
line_before_blanks text blanks (byte ∷ rest) line are front over =
    let s = front_again None line.into text (byte ∷ rest) line.words front in
    let whole : s.head ++ (byte ∷ rest ++ blanks) ≡ text ++ blanks = sym (ap (λ t. t ++ blanks) s.cut ∙ append_assoc s.head (byte ∷ rest) blanks) in
    record { rest = byte ∷ rest ++ blanks; front = subst (λ t. IsFront None t line.words line.into (byte ∷ rest ++ blanks)) whole (s.again (byte ∷ rest ++ blanks) (alike_begin byte rest (rest ++ blanks))); over = over }

pub blanks_behind : (text blanks : List ℕ) (line : Line) → IsTrue (are_blanks blanks) → line_of text ≡ Ok line → line_of (text ++ blanks) ≡ Ok line
blanks_behind text blanks line are e =
    let is = (text_line text line).1 e in
    line_runs (text ++ blanks) line (line_before_blanks text blanks is.rest line are is.front is.over)

-- 3. Texts of plain bytes.

pub pieces_append : (a x b y : List ℕ) → IsPieces a x → IsPieces b y → IsPieces (a ++ b) (x ++ y)
pieces_append a x b y IsPieces.nothing q = q
pieces_append a x b y (IsPieces.joined w p c z is more) q =
    subst (λ t. IsPieces t ((p ++ z) ++ y)) (sym (append_assoc w c b))
    (subst (λ t. IsPieces (w ++ (c ++ b)) t) (sym (append_assoc p z y)) (IsPieces.joined w p (c ++ b) (z ++ y) is (pieces_append c z b y more q)))

-- a plain text that may be a word's front
record IsPlainWord (word : List ℕ) : Type 0 where
  pieces : IsPieces word word
  unblank : All (λ byte. is_blank byte ≡ false) word

plain_push : (word : List ℕ) (byte : ℕ) → IsPlainWord word → IsTrue (is_plain byte) → IsPlainWord (word ++ byte ∷ [])
plain_push word byte is plain = record {
  pieces = pieces_append word word (byte ∷ []) (byte ∷ []) is.pieces (IsPieces.joined (byte ∷ []) (byte ∷ []) [] [] (IsPiece.plain byte plain) IsPieces.nothing);
  unblank = All-append (λ b. is_blank b ≡ false) word (byte ∷ []) is.unblank
      (All-cons (λ b. is_blank b ≡ false) byte [] (or_parts (is_blank byte) (byte == 62) (plain_parts byte plain).inside).0 (All-nil (λ b. is_blank b ≡ false)));
}

-- a word so far may begin so, or there is none
abbrev MayBe : List ℕ → Type 0
MayBe [] = Unit {0}
MayBe (byte ∷ word) = IsTrue (may_begin (byte ∷ word))

may_push : (word : List ℕ) (byte : ℕ) → MayBe word → IsTrue (may_begin (byte ∷ [])) → MayBe (word ++ byte ∷ [])
may_push [] byte may begins = begins
may_push (b ∷ word) byte may begins = may

-- a word so far, where it ends
word_front : (word behind : List ℕ) (words : Names) → IsPlainWord word → MayBe word → ends_word behind ≡ true → begins_operator behind ≡ false → IsFront None behind words None [] →
    IsFront None (word ++ behind) (cond (is_filled word) (word ∷ words) words) None []
word_front [] behind words is may ends isnt front = front
word_front (byte ∷ word) behind words is may ends isnt front =
    IsFront.word None None (byte ∷ word) (byte ∷ word) behind [] words (record { pieces = is.pieces; begins = may; ends = ends; no_number = and_right (list_all is_digit (byte ∷ word)) (begins_operator behind) isnt }) front

plain_front : (text word : List ℕ) → IsPlainWord word → MayBe word → IsTrue (is_plain_text text) → IsFront None (word ++ text) (between_blanks (word ++ text)) None []
plain_front [] word is may plain =
    let e : slice_split is_blank (word ++ []) ≡ word ∷ [] = ap (slice_split is_blank) (append-nil word) ∙ slice_split_none is_blank word is.unblank in
    subst (λ parts. IsFront None (word ++ []) (filter is_filled parts) None []) (sym e) (word_front word [] [] is may refl refl (IsFront.nothing None []))
plain_front (byte ∷ text) word is may plain = by (is_blank byte) refl (λ w i m. plain_front text w i m (and_parts _ _ plain).1)
  where
    by : (t : Bool) → is_blank byte ≡ t → ((w : List ℕ) → IsPlainWord w → MayBe w → IsFront None (w ++ text) (between_blanks (w ++ text)) None []) →
        IsFront None (word ++ byte ∷ text) (between_blanks (word ++ byte ∷ text)) None []
    by true blank more =
        let e : slice_split is_blank (word ++ byte ∷ text) ≡ word ∷ slice_split is_blank text = slice_split_at is_blank word byte text is.unblank blank in
        subst (λ parts. IsFront None (word ++ byte ∷ text) (filter is_filled parts) None []) (sym e)
        (word_front word (byte ∷ text) (between_blanks text) is may (or_left (is_blank byte) (byte == 62) blank) (blank_no_operator byte blank)
        (IsFront.blank None None byte text [] (between_blanks text) blank (more [] (record { pieces = IsPieces.nothing; unblank = All-nil (λ b. is_blank b ≡ false) }) tt)))
    by false isnt more =
        let p : IsTrue (is_blank byte || (is_plain byte && may_begin (byte ∷ []))) = (and_parts _ _ plain).0 in
        let q : IsTrue (is_plain byte && may_begin (byte ∷ [])) =
        ⊎_elim (λ blank. absurd (false≢true (sym isnt ∙ blank))) (λ other. other) (or_cases (is_blank byte) (is_plain byte && may_begin (byte ∷ [])) p) in
        let parts = and_parts (is_plain byte) (may_begin (byte ∷ [])) q in
        subst (λ t. IsFront None t (between_blanks t) None []) (append_assoc word (byte ∷ []) text)
        (more (word ++ byte ∷ []) (plain_push word byte is parts.0) (may_push word byte may parts.1))

-- a text of plain bytes has the words between its blanks
pub plain_reads : (text : List ℕ) → IsTrue (is_plain_text text) → line_of text ≡ Ok (record { words = between_blanks text; into = None })
plain_reads text plain =
    line_runs text (record { words = between_blanks text; into = None })
    (record { rest = []; front = plain_front text [] (record { pieces = IsPieces.nothing; unblank = All-nil (λ b. is_blank b ≡ false) }) tt plain; over = refl })
