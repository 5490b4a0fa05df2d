-- Where no word stands, some word begins with the bytes before the one at fault.
use Rattle.std.proofs.Common.{◌≡◌, ℕ, ◌+◌, true, false, List, [], ◌∷◌, ◌++◌, length, refl, sym, ap, ◌∙◌, subst, append_assoc, append-nil, length-append, arith, inl, inr}
use Rattle.std.specs.Prelude.{◌⊎◌, IsTrue}
use Rattle.std.specs.List.{list_all}
use Rattle.std.proofs.lemmas.Bool.{false≢true, and_parts, and_right, not_from_false, or_from, false_from_ne_true}
use Rattle.br_path.specs.Text.{is_digit}
use Rattle.sh_words.specs.declared.fault.WordFault.{WordFault}
use Rattle.sh_words.specs.declared.fault.WordFault.TheVariants.{OpenQuote, Unsupported, Memory}
use Rattle.sh_words.specs.Bytes.{behind_backslash, is_unsupported}
use Rattle.sh_words.specs.Grammar.{IsQuoted, IsPiece, IsPieces, IsWord, may_begin}
use Rattle.sh_words.specs.Faults.{IsUnclosed, IsBarrier, IsBroken}
use Rattle.sh_words.proofs.PieceLaws.{plain_byte, unsupported_byte}
use Rattle.sh_words.proofs.WordLaws.{digit_isnt}
use Rattle.sh_words.proofs.WrittenLaws.{pieces_append}

-- 1. Pieces.

-- pieces begin with these bytes
pub record GoesPieces (front : List ℕ) : Type 0 where
  pub close : List ℕ
  pub word : List ℕ
  pub is : IsPieces (front ++ close) word

quoted_append : (a x b y : List ℕ) → IsQuoted a x → IsQuoted b y → IsQuoted (a ++ b) (x ++ y)
quoted_append a x b y IsQuoted.nothing q = q
quoted_append a x b y (IsQuoted.plain byte w t plain more) q = IsQuoted.plain byte (w ++ b) (t ++ y) plain (quoted_append w t b y more q)
quoted_append a x b y (IsQuoted.backslash byte w t more) q =
    subst (IsQuoted (92 ∷ byte ∷ (w ++ b))) (sym (append_assoc (behind_backslash byte) t y)) (IsQuoted.backslash byte (w ++ b) (t ++ y) (quoted_append w t b y more q))

one_piece : (written piece : List ℕ) → IsPiece written piece → IsPieces written piece
one_piece written piece is = subst (λ w. IsPieces w piece) (append-nil written) (subst (IsPieces (written ++ [])) (append-nil piece) (IsPieces.joined written piece [] [] is IsPieces.nothing))

close_double : (written text : List ℕ) → IsQuoted written text → IsPieces ((34 ∷ written) ++ 34 ∷ []) text
close_double written text is = one_piece (34 ∷ (written ++ 34 ∷ [])) text (IsPiece.double written text is)

close_unclosed : (written : List ℕ) → IsUnclosed written → GoesPieces (34 ∷ written)
close_unclosed written (IsUnclosed.whole w t is) = record { close = 34 ∷ []; word = t; is = close_double w t is }
close_unclosed written (IsUnclosed.backslash w t is) = record {
  close = 97 ∷ 34 ∷ [];
  word = t ++ 92 ∷ 97 ∷ [];
  is = subst (λ x. IsPieces (34 ∷ x) (t ++ 92 ∷ 97 ∷ [])) (append_assoc w (92 ∷ 97 ∷ []) (34 ∷ []) ∙ sym (append_assoc w (92 ∷ []) (97 ∷ 34 ∷ [])))
      (close_double (w ++ 92 ∷ 97 ∷ []) (t ++ 92 ∷ 97 ∷ []) (quoted_append w t (92 ∷ 97 ∷ []) (92 ∷ 97 ∷ []) is (IsQuoted.backslash 97 [] [] IsQuoted.nothing)));
}

-- a byte at fault among a piece's, whatever stands after it
pub record InPiece (place : ℕ) (rest : List ℕ) (byte where' : ℕ) : Type 0 where
  pub head : List ℕ
  pub back : List ℕ
  pub cut : rest ≡ head ++ byte ∷ back
  pub at : where' ≡ place + length head
  pub again : (other : List ℕ) → IsBarrier place (head ++ byte ∷ other) (Unsupported byte where')
  pub goes : GoesPieces head

-- or a backslash at the end
pub record AtEnd (place : ℕ) (rest : List ℕ) (byte where' : ℕ) : Type 0 where
  pub slash : byte ≡ 92
  pub at : where' ≡ place
  pub cut : rest ≡ 92 ∷ []

abbrev pub FirstBarrier : ℕ → List ℕ → WordFault → Type 0
FirstBarrier place rest OpenQuote = GoesPieces rest
FirstBarrier place rest (Unsupported byte where') = InPiece place rest byte where' ⊎ AtEnd place rest byte where'
FirstBarrier place rest Memory = ⊥

first_barrier : (place : ℕ) (rest : List ℕ) (why : WordFault) → IsBarrier place rest why → FirstBarrier place rest why
first_barrier place rest why (IsBarrier.unsupported byte behind is) = inl (record {
  head = [];
  back = behind;
  cut = refl;
  at = omega arith;
  again = λ other. IsBarrier.unsupported byte other is;
  goes = record { close = []; word = []; is = IsPieces.nothing };
})
first_barrier place rest why IsBarrier.backslash = inr (record { slash = refl; at = refl; cut = refl })
first_barrier place rest why (IsBarrier.single text free) = record { close = 39 ∷ []; word = text; is = one_piece (39 ∷ (text ++ 39 ∷ [])) text (IsPiece.single text free) }
first_barrier place rest why (IsBarrier.double written unclosed) = close_unclosed written unclosed
first_barrier place rest why (IsBarrier.bare byte written text behind bare is) = inl (record {
  head = 34 ∷ written;
  back = behind;
  cut = refl;
  at = omega arith;
  again = λ other. IsBarrier.bare byte written text other bare is;
  goes = record { close = 34 ∷ []; word = text; is = close_double written text is };
})

-- 2. Words.

-- a word begins with these bytes
pub record GoesWord (front : List ℕ) : Type 0 where
  pub close : List ℕ
  pub word : List ℕ
  pub is : IsWord (front ++ close) word []

pub record InWord (place : ℕ) (text : List ℕ) (byte where' : ℕ) : Type 0 where
  pub head : List ℕ
  pub back : List ℕ
  pub cut : text ≡ head ++ byte ∷ back
  pub at : where' ≡ place + length head
  pub again : (other : List ℕ) → IsBroken place (head ++ byte ∷ other) (Unsupported byte where')
  pub goes : GoesWord head

pub record EndsInWord (place : ℕ) (text : List ℕ) (byte where' : ℕ) : Type 0 where
  pub head : List ℕ
  pub slash : byte ≡ 92
  pub cut : text ≡ head ++ 92 ∷ []
  pub at : where' ≡ place + length head
  pub goes : GoesWord text

abbrev pub FirstBroken : ℕ → List ℕ → WordFault → Type 0
FirstBroken place text OpenQuote = GoesWord text
FirstBroken place text (Unsupported byte where') = InWord place text byte where' ⊎ EndsInWord place text byte where'
FirstBroken place text Memory = ⊥

word_of_pieces : (written word : List ℕ) → IsPieces written word → IsTrue (may_begin written) → IsWord written word []
word_of_pieces written word is begins = record { pieces = is; begins = begins; ends = refl; no_number = and_right (list_all is_digit written) false refl }

-- a letter is a word
pub letter : IsWord (97 ∷ []) (97 ∷ []) []
letter = word_of_pieces (97 ∷ []) (97 ∷ []) (one_piece (97 ∷ []) (97 ∷ []) (IsPiece.plain 97 refl)) refl

-- a text begins as its front does, if that isn't empty
begins_front : (head : List ℕ) (byte : ℕ) (back other : List ℕ) → IsTrue (may_begin (head ++ byte ∷ back)) → IsTrue (may_begin (head ++ byte ∷ other))
begins_front [] byte back other begins = begins
begins_front (b ∷ head) byte back other begins = begins

goes_word : (head : List ℕ) (byte : ℕ) (back : List ℕ) → IsTrue (may_begin (head ++ byte ∷ back)) → GoesPieces head → GoesWord head
goes_word [] byte back begins goes = record { close = 97 ∷ []; word = 97 ∷ []; is = letter }
goes_word (b ∷ head) byte back begins goes = record { close = goes.close; word = goes.word; is = word_of_pieces ((b ∷ head) ++ goes.close) goes.word goes.is begins }

goes_all : (text : List ℕ) → IsTrue (may_begin text) → GoesPieces text → GoesWord text
goes_all [] begins goes = absurd (false≢true begins)
goes_all (b ∷ text) begins goes = record { close = goes.close; word = goes.word; is = word_of_pieces ((b ∷ text) ++ goes.close) goes.word goes.is begins }

pieces_go : (written word front : List ℕ) → IsPieces written word → GoesPieces front → GoesPieces (written ++ front)
pieces_go written word front is goes = record {
  close = goes.close;
  word = word ++ goes.word;
  is = subst (λ t. IsPieces t (word ++ goes.word)) (sym (append_assoc written front goes.close)) (pieces_append written word (front ++ goes.close) goes.word is goes.is);
}

barred_first : (place : ℕ) (written word rest : List ℕ) (why : WordFault) → IsPieces written word → IsTrue (may_begin (written ++ rest)) → FirstBarrier (place + length written) rest why → FirstBroken place (written ++ rest) why
barred_first place written word rest OpenQuote is begins first = goes_all (written ++ rest) begins (pieces_go written word rest is first)
barred_first place written word rest (Unsupported byte where') is begins (inl m) =
    let n : length (written ++ m.head) ≡ length written + length m.head = length-append written m.head in
    let regroup : (end : List ℕ) → written ++ (m.head ++ byte ∷ end) ≡ (written ++ m.head) ++ byte ∷ end = λ end. sym (append_assoc written m.head (byte ∷ end)) in
    let here : IsTrue (may_begin ((written ++ m.head) ++ byte ∷ m.back)) = subst (λ t. IsTrue (may_begin t)) (ap (λ t. written ++ t) m.cut ∙ regroup m.back) begins in
    inl (record {
      head = written ++ m.head;
      back = m.back;
      cut = ap (λ t. written ++ t) m.cut ∙ regroup m.back;
      at = omega (arith, m.at, n);
      again = λ other.
          subst (λ t. IsBroken place t (Unsupported byte where')) (regroup other)
          (IsBroken.barred written word (m.head ++ byte ∷ other) (Unsupported byte where') is
          (subst (λ t. IsTrue (may_begin t)) (sym (regroup other)) (begins_front (written ++ m.head) byte m.back other here)) (m.again other));
      goes = goes_word (written ++ m.head) byte m.back here (pieces_go written word m.head is m.goes);
    })
barred_first place written word rest (Unsupported byte where') is begins (inr e) =
    let goes : GoesPieces rest = subst GoesPieces (sym e.cut) (record { close = 97 ∷ []; word = 97 ∷ []; is = one_piece (92 ∷ 97 ∷ []) (97 ∷ []) (IsPiece.escaped 97) }) in
    inr (record {
      head = written;
      slash = e.slash;
      cut = ap (λ t. written ++ t) e.cut;
      at = e.at;
      goes = goes_all (written ++ rest) begins (pieces_go written word rest is goes);
    })
barred_first place written word rest Memory is begins first = first

digit_plain : (digit : ℕ) → is_digit digit ≡ true → IsPiece (digit ∷ []) (digit ∷ [])
digit_plain digit is =
    let supported : is_unsupported digit ≡ false = false_from_ne_true _ (λ un. false≢true (sym (unsupported_byte digit un).digit ∙ is)) in
    IsPiece.plain digit (plain_byte digit (or_from _ _ (or_from _ _ (digit_isnt digit 32 is refl) (digit_isnt digit 9 is refl)) (digit_isnt digit 62 is refl))
    (digit_isnt digit 39 is refl) (digit_isnt digit 34 is refl) (digit_isnt digit 92 is refl) supported)

digits_plain : (digits : List ℕ) → IsTrue (list_all is_digit digits) → IsPieces digits digits
digits_plain [] are = IsPieces.nothing
digits_plain (digit ∷ digits) are =
    let p = and_parts (is_digit digit) (list_all is_digit digits) are in IsPieces.joined (digit ∷ []) (digit ∷ []) digits digits (digit_plain digit p.0) (digits_plain digits p.1)

digit_begins : (digit : ℕ) (digits : List ℕ) → is_digit digit ≡ true → IsTrue (may_begin (digit ∷ digits))
digit_begins digit digits is = not_from_false _ (or_from _ _ (digit_isnt digit 35 is refl) (digit_isnt digit 126 is refl))

pub first_broken : (place : ℕ) (text : List ℕ) (why : WordFault) → IsBroken place text why → FirstBroken place text why
first_broken place text why (IsBroken.tilde rest) = inl (record {
  head = [];
  back = rest;
  cut = refl;
  at = omega arith;
  again = λ other. IsBroken.tilde other;
  goes = record { close = 97 ∷ []; word = 97 ∷ []; is = letter };
})
first_broken place text why (IsBroken.number digit digits rest are) = inl (record {
  head = digit ∷ digits;
  back = rest;
  cut = refl;
  at = refl;
  again = λ other. IsBroken.number digit digits other are;
  goes = record {
    close = [];
    word = digit ∷ digits;
    is = subst (λ t. IsWord t (digit ∷ digits) []) (sym (append-nil (digit ∷ digits)))
        (word_of_pieces (digit ∷ digits) (digit ∷ digits) (digits_plain (digit ∷ digits) are) (digit_begins digit digits (and_parts (is_digit digit) (list_all is_digit digits) are).0));
  };
})
first_broken place text why (IsBroken.barred written word rest fault pieces begins barrier) =
    barred_first place written word rest fault pieces begins (first_barrier (place + length written) rest fault barrier)
