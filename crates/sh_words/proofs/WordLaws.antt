-- Words are read as the grammar has them.
use Rattle.std.proofs.Common.{◌≡◌, ℕ, ◌+◌, Bool, true, false, cond, List, [], ◌∷◌, ◌++◌, length, Option, Some, None, Ok, Err, refl, sym, ap, ◌∙◌, subst, append_assoc, append-nil, length-append, arith, inl, inr}
use Rattle.std.specs.Prelude.{◌==◌, ◌&&◌, ◌⊎◌, IsTrue}
use Rattle.std.specs.List.{list_all}
use Rattle.std.proofs.lemmas.Bool.{true≢false, false≢true, eqb-true, ne_eqb, or_parts, or_from, and_parts, and_right, not_from_false, not-true, false_from_ne_true}
use Rattle.br_path.specs.Text.{is_blank, is_digit}
use Rattle.sh_words.specs.declared.fault.WordFault.{WordFault}
use Rattle.sh_words.specs.declared.fault.WordFault.TheVariants.{Unsupported}
use Rattle.sh_words.specs.Left.{Left, left, Reading, repeated}
use Rattle.sh_words.specs.Bytes.{begins_operator, ends_word, is_over}
use Rattle.sh_words.specs.Words.{piece_in, piece, operator_behind_digits, operator_fault, begin_fault, word_unless, word_of}
use Rattle.sh_words.specs.Grammar.{IsPiece, IsPieces, IsWord, may_begin}
use Rattle.sh_words.specs.Faults.{IsBarrier, IsBroken}
use Rattle.sh_words.proofs.Repeats.{Runs, runs_repeated, repeated_step, repeated_done, repeated_fault}
use Rattle.sh_words.proofs.PieceLaws.{EndsPiece, SoundPiece, piece_sound, piece_runs, piece_inside, plain_parts, barrier_fails, barrier_inside, unsupported_byte, word_shrinks}

-- 1. Pieces one after another.

pub record EndsPieces (word : List ℕ) (rest : Left) (after : List ℕ) (behind : Left) : Type 0 where
  pub written : List ℕ
  pub pieces : List ℕ
  pub is : IsPieces written pieces
  pub cut : rest.text ≡ written ++ behind.text
  pub bytes : after ≡ word ++ pieces
  pub at : behind.place ≡ rest.place + length written
  pub ends : ends_word behind.text ≡ true

pub record StopsPieces (rest : Left) (why : WordFault) : Type 0 where
  pub written : List ℕ
  pub pieces : List ℕ
  pub back : List ℕ
  pub is : IsPieces written pieces
  pub cut : rest.text ≡ written ++ back
  pub barrier : IsBarrier (rest.place + length written) back why

abbrev pub SoundPieces : List ℕ → Left → Reading (List ℕ) → Type 0
SoundPieces word rest (Ok (after, behind)) = EndsPieces word rest after behind
SoundPieces word rest (Err why) = StopsPieces rest why

-- a piece before others
piece_more : (word after : List ℕ) (rest behind : Left) (r : Reading (List ℕ)) → EndsPiece word rest.place rest.text after behind → SoundPieces after behind r → SoundPieces word rest r
piece_more word after rest behind (Ok (final, last)) p s =
    let n : length (p.written ++ s.written) ≡ length p.written + length s.written = length-append p.written s.written in
    record {
      written = p.written ++ s.written;
      pieces = p.piece ++ s.pieces;
      is = IsPieces.joined p.written p.piece s.written s.pieces p.is s.is;
      cut = p.cut ∙ (ap (λ t. p.written ++ t) s.cut ∙ sym (append_assoc p.written s.written last.text));
      bytes = s.bytes ∙ (ap (λ w. w ++ s.pieces) p.bytes ∙ append_assoc word p.piece s.pieces);
      at = omega (arith, s.at, p.at, n);
      ends = s.ends;
    }
piece_more word after rest behind (Err why) p s =
    let n : length (p.written ++ s.written) ≡ length p.written + length s.written = length-append p.written s.written in
    let e : behind.place + length s.written ≡ rest.place + length (p.written ++ s.written) = omega (arith, p.at, n) in
    record {
      written = p.written ++ s.written;
      pieces = p.piece ++ s.pieces;
      back = s.back;
      is = IsPieces.joined p.written p.piece s.written s.pieces p.is s.is;
      cut = p.cut ∙ (ap (λ t. p.written ++ t) s.cut ∙ sym (append_assoc p.written s.written s.back));
      barrier = subst (λ place. IsBarrier place s.back why) e s.barrier;
    }

piece_in_sound : (text word : List ℕ) (place : ℕ) → ends_word text ≡ false → SoundPiece word place text (piece_in word place text)
piece_in_sound [] word place isnt = absurd (true≢false isnt)
piece_in_sound (byte ∷ text) word place isnt = piece_sound byte text word place isnt

pieces_sound : (word : List ℕ) (rest : Left) (r : Reading (List ℕ)) → Runs ends_word piece word rest r → SoundPieces word rest r
pieces_sound word rest r (Runs.ends value here is) =
    record { written = []; pieces = []; is = IsPieces.nothing; cut = refl; bytes = sym (append-nil value); at = omega arith; ends = is }
pieces_sound word rest r (Runs.fails value here why isnt e) =
    let n : here.place ≡ here.place + 0 = omega arith in
    let s : IsBarrier here.place here.text why = subst (SoundPiece value here.place here.text) e (piece_in_sound here.text value here.place isnt) in
    record { written = []; pieces = []; back = here.text; is = IsPieces.nothing; cut = refl; barrier = subst (λ place. IsBarrier place here.text why) n s }
pieces_sound word rest r (Runs.goes value after here behind result isnt e more) =
    piece_more value after here behind result (subst (SoundPiece value here.place here.text) e (piece_in_sound here.text value here.place isnt)) (pieces_sound after behind result more)

-- pieces that are written at the front of a text are read
pieces_run : (written pieces rest word : List ℕ) (place : ℕ) → IsPieces written pieces →
    repeated ends_word piece word (left place (written ++ rest)) ≡ repeated ends_word piece (word ++ pieces) (left (place + length written) rest)
pieces_run written pieces rest word place IsPieces.nothing =
    let e : place ≡ place + 0 = omega arith in
    ap (λ w. repeated ends_word piece w (left place rest)) (sym (append-nil word)) ∙ ap (λ p. repeated ends_word piece (word ++ []) (left p rest)) e
pieces_run written pieces rest word place (IsPieces.joined w p b x is more) =
    let n : length (w ++ b) ≡ length w + length b = length-append w b in
    let e : place + length w + length b ≡ place + length (w ++ b) = omega (arith, n) in
    ap (λ t. repeated ends_word piece word (left place t)) (append_assoc w b rest)
    ∙ (repeated_step ends_word piece word_shrinks word (word ++ p) (left place (w ++ (b ++ rest))) (left (place + length w) (b ++ rest)) (piece_inside w p (b ++ rest) is) (piece_runs w p (b ++ rest) word place is)
    ∙ (pieces_run b x rest (word ++ p) (place + length w) more
    ∙ (ap (λ v. repeated ends_word piece v (left (place + length w + length b) rest)) (append_assoc word p x) ∙ ap (λ q. repeated ends_word piece (word ++ (p ++ x)) (left q rest)) e)))

-- 2. Operators after digits.

pub record BehindDigits (place : ℕ) (text : List ℕ) (where' : ℕ) : Type 0 where
  pub digits : List ℕ
  pub rest : List ℕ
  pub are : IsTrue (list_all is_digit digits)
  pub cut : text ≡ digits ++ 62 ∷ rest
  pub at : where' ≡ place + length digits

abbrev pub SoundOperator : ℕ → List ℕ → Option ℕ → Type 0
SoundOperator place text (Some where') = BehindDigits place text where'
SoundOperator place text None = begins_operator text ≡ false

digit_more : (byte place : ℕ) (text : List ℕ) → (byte == 62) ≡ false → is_digit byte ≡ true → (o : Option ℕ) → SoundOperator (place + 1) text o → SoundOperator place (byte ∷ text) o
digit_more byte place text other digit (Some where') s =
    record { digits = byte ∷ s.digits; rest = s.rest; are = rw digit s.are; cut = ap (λ t. byte ∷ t) s.cut; at = omega (arith, s.at) }
digit_more byte place text other digit None s = other

operator_sound : (text : List ℕ) (place : ℕ) → SoundOperator place text (operator_behind_digits place text)
operator_sound [] place = refl
operator_sound (byte ∷ text) place = by (byte == 62) refl (is_digit byte) refl (operator_sound text (place + 1))
  where
    by : (t : Bool) → (byte == 62) ≡ t → (u : Bool) → is_digit byte ≡ u → SoundOperator (place + 1) text (operator_behind_digits (place + 1) text) →
        SoundOperator place (byte ∷ text) (cond t (Some place) (cond u (operator_behind_digits (place + 1) text) None))
    by true is u v more = record { digits = []; rest = text; are = refl; cut = ap (λ b. b ∷ text) (eqb-true byte 62 is); at = omega arith }
    by false isnt true digit more = digit_more byte place text isnt digit _ more
    by false isnt false other more = isnt

pub digit_isnt : (byte other : ℕ) → is_digit byte ≡ true → is_digit other ≡ false → (byte == other) ≡ false
digit_isnt byte other is isnt = ne_eqb byte other (λ same. true≢false (sym is ∙ (ap is_digit same ∙ isnt)))

operator_runs : (digits rest : List ℕ) (place : ℕ) → IsTrue (list_all is_digit digits) → operator_behind_digits place (digits ++ 62 ∷ rest) ≡ Some (place + length digits)
operator_runs [] rest place are = let e : place ≡ place + 0 = omega arith in ap Some e
operator_runs (digit ∷ digits) rest place are =
    let p = and_parts (is_digit digit) (list_all is_digit digits) are in
    let e : place + 1 + length digits ≡ place + length (digit ∷ digits) = omega arith in
    rw (digit_isnt digit 62 p.0 refl, p.0) (operator_runs digits rest (place + 1) p.1 ∙ ap Some e)

abbrev pub begins_digit : List ℕ → Bool
begins_digit [] = false
begins_digit (byte ∷ text) = is_digit byte

operator_none : (text : List ℕ) (place : ℕ) → begins_operator text ≡ false → begins_digit text ≡ false → operator_behind_digits place text ≡ None
operator_none [] place operator digit = refl
operator_none (byte ∷ text) place operator digit = rw (operator, digit) refl

operator_plain : (byte place : ℕ) (text : List ℕ) → (byte == 62) ≡ false → (is_digit byte ≡ true → operator_behind_digits (place + 1) text ≡ None) → operator_behind_digits place (byte ∷ text) ≡ None
operator_plain byte place text isnt more = by (is_digit byte) refl
  where
    by : (t : Bool) → is_digit byte ≡ t → operator_behind_digits place (byte ∷ text) ≡ None
    by true digit = rw (isnt, digit) (more digit)
    by false other = rw (isnt, other) refl

-- no operator stands after digits alone where a word is written before something else
no_operator : (written word behind : List ℕ) (place : ℕ) → IsPieces written word → (list_all is_digit written && begins_operator behind) ≡ false → begins_digit behind ≡ false →
    operator_behind_digits place (written ++ behind) ≡ None
no_operator written word behind place IsPieces.nothing number digit = operator_none behind place number digit
no_operator written word behind place (IsPieces.joined w p b x (IsPiece.plain byte plain) more) number digit =
    operator_plain byte place (b ++ behind) ((or_parts (is_blank byte) (byte == 62) (plain_parts byte plain).inside).1)
    (λ is. no_operator b x behind (place + 1) more (rw is at number) digit)
no_operator written word behind place (IsPieces.joined w p b x (IsPiece.escaped byte) more) number digit = refl
no_operator written word behind place (IsPieces.joined w p b x (IsPiece.single text free) more) number digit = refl
no_operator written word behind place (IsPieces.joined w p b x (IsPiece.double v t is) more) number digit = refl

-- 3. Words.

-- what is read of a text that begins with a word
pub record EndsWord (place : ℕ) (text word : List ℕ) (behind : Left) : Type 0 where
  pub written : List ℕ
  pub is : IsWord written word behind.text
  pub cut : text ≡ written ++ behind.text
  pub at : behind.place ≡ place + length written

pub record IsOperatorAt (place : ℕ) (text : List ℕ) (why : WordFault) : Type 0 where
  pub rest : List ℕ
  pub cut : text ≡ 62 ∷ rest
  pub is : why ≡ Unsupported 62 place

abbrev pub SoundWord : ℕ → List ℕ → Reading (List ℕ) → Type 0
SoundWord place text (Ok (word, behind)) = EndsWord place text word behind
SoundWord place text (Err why) = IsBroken place text why ⊎ IsOperatorAt place text why

module _ (byte : ℕ) (text : List ℕ) (place : ℕ) (blank : is_blank byte ≡ false) (comment : (byte == 35) ≡ false) where
  at_operator : (where' : ℕ) → BehindDigits place (byte ∷ text) where' → SoundWord place (byte ∷ text) (Err (Unsupported 62 where'))
  at_operator where' s = by s.digits s.are s.cut s.at
    where
      by : (digits : List ℕ) → IsTrue (list_all is_digit digits) → byte ∷ text ≡ digits ++ 62 ∷ s.rest → where' ≡ place + length digits → SoundWord place (byte ∷ text) (Err (Unsupported 62 where'))
      by [] are cut at = let e : place + 0 ≡ place = omega arith in inr (record { rest = s.rest; cut = cut; is = ap (Unsupported 62) (at ∙ e) })
      by (digit ∷ digits) are cut at =
          inl (subst (λ t. IsBroken place t (Unsupported 62 where')) (sym cut)
          (subst (λ p. IsBroken place ((digit ∷ digits) ++ 62 ∷ s.rest) (Unsupported 62 p)) (sym at) (IsBroken.number digit digits s.rest are)))

  module _ (tilde : (byte == 126) ≡ false) (none : operator_behind_digits place (byte ∷ text) ≡ None) where
    no_operator_here : (byte == 62) ≡ false
    no_operator_here = subst (SoundOperator place (byte ∷ text)) none (operator_sound (byte ∷ text) place)

    begins_here : IsTrue (may_begin (byte ∷ text))
    begins_here = not_from_false _ (or_from _ _ comment tilde)

    filled : (written : List ℕ) (behind : Left) → byte ∷ text ≡ written ++ behind.text → ends_word behind.text ≡ true → IsTrue (may_begin written)
    filled [] behind cut ends = absurd (true≢false (sym ends ∙ (ap ends_word (sym cut) ∙ or_from _ _ blank no_operator_here)))
    filled (b ∷ written) behind cut ends = let same : b ≡ byte = cc in rw same begins_here

    not_numbered : (written : List ℕ) (behind : Left) → byte ∷ text ≡ written ++ behind.text → (list_all is_digit written && begins_operator behind.text) ≡ false
    not_numbered written behind cut = false_from_ne_true _ (λ both. by behind.text cut (and_parts (list_all is_digit written) (begins_operator behind.text) both))
      where
        by : (back : List ℕ) → byte ∷ text ≡ written ++ back → (list_all is_digit written ≡ true) × (begins_operator back ≡ true) → ⊥
        by [] cut p = false≢true p.1
        by (b ∷ back) cut p =
            let some : operator_behind_digits place (byte ∷ text) ≡ Some (place + length written) =
            ap (operator_behind_digits place) (cut ∙ ap (λ c. written ++ c ∷ back) (eqb-true b 62 p.1)) ∙ operator_runs written back place p.0 in
            let clash : None ≡ Some (place + length written) = sym none ∙ some in cc

    word_from : (r : Reading (List ℕ)) → SoundPieces [] (left place (byte ∷ text)) r → SoundWord place (byte ∷ text) r
    word_from (Ok (word, behind)) s = record {
      written = s.written;
      is = record {
        pieces = subst (IsPieces s.written) (sym s.bytes) s.is;
        begins = filled s.written behind s.cut s.ends;
        ends = s.ends;
        no_number = not_numbered s.written behind s.cut;
      };
      cut = s.cut;
      at = s.at;
    }
    word_from (Err why) s =
        inl (subst (λ t. IsBroken place t why) (sym s.cut)
        (IsBroken.barred s.written s.pieces s.back why s.is (subst (λ t. IsTrue (may_begin t)) s.cut begins_here) s.barrier))

  by_operator : (byte == 126) ≡ false → (o : Option ℕ) → operator_behind_digits place (byte ∷ text) ≡ o → SoundWord place (byte ∷ text) (word_unless (operator_fault o) (left place (byte ∷ text)))
  by_operator tilde (Some where') is = at_operator where' (subst (SoundOperator place (byte ∷ text)) is (operator_sound (byte ∷ text) place))
  by_operator tilde None none =
      word_from tilde none _ (pieces_sound [] (left place (byte ∷ text)) _ (runs_repeated ends_word piece word_shrinks [] (left place (byte ∷ text))))

  by_tilde : (t : Bool) → (byte == 126) ≡ t →
      SoundWord place (byte ∷ text) (word_unless (cond t (Some (Unsupported 126 place)) (operator_fault (operator_behind_digits place (byte ∷ text)))) (left place (byte ∷ text)))
  by_tilde true is = inl (subst (λ b. IsBroken place (b ∷ text) (Unsupported 126 place)) (sym (eqb-true byte 126 is)) (IsBroken.tilde text))
  by_tilde false isnt = by_operator isnt (operator_behind_digits place (byte ∷ text)) refl

  pub word_sound : SoundWord place (byte ∷ text) (word_of (left place (byte ∷ text)))
  unfolding word_of
  word_sound = by_tilde (byte == 126) refl

pub over_no_word : (text : List ℕ) → IsTrue (may_begin text) → is_over text ≡ false
over_no_word [] begins = absurd (false≢true begins)
over_no_word (byte ∷ text) begins = (or_parts (byte == 35) (byte == 126) (not-true _ begins)).0

begin_none : (text : List ℕ) (place : ℕ) → IsTrue (may_begin text) → operator_behind_digits place text ≡ None → begin_fault place text ≡ None
begin_none [] place begins none = refl
begin_none (byte ∷ text) place begins none = let p = or_parts (byte == 35) (byte == 126) (not-true _ begins) in rw (p.1, none) refl

pub may_begin-append : (written behind : List ℕ) → IsTrue (may_begin written) → IsTrue (may_begin (written ++ behind))
may_begin-append [] behind begins = absurd (false≢true begins)
may_begin-append (byte ∷ written) behind begins = begins

-- what ends a word is no digit
ends_no_digit : (behind : List ℕ) → ends_word behind ≡ true → begins_digit behind ≡ false
ends_no_digit [] ends = refl
ends_no_digit (byte ∷ behind) ends = false_from_ne_true _ (λ is. false≢true (sym (or_from _ _ (or_from _ _ (digit_isnt byte 32 is refl) (digit_isnt byte 9 is refl)) (digit_isnt byte 62 is refl)) ∙ ends))

barrier_begins : (place : ℕ) (rest : List ℕ) (why : WordFault) → IsBarrier place rest why → (begins_operator rest ≡ false) × (begins_digit rest ≡ false)
barrier_begins place rest why (IsBarrier.unsupported byte behind is) = let p = unsupported_byte byte is in ((or_parts (is_blank byte) (byte == 62) p.inside).1, p.digit)
barrier_begins place rest why IsBarrier.backslash = (refl, refl)
barrier_begins place rest why (IsBarrier.single text free) = (refl, refl)
barrier_begins place rest why (IsBarrier.double written unclosed) = (refl, refl)
barrier_begins place rest why (IsBarrier.bare byte written text behind bare is) = (refl, refl)

-- a word that is written at the front of a text is read
pub word_runs : (written word behind : List ℕ) (place : ℕ) → IsWord written word behind → word_of (left place (written ++ behind)) ≡ Ok (word, left (place + length written) behind)
unfolding word_of
word_runs written word behind place is =
    ap (λ o. word_unless o (left place (written ++ behind)))
    (begin_none (written ++ behind) place (may_begin-append written behind is.begins) (no_operator written word behind place is.pieces is.no_number (ends_no_digit behind is.ends)))
    ∙ (pieces_run written word behind [] place is.pieces
    ∙ repeated_done ends_word piece word_shrinks word (left (place + length written) behind) is.ends)

-- and where there is none, there is a fault
pub broken_fails : (text : List ℕ) (place : ℕ) (why : WordFault) → IsBroken place text why → word_of (left place text) ≡ Err why
unfolding word_of
broken_fails text place why (IsBroken.tilde rest) = refl
broken_fails text place why (IsBroken.number digit digits rest are) =
    let p = and_parts (is_digit digit) (list_all is_digit digits) are in
    let e : begin_fault place ((digit ∷ digits) ++ 62 ∷ rest) ≡ Some (Unsupported 62 (place + length (digit ∷ digits))) =
    rw (digit_isnt digit 126 p.0 refl) (ap operator_fault (operator_runs (digit ∷ digits) rest place are)) in
    ap (λ o. word_unless o (left place ((digit ∷ digits) ++ 62 ∷ rest))) e
broken_fails text place why (IsBroken.barred written word rest fault pieces begins barrier) =
    let p = barrier_begins (place + length written) rest why barrier in
    ap (λ o. word_unless o (left place (written ++ rest)))
    (begin_none (written ++ rest) place begins (no_operator written word rest place pieces (and_right (list_all is_digit written) (begins_operator rest) p.0) p.1))
    ∙ (pieces_run written word rest [] place pieces
    ∙ repeated_fault ends_word piece word_shrinks word (left (place + length written) rest) why (barrier_inside (place + length written) rest why barrier) (barrier_fails rest word (place + length written) why barrier))

-- pieces that begin something end no word
pub pieces_inside : (written word rest : List ℕ) → IsPieces written word → IsTrue (may_begin written) → ends_word (written ++ rest) ≡ false
pieces_inside written word rest IsPieces.nothing begins = absurd (false≢true begins)
pieces_inside written word rest (IsPieces.joined w p b x is more) begins = ap ends_word (append_assoc w b rest) ∙ piece_inside w p (b ++ rest) is

-- what begins no word is no blank, no operator and no comment, and something is there
pub broken_begins : (place : ℕ) (text : List ℕ) (why : WordFault) → IsBroken place text why → (ends_word text ≡ false) × (is_over text ≡ false)
broken_begins place text why (IsBroken.tilde rest) = (refl, refl)
broken_begins place text why (IsBroken.number digit digits rest are) =
    let p = and_parts (is_digit digit) (list_all is_digit digits) are in
    (or_from _ _ (or_from _ _ (digit_isnt digit 32 p.0 refl) (digit_isnt digit 9 p.0 refl)) (digit_isnt digit 62 p.0 refl), digit_isnt digit 35 p.0 refl)
broken_begins place text why (IsBroken.barred written word rest fault pieces begins barrier) =
    (barred_inside written word rest place why pieces barrier, over_no_word (written ++ rest) begins)
  where
    barred_inside : (written word rest : List ℕ) (place : ℕ) (why : WordFault) → IsPieces written word → IsBarrier (place + length written) rest why → ends_word (written ++ rest) ≡ false
    barred_inside written word rest place why IsPieces.nothing barrier = barrier_inside (place + 0) rest why barrier
    barred_inside written word rest place why (IsPieces.joined w p b x is more) barrier = ap ends_word (append_assoc w b rest) ∙ piece_inside w p (b ++ rest) is

-- an operator is no word
pub operator_fails : (text : List ℕ) (place : ℕ) → word_of (left place (62 ∷ text)) ≡ Err (Unsupported 62 place)
unfolding word_of
operator_fails text place = refl
