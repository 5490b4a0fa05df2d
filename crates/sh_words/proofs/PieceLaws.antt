-- Pieces are read as the grammar has them.
use Rattle.std.proofs.Common.{◌≡◌, ℕ, ◌+◌, ◌<◌, Bool, true, false, List, [], ◌∷◌, ◌++◌, length, Ok, Err, refl, sym, ap, ◌∙◌, subst, append_assoc, length-append, arith, ⊎_elim}
use Rattle.std.specs.Prelude.{◌==◌, ◌||◌, not, IsTrue, codes}
use Rattle.std.specs.List.{list_any, list_all}
use Rattle.std.proofs.lemmas.Bool.{true≢false, false≢true, cond_both, eqb-true, or_parts, or_from, or_cases, and_parts, not_from_false, not-true}
use Rattle.br_path.specs.Text.{is_blank, is_digit}
use Rattle.sh_words.specs.declared.fault.WordFault.{WordFault}
use Rattle.sh_words.specs.declared.fault.WordFault.TheVariants.{OpenQuote, Unsupported, Memory}
use Rattle.sh_words.specs.Left.{Left, left, Reading}
use Rattle.sh_words.specs.Bytes.{ends_word, is_unsupported}
use Rattle.sh_words.specs.Pieces.{single, double, escaped, piece_at}
use Rattle.sh_words.specs.Words.{piece_in, piece}
use Rattle.sh_words.specs.Grammar.{IsPiece, is_plain}
use Rattle.sh_words.specs.Faults.{IsBarrier}
use Rattle.sh_words.proofs.Repeats.{Shrinks}
use Rattle.sh_words.proofs.Quotes.{same_ok, SoundSingle, single_sound, single_runs, single_open, SoundDouble, double_sound, double_runs, double_open, double_bare}

-- what is read of a text that begins with a piece
pub record EndsPiece (word : List ℕ) (place : ℕ) (text after : List ℕ) (behind : Left) : Type 0 where
  pub written : List ℕ
  pub piece : List ℕ
  pub is : IsPiece written piece
  pub cut : text ≡ written ++ behind.text
  pub bytes : after ≡ word ++ piece
  pub at : behind.place ≡ place + length written

abbrev pub SoundPiece : List ℕ → ℕ → List ℕ → Reading (List ℕ) → Type 0
SoundPiece word place text (Ok (after, behind)) = EndsPiece word place text after behind
SoundPiece word place text (Err why) = IsBarrier place text why

from_single : (text word : List ℕ) (place : ℕ) (r : Reading (List ℕ)) → SoundSingle word (place + 1) text r → SoundPiece word place (39 ∷ text) r
from_single text word place (Ok (after, behind)) s =
    let n : length (s.quoted ++ 39 ∷ []) ≡ length s.quoted + 1 = length-append s.quoted (39 ∷ []) in
    record {
      written = 39 ∷ (s.quoted ++ 39 ∷ []);
      piece = s.quoted;
      is = IsPiece.single s.quoted s.free;
      cut = ap (λ t. 39 ∷ t) (s.cut ∙ sym (append_assoc s.quoted (39 ∷ []) behind.text));
      bytes = s.bytes;
      at = omega (arith, s.at, n);
    }
from_single text word place (Err why) s = subst (IsBarrier place (39 ∷ text)) (sym s.0) (IsBarrier.single text s.1)

from_double : (text word : List ℕ) (place : ℕ) (r : Reading (List ℕ)) → SoundDouble word (place + 1) text r → SoundPiece word place (34 ∷ text) r
from_double text word place (Ok (after, behind)) s =
    let n : length (s.written ++ 34 ∷ []) ≡ length s.written + 1 = length-append s.written (34 ∷ []) in
    record {
      written = 34 ∷ (s.written ++ 34 ∷ []);
      piece = s.quoted;
      is = IsPiece.double s.written s.quoted s.is;
      cut = ap (λ t. 34 ∷ t) (s.cut ∙ sym (append_assoc s.written (34 ∷ []) behind.text));
      bytes = s.bytes;
      at = omega (arith, s.at, n);
    }
from_double text word place (Err OpenQuote) s = IsBarrier.double text s
from_double text word place (Err (Unsupported byte where')) s =
    subst (λ t. IsBarrier place (34 ∷ t) (Unsupported byte where')) (sym s.cut)
    (subst (λ p. IsBarrier place (34 ∷ (s.written ++ byte ∷ s.rest)) (Unsupported byte p)) (sym s.at) (IsBarrier.bare byte s.written s.quoted s.rest s.bare s.is))
from_double text word place (Err Memory) s = absurd s

from_escaped : (text word : List ℕ) (place : ℕ) → SoundPiece word place (92 ∷ text) (escaped word place text)
from_escaped [] word place = IsBarrier.backslash
from_escaped (byte ∷ text) word place = record { written = 92 ∷ byte ∷ []; piece = byte ∷ []; is = IsPiece.escaped byte; cut = refl; bytes = refl; at = refl }

-- a byte that is nothing else is plain
pub plain_byte : (byte : ℕ) → (is_blank byte || byte == 62) ≡ false → (byte == 39) ≡ false → (byte == 34) ≡ false → (byte == 92) ≡ false → is_unsupported byte ≡ false → IsTrue (is_plain byte)
plain_byte byte ends quote double slash un = not_from_false _ (or_from _ _ (or_from _ _ (or_from _ _ (or_from _ _ ends quote) double) slash) un)

pub piece_sound : (byte : ℕ) (text word : List ℕ) (place : ℕ) → ends_word (byte ∷ text) ≡ false → SoundPiece word place (byte ∷ text) (piece_at word place byte text)
piece_sound byte text word place inside =
    cond_both (byte == 39) (single word (place + 1) text) _ (SoundPiece word place (byte ∷ text))
    (λ is. subst (λ b. SoundPiece word place (b ∷ text) (single word (place + 1) text)) (sym (eqb-true byte 39 is)) (from_single text word place _ (single_sound text word (place + 1))))
    (λ quote. cond_both (byte == 34) (double false word (place + 1) text) _ (SoundPiece word place (byte ∷ text))
    (λ is. subst (λ b. SoundPiece word place (b ∷ text) (double false word (place + 1) text)) (sym (eqb-true byte 34 is)) (from_double text word place _ (double_sound text word (place + 1))))
    (λ double. cond_both (byte == 92) (escaped word place text) _ (SoundPiece word place (byte ∷ text))
    (λ is. subst (λ b. SoundPiece word place (b ∷ text) (escaped word place text)) (sym (eqb-true byte 92 is)) (from_escaped text word place))
    (λ slash. cond_both (is_unsupported byte) (Err (Unsupported byte place)) _ (SoundPiece word place (byte ∷ text))
    (λ un. IsBarrier.unsupported byte text un)
    (λ un. record { written = byte ∷ []; piece = byte ∷ []; is = IsPiece.plain byte (plain_byte byte inside quote double slash un); cut = refl; bytes = refl; at = refl }))))

-- a plain byte is nothing else
pub record IsPlainByte (byte : ℕ) : Type 0 where
  pub inside : (is_blank byte || byte == 62) ≡ false
  pub quote : (byte == 39) ≡ false
  pub double : (byte == 34) ≡ false
  pub slash : (byte == 92) ≡ false
  pub supported : is_unsupported byte ≡ false

pub plain_parts : (byte : ℕ) → IsTrue (is_plain byte) → IsPlainByte byte
plain_parts byte plain =
    let a = or_parts (is_blank byte || byte == 62 || byte == 39 || byte == 34 || byte == 92) (is_unsupported byte) (not-true _ plain) in
    let b = or_parts (is_blank byte || byte == 62 || byte == 39 || byte == 34) (byte == 92) a.0 in
    let c = or_parts (is_blank byte || byte == 62 || byte == 39) (byte == 34) b.0 in
    let d = or_parts (is_blank byte || byte == 62) (byte == 39) c.0 in
    record { inside = d.0; quote = d.1; double = c.1; slash = b.1; supported = a.1 }

plain_runs : (byte : ℕ) (rest word : List ℕ) (place : ℕ) → IsPlainByte byte → piece_at word place byte rest ≡ Ok (word ++ byte ∷ [], left (place + 1) rest)
plain_runs byte rest word place is = rw (is.quote, is.double, is.slash, is.supported) refl

-- a piece that is written at the front of a text is read
pub piece_runs : (written piece rest word : List ℕ) (place : ℕ) → IsPiece written piece → piece_in word place (written ++ rest) ≡ Ok (word ++ piece, left (place + length written) rest)
piece_runs written piece rest word place (IsPiece.plain byte plain) = plain_runs byte rest word place (plain_parts byte plain)
piece_runs written piece rest word place (IsPiece.escaped byte) = refl
piece_runs written piece rest word place (IsPiece.single text free) =
    let n : length (text ++ 39 ∷ []) ≡ length text + 1 = length-append text (39 ∷ []) in
    ap (single word (place + 1)) (append_assoc text (39 ∷ []) rest)
    ∙ (single_runs text rest word (place + 1) free
    ∙ same_ok (word ++ text) (word ++ text) (place + 1 + length text + 1) (place + length (39 ∷ (text ++ 39 ∷ []))) rest refl (omega (arith, n)))
piece_runs written piece rest word place (IsPiece.double w t is) =
    let n : length (w ++ 34 ∷ []) ≡ length w + 1 = length-append w (34 ∷ []) in
    ap (double false word (place + 1)) (append_assoc w (34 ∷ []) rest)
    ∙ (double_runs w t (34 ∷ rest) word (place + 1) is
    ∙ same_ok (word ++ t) (word ++ t) (place + 1 + length w + 1) (place + length (34 ∷ (w ++ 34 ∷ []))) rest refl (omega (arith, n)))

-- what holds of each of some bytes holds of one of them
passes : (test : ℕ → Bool) (bytes : List ℕ) (byte : ℕ) → list_any (λ other. byte == other) bytes ≡ true → list_all test bytes ≡ true → test byte ≡ true
passes test [] byte is all = absurd (false≢true is)
passes test (other ∷ bytes) byte is all =
    let p = and_parts (test other) (list_all test bytes) all in
    ⊎_elim (λ e. ap test (eqb-true byte other e) ∙ p.0) (λ more. passes test bytes byte more p.1) (or_cases (byte == other) (list_any (λ o. byte == o) bytes) is)

-- a byte that isn't supported is nothing else
pub record IsOddByte (byte : ℕ) : Type 0 where
  pub inside : (is_blank byte || byte == 62) ≡ false
  pub quote : (byte == 39) ≡ false
  pub double : (byte == 34) ≡ false
  pub slash : (byte == 92) ≡ false
  pub digit : is_digit byte ≡ false

pub unsupported_byte : (byte : ℕ) → IsTrue (is_unsupported byte) → IsOddByte byte
unsupported_byte byte is =
    let none = passes (λ b. not (is_blank b || b == 62 || b == 39 || b == 34 || b == 92 || is_digit b)) (codes "$`|&;<()*?[") byte is refl in
    let a = or_parts (is_blank byte || byte == 62 || byte == 39 || byte == 34 || byte == 92) (is_digit byte) (not-true _ none) in
    let b = or_parts (is_blank byte || byte == 62 || byte == 39 || byte == 34) (byte == 92) a.0 in
    let c = or_parts (is_blank byte || byte == 62 || byte == 39) (byte == 34) b.0 in
    let d = or_parts (is_blank byte || byte == 62) (byte == 39) c.0 in
    record { inside = d.0; quote = d.1; double = c.1; slash = b.1; digit = a.1 }

-- where no piece can stand, none is read
pub barrier_fails : (rest word : List ℕ) (place : ℕ) (why : WordFault) → IsBarrier place rest why → piece_in word place rest ≡ Err why
barrier_fails rest word place why (IsBarrier.unsupported byte behind is) = let p = unsupported_byte byte is in rw (p.quote, p.double, p.slash, is) refl
barrier_fails rest word place why IsBarrier.backslash = refl
barrier_fails rest word place why (IsBarrier.single text free) = single_open text word (place + 1) free
barrier_fails rest word place why (IsBarrier.double written unclosed) = double_open written word (place + 1) unclosed
barrier_fails rest word place why (IsBarrier.bare byte written text behind bare is) =
    double_runs written text (byte ∷ behind) word (place + 1) is ∙ double_bare byte behind (word ++ text) (place + 1 + length written) bare

pub barrier_inside : (place : ℕ) (rest : List ℕ) (why : WordFault) → IsBarrier place rest why → ends_word rest ≡ false
barrier_inside place rest why (IsBarrier.unsupported byte behind is) = (unsupported_byte byte is).inside
barrier_inside place rest why IsBarrier.backslash = refl
barrier_inside place rest why (IsBarrier.single text free) = refl
barrier_inside place rest why (IsBarrier.double written unclosed) = refl
barrier_inside place rest why (IsBarrier.bare byte written text behind bare is) = refl

pub piece_inside : (written piece rest : List ℕ) → IsPiece written piece → ends_word (written ++ rest) ≡ false
piece_inside written piece rest (IsPiece.plain byte plain) = (plain_parts byte plain).inside
piece_inside written piece rest (IsPiece.escaped byte) = refl
piece_inside written piece rest (IsPiece.single text free) = refl
piece_inside written piece rest (IsPiece.double w t is) = refl

-- a piece takes a byte at least
piece_filled : (written piece : List ℕ) → IsPiece written piece → 0 < length written
piece_filled written piece (IsPiece.plain byte plain) = omega arith
piece_filled written piece (IsPiece.escaped byte) = omega arith
piece_filled written piece (IsPiece.single text free) = omega arith
piece_filled written piece (IsPiece.double w t is) = omega arith

piece_shrinks : (word after text : List ℕ) (place : ℕ) (behind : Left) → ends_word text ≡ false → piece_in word place text ≡ Ok (after, behind) → length behind.text < length text
piece_shrinks word after [] place behind isnt e = absurd (true≢false isnt)
piece_shrinks word after (byte ∷ text) place behind isnt e =
    let s : EndsPiece word place (byte ∷ text) after behind = subst (SoundPiece word place (byte ∷ text)) e (piece_sound byte text word place isnt) in
    let n : length (byte ∷ text) ≡ length s.written + length behind.text = ap length s.cut ∙ length-append s.written behind.text in
    omega (arith, n, piece_filled s.written s.piece s.is)

pub word_shrinks : Shrinks ends_word piece
word_shrinks = record { at_end = refl; shrinks = λ word after rest behind isnt e. piece_shrinks word after rest.text rest.place behind isnt e }
