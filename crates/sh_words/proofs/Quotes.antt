-- Texts in quotes are read as the grammar has them.
use Rattle.std.proofs.Common.{◌≡◌, ℕ, ◌+◌, true, false, List, [], ◌∷◌, ◌++◌, length, Ok, Err, refl, sym, ap, ◌∙◌, subst, append_assoc, append-nil, arith, ⊎_elim}
use Rattle.std.specs.Prelude.{◌==◌, ◌||◌, IsTrue}
use Rattle.std.proofs.lemmas.Bool.{false≢true, cond_both, eqb-true, and_from, and_parts, or_parts, or_cases, not_from_false, not-true}
use Rattle.sh_words.specs.declared.fault.WordFault.TheVariants.{OpenQuote, Unsupported, Memory}
use Rattle.sh_words.specs.Left.{Left, left, Reading}
use Rattle.sh_words.specs.Bytes.{behind_backslash, is_bare, is_taken}
use Rattle.sh_words.specs.Pieces.{single, double}
use Rattle.sh_words.specs.Grammar.{IsQuoted, has_no_quote}
use Rattle.sh_words.specs.Faults.{IsUnclosed}

-- the same answer, by its parts
pub same_ok : (word other : List ℕ) (place elsewhere : ℕ) (rest : List ℕ) → word ≡ other → place ≡ elsewhere →
    let here : Reading (List ℕ) = Ok (word, left place rest) in here ≡ Ok (other, left elsewhere rest)
same_ok word other place elsewhere rest e f = rw (e, f) refl

-- 1. `'`.

-- what is read after a `'`
pub record EndsSingle (word : List ℕ) (place : ℕ) (text after : List ℕ) (behind : Left) : Type 0 where
  pub quoted : List ℕ
  pub free : IsTrue (has_no_quote quoted)
  pub cut : text ≡ quoted ++ 39 ∷ behind.text
  pub bytes : after ≡ word ++ quoted
  pub at : behind.place ≡ place + length quoted + 1

abbrev pub SoundSingle : List ℕ → ℕ → List ℕ → Reading (List ℕ) → Type 0
SoundSingle word place text (Ok (after, behind)) = EndsSingle word place text after behind
SoundSingle word place text (Err why) = (why ≡ OpenQuote) × IsTrue (has_no_quote text)

single_more : (byte : ℕ) (text word : List ℕ) (place : ℕ) → (byte == 39) ≡ false → (r : Reading (List ℕ)) → SoundSingle (word ++ byte ∷ []) (place + 1) text r → SoundSingle word place (byte ∷ text) r
single_more byte text word place isnt (Ok (after, behind)) s = record {
  quoted = byte ∷ s.quoted;
  free = and_from _ _ (not_from_false _ isnt) s.free;
  cut = ap (λ t. byte ∷ t) s.cut;
  bytes = s.bytes ∙ append_assoc word (byte ∷ []) s.quoted;
  at = omega (arith, s.at);
}
single_more byte text word place isnt (Err why) s = (s.0, and_from _ _ (not_from_false _ isnt) s.1)

pub single_sound : (text word : List ℕ) (place : ℕ) → SoundSingle word place text (single word place text)
single_sound [] word place = (refl, refl)
single_sound (byte ∷ text) word place =
    cond_both (byte == 39) (Ok (word, left (place + 1) text)) (single (word ++ byte ∷ []) (place + 1) text) (SoundSingle word place (byte ∷ text))
    (λ is. record { quoted = []; free = refl; cut = ap (λ b. b ∷ text) (eqb-true byte 39 is); bytes = sym (append-nil word); at = omega arith })
    (λ isnt. single_more byte text word place isnt (single (word ++ byte ∷ []) (place + 1) text) (single_sound text (word ++ byte ∷ []) (place + 1)))

single_goes : (byte : ℕ) (text word : List ℕ) (place : ℕ) → (byte == 39) ≡ false → single word place (byte ∷ text) ≡ single (word ++ byte ∷ []) (place + 1) text
single_goes byte text word place isnt = rw isnt refl

-- a text without `'` is read up to the next one
pub single_runs : (quoted rest word : List ℕ) (place : ℕ) → IsTrue (has_no_quote quoted) → single word place (quoted ++ 39 ∷ rest) ≡ Ok (word ++ quoted, left (place + length quoted + 1) rest)
single_runs [] rest word place free = same_ok word (word ++ []) (place + 1) (place + 0 + 1) rest (sym (append-nil word)) (omega arith)
single_runs (byte ∷ quoted) rest word place free =
    let p = and_parts _ _ free in
    single_goes byte (quoted ++ 39 ∷ rest) word place (not-true _ p.0)
    ∙ (single_runs quoted rest (word ++ byte ∷ []) (place + 1) p.1
    ∙ same_ok ((word ++ byte ∷ []) ++ quoted) (word ++ byte ∷ quoted) (place + 1 + length quoted + 1) (place + length (byte ∷ quoted) + 1) rest (append_assoc word (byte ∷ []) quoted) (omega arith))

-- and never closes without one
pub single_open : (text word : List ℕ) (place : ℕ) → IsTrue (has_no_quote text) → single word place text ≡ Err OpenQuote
single_open [] word place free = refl
single_open (byte ∷ text) word place free =
    let p = and_parts _ _ free in
    single_goes byte text word place (not-true _ p.0) ∙ single_open text (word ++ byte ∷ []) (place + 1) p.1

-- 2. `"`.

pub record EndsDouble (word : List ℕ) (place : ℕ) (text after : List ℕ) (behind : Left) : Type 0 where
  pub written : List ℕ
  pub quoted : List ℕ
  pub is : IsQuoted written quoted
  pub cut : text ≡ written ++ 34 ∷ behind.text
  pub bytes : after ≡ word ++ quoted
  pub at : behind.place ≡ place + length written + 1

pub record StopsDouble (place : ℕ) (text : List ℕ) (byte where' : ℕ) : Type 0 where
  pub written : List ℕ
  pub quoted : List ℕ
  pub rest : List ℕ
  pub is : IsQuoted written quoted
  pub cut : text ≡ written ++ byte ∷ rest
  pub bare : IsTrue (is_bare byte)
  pub at : where' ≡ place + length written

abbrev pub SoundDouble : List ℕ → ℕ → List ℕ → Reading (List ℕ) → Type 0
SoundDouble word place text (Ok (after, behind)) = EndsDouble word place text after behind
SoundDouble word place text (Err OpenQuote) = IsUnclosed text
SoundDouble word place text (Err (Unsupported byte where')) = StopsDouble place text byte where'
SoundDouble word place text (Err Memory) = ⊥

unclosed_plain : (byte : ℕ) (text : List ℕ) → is_taken byte ≡ false → IsUnclosed text → IsUnclosed (byte ∷ text)
unclosed_plain byte text plain (IsUnclosed.whole w t q) = IsUnclosed.whole (byte ∷ w) (byte ∷ t) (IsQuoted.plain byte w t plain q)
unclosed_plain byte text plain (IsUnclosed.backslash w t q) = IsUnclosed.backslash (byte ∷ w) (byte ∷ t) (IsQuoted.plain byte w t plain q)

unclosed_backslash : (byte : ℕ) (text : List ℕ) → IsUnclosed text → IsUnclosed (92 ∷ byte ∷ text)
unclosed_backslash byte text (IsUnclosed.whole w t q) = IsUnclosed.whole (92 ∷ byte ∷ w) (behind_backslash byte ++ t) (IsQuoted.backslash byte w t q)
unclosed_backslash byte text (IsUnclosed.backslash w t q) = IsUnclosed.backslash (92 ∷ byte ∷ w) (behind_backslash byte ++ t) (IsQuoted.backslash byte w t q)

double_plain : (byte : ℕ) (text word : List ℕ) (place : ℕ) → is_taken byte ≡ false → (r : Reading (List ℕ)) → SoundDouble (word ++ byte ∷ []) (place + 1) text r → SoundDouble word place (byte ∷ text) r
double_plain byte text word place plain (Ok (after, behind)) s = record {
  written = byte ∷ s.written;
  quoted = byte ∷ s.quoted;
  is = IsQuoted.plain byte s.written s.quoted plain s.is;
  cut = ap (λ t. byte ∷ t) s.cut;
  bytes = s.bytes ∙ append_assoc word (byte ∷ []) s.quoted;
  at = omega (arith, s.at);
}
double_plain byte text word place plain (Err OpenQuote) s = unclosed_plain byte text plain s
double_plain byte text word place plain (Err (Unsupported other where')) s = record {
  written = byte ∷ s.written;
  quoted = byte ∷ s.quoted;
  rest = s.rest;
  is = IsQuoted.plain byte s.written s.quoted plain s.is;
  cut = ap (λ t. byte ∷ t) s.cut;
  bare = s.bare;
  at = omega (arith, s.at);
}
double_plain byte text word place plain (Err Memory) s = s

double_backslash : (byte : ℕ) (text word : List ℕ) (place : ℕ) → (r : Reading (List ℕ)) → SoundDouble (word ++ behind_backslash byte) (place + 1 + 1) text r → SoundDouble word place (92 ∷ byte ∷ text) r
double_backslash byte text word place (Ok (after, behind)) s = record {
  written = 92 ∷ byte ∷ s.written;
  quoted = behind_backslash byte ++ s.quoted;
  is = IsQuoted.backslash byte s.written s.quoted s.is;
  cut = ap (λ t. 92 ∷ byte ∷ t) s.cut;
  bytes = s.bytes ∙ append_assoc word (behind_backslash byte) s.quoted;
  at = omega (arith, s.at);
}
double_backslash byte text word place (Err OpenQuote) s = unclosed_backslash byte text s
double_backslash byte text word place (Err (Unsupported other where')) s = record {
  written = 92 ∷ byte ∷ s.written;
  quoted = behind_backslash byte ++ s.quoted;
  rest = s.rest;
  is = IsQuoted.backslash byte s.written s.quoted s.is;
  cut = ap (λ t. 92 ∷ byte ∷ t) s.cut;
  bare = s.bare;
  at = omega (arith, s.at);
}
double_backslash byte text word place (Err Memory) s = s

-- a byte that is no quote, no backslash and not bare isn't taken
not_taken : (byte : ℕ) → (byte == 34) ≡ false → (byte == 92) ≡ false → is_bare byte ≡ false → is_taken byte ≡ false
not_taken byte quote slash bare = rw (quote, slash) bare

-- a byte of a text in `"`, by what the text is after it and, for a backslash, after the next byte
double_byte : (byte : ℕ) (text word : List ℕ) (place : ℕ) → SoundDouble word place (92 ∷ text) (double true word (place + 1) text) →
    SoundDouble (word ++ byte ∷ []) (place + 1) text (double false (word ++ byte ∷ []) (place + 1) text) → SoundDouble word place (byte ∷ text) (double false word place (byte ∷ text))
double_byte byte text word place slashed more =
    cond_both (byte == 34) (Ok (word, left (place + 1) text)) _ (SoundDouble word place (byte ∷ text))
    (λ is. record { written = []; quoted = []; is = IsQuoted.nothing; cut = ap (λ b. b ∷ text) (eqb-true byte 34 is); bytes = sym (append-nil word); at = omega arith })
    (λ quote. cond_both (byte == 92) (double true word (place + 1) text) _ (SoundDouble word place (byte ∷ text))
    (λ is. subst (λ b. SoundDouble word place (b ∷ text) (double true word (place + 1) text)) (sym (eqb-true byte 92 is)) slashed)
    (λ slash. cond_both (is_bare byte) (Err (Unsupported byte place)) _ (SoundDouble word place (byte ∷ text))
    (λ bare. record { written = []; quoted = []; rest = text; is = IsQuoted.nothing; cut = refl; bare = bare; at = omega arith })
    (λ isnt. double_plain byte text word place (not_taken byte quote slash isnt) _ more)))

pub double_sound : (text word : List ℕ) (place : ℕ) → SoundDouble word place text (double false word place text)
double_sound [] word place = IsUnclosed.whole [] [] IsQuoted.nothing
double_sound (byte ∷ []) word place = double_byte byte [] word place (IsUnclosed.backslash [] [] IsQuoted.nothing) (double_sound [] (word ++ byte ∷ []) (place + 1))
double_sound (byte ∷ next ∷ text) word place =
    double_byte byte (next ∷ text) word place
    (double_backslash next text word place _ (double_sound text (word ++ behind_backslash next) (place + 1 + 1)))
    (double_sound (next ∷ text) (word ++ byte ∷ []) (place + 1))

-- a byte that isn't taken is no quote, no backslash and not bare
taken_parts : (byte : ℕ) → is_taken byte ≡ false → ((byte == 34) ≡ false) × ((byte == 92) ≡ false) × (is_bare byte ≡ false)
taken_parts byte plain =
    let p = or_parts (byte == 34) ((byte == 92) || is_bare byte) plain in
    let q = or_parts (byte == 92) (is_bare byte) p.1 in
    (p.0, q.0, q.1)

double_goes : (byte : ℕ) (text word : List ℕ) (place : ℕ) → is_taken byte ≡ false → double false word place (byte ∷ text) ≡ double false (word ++ byte ∷ []) (place + 1) text
double_goes byte text word place plain = let p = taken_parts byte plain in rw (p.0, p.1, p.2) refl

-- what is written between quotes is read
pub double_runs : (written quoted rest word : List ℕ) (place : ℕ) → IsQuoted written quoted → double false word place (written ++ rest) ≡ double false (word ++ quoted) (place + length written) rest
double_runs written quoted rest word place IsQuoted.nothing =
    let e : place ≡ place + 0 = omega arith in
    ap (λ w. double false w place rest) (sym (append-nil word)) ∙ ap (λ p. double false (word ++ []) p rest) e
double_runs written quoted rest word place (IsQuoted.plain byte w t plain more) =
    let e : place + 1 + length w ≡ place + length (byte ∷ w) = omega arith in
    double_goes byte (w ++ rest) word place plain
    ∙ (double_runs w t rest (word ++ byte ∷ []) (place + 1) more
    ∙ (ap (λ x. double false x (place + 1 + length w) rest) (append_assoc word (byte ∷ []) t) ∙ ap (λ p. double false (word ++ byte ∷ t) p rest) e))
double_runs written quoted rest word place (IsQuoted.backslash byte w t more) =
    let e : place + 1 + 1 + length w ≡ place + length (92 ∷ byte ∷ w) = omega arith in
    double_runs w t rest (word ++ behind_backslash byte) (place + 1 + 1) more
    ∙ (ap (λ x. double false x (place + 1 + 1 + length w) rest) (append_assoc word (behind_backslash byte) t) ∙ ap (λ p. double false (word ++ (behind_backslash byte ++ t)) p rest) e)

-- one that isn't closed never closes
pub double_open : (written word : List ℕ) (place : ℕ) → IsUnclosed written → double false word place written ≡ Err OpenQuote
double_open written word place (IsUnclosed.whole w t q) = ap (double false word place) (sym (append-nil w)) ∙ double_runs w t [] word place q
double_open written word place (IsUnclosed.backslash w t q) = double_runs w t (92 ∷ []) word place q

-- a bare byte is at fault
pub double_bare : (byte : ℕ) (rest word : List ℕ) (place : ℕ) → IsTrue (is_bare byte) → double false word place (byte ∷ rest) ≡ Err (Unsupported byte place)
double_bare byte rest word place bare =
    ⊎_elim (λ e. rw (eqb-true byte 36 e) refl) (λ two. ⊎_elim (λ e. rw (eqb-true byte 96 e) refl) (λ none. absurd (false≢true none)) (or_cases _ _ two)) (or_cases _ _ bare)
