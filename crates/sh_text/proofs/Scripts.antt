-- The bytes of a script, one by one.
use Rattle.std.proofs.Common.{◌≡◌, ℕ, true, false, cond, ◌==◌, List, [], ◌∷◌, ◌++◌, length, Option, Some, None, refl, ap, sym, ◌∙◌, arith, append_assoc}
use Rattle.std.proofs.lemmas.List.{append-nil}
use Rattle.std.specs.Option.{option_map, option_and_then}
use Rattle.sh_text.specs.declared.spelled.Spelled.{Spelled}
use Rattle.sh_text.specs.declared.spelled.Spelled.TheVariants.{Plain, Escaped}
use Rattle.sh_text.specs.Scripts.{Spelling, put_before, spelling_of, bytes_by, is_plain, ends_with, without_last, before_dollar}

onward : {A : Type 0} (front : List A) (first : A) (further : Option (List A)) → option_map (λ more. front ++ more) (option_map (λ more. first ∷ more) further) ≡ option_map (λ more. (front ++ first ∷ []) ++ more) further
onward front first None = refl
onward front first (Some more) = ap Some (sym (append_assoc front (first ∷ []) more))

-- 1. Spellings.

pub spelling-plain : (byte : ℕ) (rest : List ℕ) → (byte == 92) ≡ false → spelling_of (byte ∷ rest) ≡ put_before (Plain byte) (spelling_of rest)
spelling-plain byte [] is = ap (λ q. cond q None (Some (Plain byte ∷ []))) is
spelling-plain byte (next ∷ rest) is = ap (λ q. cond q (put_before (Escaped next) (spelling_of rest)) (put_before (Plain byte) (spelling_of (next ∷ rest)))) is

pub spelling-lone : (byte : ℕ) → (byte == 92) ≡ true → spelling_of (byte ∷ []) ≡ None
spelling-lone byte is = ap (λ q. cond q None (Some (Plain byte ∷ []))) is

pub spelling-escaped : (byte next : ℕ) (rest : List ℕ) → (byte == 92) ≡ true → spelling_of (byte ∷ next ∷ rest) ≡ put_before (Escaped next) (spelling_of rest)
spelling-escaped byte next rest is = ap (λ q. cond q (put_before (Escaped next) (spelling_of rest)) (put_before (Plain byte) (spelling_of (next ∷ rest)))) is

-- what was read, and what is read further
pub spelling_end : (bytes : Spelling) (rest : List ℕ) (meant : Option Spelling) → meant ≡ option_map (λ more. bytes ++ more) (spelling_of rest) → length rest ≡ 0 → Some bytes ≡ meant
spelling_end bytes [] meant is empty = sym (is ∙ ap Some (append-nil bytes))
spelling_end bytes (byte ∷ rest) meant is empty = absurd (omega arith)

pub spelling_stop : (bytes : Spelling) (byte : ℕ) (rest : List ℕ) (meant : Option Spelling) → meant ≡ option_map (λ more. bytes ++ more) (spelling_of (byte ∷ rest)) → (byte == 92) ≡ true → length rest ≡ 0 → None ≡ meant
spelling_stop bytes byte [] meant is lone empty = sym (is ∙ ap (option_map (λ more. bytes ++ more)) (spelling-lone byte lone))
spelling_stop bytes byte (next ∷ rest) meant is lone empty = absurd (omega arith)

pub spelling_plain : (bytes : Spelling) (byte : ℕ) (rest : List ℕ) (meant : Option Spelling) → meant ≡ option_map (λ more. bytes ++ more) (spelling_of (byte ∷ rest)) → (byte == 92) ≡ false
    → meant ≡ option_map (λ more. (bytes ++ Plain byte ∷ []) ++ more) (spelling_of rest)
spelling_plain bytes byte rest meant is plain = is ∙ (ap (option_map (λ more. bytes ++ more)) (spelling-plain byte rest plain) ∙ onward bytes (Plain byte) (spelling_of rest))

pub spelling_escaped : (bytes : Spelling) (byte next : ℕ) (rest : List ℕ) (meant : Option Spelling) → meant ≡ option_map (λ more. bytes ++ more) (spelling_of (byte ∷ next ∷ rest)) → (byte == 92) ≡ true
    → meant ≡ option_map (λ more. (bytes ++ Escaped next ∷ []) ++ more) (spelling_of rest)
spelling_escaped bytes byte next rest meant is escaped = is ∙ (ap (option_map (λ more. bytes ++ more)) (spelling-escaped byte next rest escaped) ∙ onward bytes (Escaped next) (spelling_of rest))

-- 2. What bytes stand for.

pub bytes_end : (read : Spelled → Option ℕ) (items : List ℕ) (rest : Spelling) (meant : Option (List ℕ)) → meant ≡ option_map (λ more. items ++ more) (bytes_by read rest) → length rest ≡ 0 → Some items ≡ meant
bytes_end read items [] meant is empty = sym (is ∙ ap Some (append-nil items))
bytes_end read items (first ∷ rest) meant is empty = absurd (omega arith)

pub bytes_stop : (read : Spelled → Option ℕ) (items : List ℕ) (first : Spelled) (rest : Spelling) (meant : Option (List ℕ)) → meant ≡ option_map (λ more. items ++ more) (bytes_by read (first ∷ rest)) → read first ≡ None → None ≡ meant
bytes_stop read items first rest meant is none = sym (is ∙ ap (λ o. option_map (λ more. items ++ more) (option_and_then (λ byte. option_map (λ bytes. byte ∷ bytes) (bytes_by read rest)) o)) none)

pub bytes_on : (read : Spelled → Option ℕ) (items : List ℕ) (first : Spelled) (rest : Spelling) (byte : ℕ) (meant : Option (List ℕ)) → meant ≡ option_map (λ more. items ++ more) (bytes_by read (first ∷ rest)) → read first ≡ Some byte
    → meant ≡ option_map (λ more. (items ++ byte ∷ []) ++ more) (bytes_by read rest)
bytes_on read items first rest byte meant is some =
    is ∙ (ap (λ o. option_map (λ more. items ++ more) (option_and_then (λ b. option_map (λ bytes. b ∷ bytes) (bytes_by read rest)) o)) some ∙ onward items byte (bytes_by read rest))

-- 3. The last of them.

pub ends_with-push : (byte : ℕ) (front : Spelling) (last : Spelled) → ends_with byte (front ++ last ∷ []) ≡ is_plain byte last
ends_with-push byte [] last = refl
ends_with-push byte (first ∷ []) last = refl
ends_with-push byte (first ∷ second ∷ more) last = ends_with-push byte (second ∷ more) last

pub without_last-push : (front : Spelling) (last : Spelled) → without_last (front ++ last ∷ []) ≡ front
without_last-push [] last = refl
without_last-push (first ∷ []) last = refl
without_last-push (first ∷ second ∷ more) last = ap (λ bytes. first ∷ bytes) (without_last-push (second ∷ more) last)

pub ends_with-empty : (byte : ℕ) (bytes : Spelling) → length bytes ≡ 0 → ends_with byte bytes ≡ false
ends_with-empty byte [] empty = refl
ends_with-empty byte (first ∷ more) empty = absurd (omega arith)

pub dollar-first : (front : Spelling) (last : Spelled) → is_plain 36 last ≡ true → before_dollar (front ++ last ∷ []) ≡ front
dollar-first front last is =
    ap (λ q. cond q (without_last (front ++ last ∷ [])) (front ++ last ∷ [])) (ends_with-push 36 front last ∙ is) ∙ without_last-push front last

pub dollar-none : (bytes : Spelling) → ends_with 36 bytes ≡ false → before_dollar bytes ≡ bytes
dollar-none bytes is = ap (λ q. cond q (without_last bytes) bytes) is
