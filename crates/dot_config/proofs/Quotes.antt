-- Quoted texts.
use Rattle.std.proofs.Common.{ℕ, ◌≡◌, ◌<◌, length, append_assoc, arith, Bool, true, false, cond, List, [], ◌∷◌, ◌++◌, Option, Some, None, refl, sym, ap, subst, ◌∙◌, ⊎_elim}
use Rattle.std.specs.Prelude.{◌==◌, ◌≢◌, not, ◌&&◌}
use Rattle.std.proofs.lemmas.Bool.{eqb-true, eqb-false, ne_eqb, not-true, and_parts, cond-true, cond-false}
use Rattle.std.proofs.lemmas.List.{append-nil}
use Rattle.br_path.specs.Text.{is_text}
use Rattle.dot_config.specs.Line.{IsQuoted, nothing, plain, escaped}
use Rattle.dot_config.specs.SaidBy.{unquoted, next_byte, put_byte, is_plain}
use Rattle.dot_config.proofs.Cuts.{cond_cases, some_then, some_same}

-- what is read after bytes that were read
abbrev pub put_bytes : List ℕ → Option (List ℕ) → Option (List ℕ)
put_bytes front (Some text) = Some (front ++ text)
put_bytes front None = None

pub put_bytes_more : (front : List ℕ) (byte : ℕ) (o : Option (List ℕ)) → put_bytes (front ++ byte ∷ []) o ≡ put_bytes front (put_byte byte o)
put_bytes_more front byte None = refl
put_bytes_more front byte (Some text) = ap Some (append_assoc front (byte ∷ []) text)

-- what is left is shorter
pub next_shorter : (rest behind : List ℕ) (byte : ℕ) → next_byte rest ≡ Some (byte, behind) → length behind < length rest
unfolding next_byte
next_shorter [] behind byte e = absurd (cc)
next_shorter (b ∷ []) behind byte e =
    let one : ℕ × List ℕ = (b, []) in
    let found = some_then (is_plain b) (Some one) (byte, behind) e in
    let tail : [] ≡ behind = ap (λ (s : ℕ × List ℕ). s.1) (some_same one (byte, behind) found.1) in
    omega (arith, ap length tail)
next_shorter (b ∷ c ∷ rest) behind byte e =
    let here : ℕ × List ℕ = (b, c ∷ rest) in
    let next : ℕ × List ℕ = (c, rest) in
    ⊎_elim
    (λ quotes. let tail : rest ≡ behind = ap (λ (s : ℕ × List ℕ). s.1) (some_same next (byte, behind) quotes.1) in omega (arith, ap length tail))
    (λ bare.
    let found = some_then (is_plain b) (Some here) (byte, behind) bare.1 in
    let tail : c ∷ rest ≡ behind = ap (λ (s : ℕ × List ℕ). s.1) (some_same here (byte, behind) found.1) in
    omega (arith, ap length tail))
    (cond_cases (b == 92) (Some next) (cond (is_plain b) (Some here) None) (Some (byte, behind)) e)

-- a byte more
pub next_goes : (rest behind : List ℕ) (byte : ℕ) → next_byte rest ≡ Some (byte, behind) → unquoted rest ≡ put_byte byte (unquoted behind)
unfolding next_byte unquoted
next_goes [] behind byte e = absurd (cc)
next_goes (b ∷ []) behind byte e =
    let one : ℕ × List ℕ = (b, []) in
    let found = some_then (is_plain b) (Some one) (byte, behind) e in
    let tail : [] ≡ behind = ap (λ (s : ℕ × List ℕ). s.1) (some_same one (byte, behind) found.1) in
    let shut : (b == 34) ≡ false = not-true (b == 34) (and_parts (not (b == 34)) (not (b == 92)) found.0).0 in
    cond-false (b == 34) (Some []) None shut ∙ ap (λ r. put_byte byte (unquoted r)) tail
next_goes (b ∷ c ∷ rest) behind byte e =
    let here : ℕ × List ℕ = (b, c ∷ rest) in
    let next : ℕ × List ℕ = (c, rest) in
    ⊎_elim
    (λ quotes.
    cond-true (b == 92) (put_byte c (unquoted rest)) (cond (b == 34) None (put_byte b (unquoted (c ∷ rest)))) quotes.0
    ∙ ap (λ (s : ℕ × List ℕ). put_byte s.0 (unquoted s.1)) (some_same next (byte, behind) quotes.1))
    (λ bare.
    let found = some_then (is_plain b) (Some here) (byte, behind) bare.1 in
    let shut : (b == 34) ≡ false = not-true (b == 34) (and_parts (not (b == 34)) (not (b == 92)) found.0).0 in
    cond-false (b == 92) (put_byte c (unquoted rest)) (cond (b == 34) None (put_byte b (unquoted (c ∷ rest)))) bare.0
    ∙ cond-false (b == 34) None (put_byte b (unquoted (c ∷ rest))) shut
    ∙ ap (λ (s : ℕ × List ℕ). put_byte s.0 (unquoted s.1)) (some_same here (byte, behind) found.1))
    (cond_cases (b == 92) (Some next) (cond (is_plain b) (Some here) None) (Some (byte, behind)) e)

-- no byte more
pub next_ends : (rest : List ℕ) → next_byte rest ≡ None → unquoted rest ≡ cond (is_text rest (34 ∷ [])) (Some []) None
unfolding next_byte unquoted
next_ends [] e = refl
next_ends (b ∷ []) e = elim (b == 34) as (λ q. cond {A = Option (List ℕ)} q (Some []) None ≡ cond (q && true) (Some []) None) [ true ↦ refl | false ↦ refl ]
next_ends (b ∷ c ∷ rest) e =
    let here : ℕ × List ℕ = (b, c ∷ rest) in
    let next : ℕ × List ℕ = (c, rest) in
    (elim (b == 92) as (λ s. cond s (Some next) (cond (not (b == 34) && not s) (Some here) None) ≡ None → cond s (put_byte c (unquoted rest)) (cond (b == 34) None (put_byte b (unquoted (c ∷ rest)))) ≡ cond {A = Option (List ℕ)} ((b == 34) && false) (Some []) None) [
      | true ↦ λ h. absurd (cc)
      | false ↦ elim (b == 34) as (λ q. cond (not q && true) (Some here) None ≡ None → cond q None (put_byte b (unquoted (c ∷ rest))) ≡ cond {A = Option (List ℕ)} (q && false) (Some []) None) [ true ↦ λ h. refl | false ↦ λ h. absurd (cc) ]
    ]) e

-- where no byte is left, the closing quote decides
pub quote_ends : (front rest quoted : List ℕ) → next_byte rest ≡ None → is_text rest (34 ∷ []) ≡ true → put_bytes front (unquoted rest) ≡ unquoted quoted → Some front ≡ unquoted quoted
quote_ends front rest quoted none closed e =
    sym (ap (put_bytes front) (next_ends rest none ∙ cond-true (is_text rest (34 ∷ [])) (Some []) None closed) ∙ ap Some (append-nil front)) ∙ e

pub quote_lacks : (front rest quoted : List ℕ) → next_byte rest ≡ None → is_text rest (34 ∷ []) ≡ false → put_bytes front (unquoted rest) ≡ unquoted quoted → None ≡ unquoted quoted
quote_lacks front rest quoted none open_text e =
    sym (ap (put_bytes front) (next_ends rest none ∙ cond-false (is_text rest (34 ∷ [])) (Some []) None open_text)) ∙ e

plain_reads : (byte next : ℕ) (rest : List ℕ) → byte ≢ 34 → byte ≢ 92 → unquoted (byte ∷ next ∷ rest) ≡ put_byte byte (unquoted (next ∷ rest))
unfolding unquoted
plain_reads byte next rest quote backslash =
    cond-false (byte == 92) (put_byte next (unquoted rest)) (cond (byte == 34) None (put_byte byte (unquoted (next ∷ rest)))) (ne_eqb byte 92 backslash)
    ∙ cond-false (byte == 34) None (put_byte byte (unquoted (next ∷ rest))) (ne_eqb byte 34 quote)

plain_front : (byte : ℕ) (inner : List ℕ) → byte ≢ 34 → byte ≢ 92 → unquoted (byte ∷ (inner ++ 34 ∷ [])) ≡ put_byte byte (unquoted (inner ++ 34 ∷ []))
plain_front byte [] quote backslash = plain_reads byte 34 [] quote backslash
plain_front byte (next ∷ rest) quote backslash = plain_reads byte next (rest ++ 34 ∷ []) quote backslash

pub quoted_reads : (inner text : List ℕ) → IsQuoted inner text → unquoted (inner ++ 34 ∷ []) ≡ Some text
unfolding unquoted
quoted_reads inner text nothing = refl
quoted_reads inner text (plain byte rest more quote backslash is) = plain_front byte rest quote backslash ∙ ap (put_byte byte) (quoted_reads rest more is)
quoted_reads inner text (escaped byte rest more is) = ap (put_byte byte) (quoted_reads rest more is)

put_some : (byte : ℕ) (o : Option (List ℕ)) (text : List ℕ) → put_byte byte o ≡ Some text → (more : List ℕ) × (o ≡ Some more) × (byte ∷ more ≡ text)
put_some byte None text e = absurd (cc)
put_some byte (Some more) text e = (more, refl, some_same (byte ∷ more) text e)

pub quoted_sound : (quoted text : List ℕ) → unquoted quoted ≡ Some text → (inner : List ℕ) × IsQuoted inner text × (quoted ≡ inner ++ 34 ∷ [])
unfolding unquoted
quoted_sound [] text e = absurd (cc)
quoted_sound (b ∷ []) text e =
    let found = some_then (b == 34) (Some []) text e in
    ([], subst (IsQuoted []) (some_same [] text found.1) nothing, ap (λ c. c ∷ []) (eqb-true b 34 found.0))
quoted_sound (b ∷ c ∷ rest) text e =
    ⊎_elim
    (λ quotes.
    let put = put_some c (unquoted rest) text quotes.1 in
    let read = quoted_sound rest put.0 put.1 in
    (92 ∷ c ∷ read.0, subst (IsQuoted (92 ∷ c ∷ read.0)) put.2 (escaped c read.0 put.0 read.1), ap (λ d. d ∷ c ∷ rest) (eqb-true b 92 quotes.0) ∙ ap (λ r. 92 ∷ c ∷ r) read.2))
    (λ bare.
    ⊎_elim
    (λ quote. absurd (cc (quote.1)))
    (λ open_text.
    let put = put_some b (unquoted (c ∷ rest)) text open_text.1 in
    let read = quoted_sound (c ∷ rest) put.0 put.1 in
    (b ∷ read.0, subst (IsQuoted (b ∷ read.0)) put.2 (plain b read.0 put.0 (eqb-false b 34 open_text.0) (eqb-false b 92 bare.0) read.1), ap (λ r. b ∷ r) read.2))
    (cond_cases (b == 34) None (put_byte b (unquoted (c ∷ rest))) (Some text) bare.1))
    (cond_cases (b == 92) (put_byte c (unquoted rest)) (cond (b == 34) None (put_byte b (unquoted (c ∷ rest)))) (Some text) e)
