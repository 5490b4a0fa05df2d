-- What is left of a line without its comment is what its pieces leave.
use Rattle.std.proofs.Common.{◌≡◌, ℕ, zero, suc, ◌+◌, ◌<◌, eqb, ◌&&◌, true, false, cond, Option, Some, None, List, [], ◌∷◌, ◌++◌, length, sym, refl, ap, ◌∙◌, subst, append_assoc, ◌⊎◌, inl, inr, arith}
use Rattle.std.specs.Prelude.{codes, nat_eq}
use Rattle.std.specs.List.{starts_with}
use Rattle.std.proofs.lemmas.Bool.{eq-eqb, true≢false}
use Rattle.std.proofs.lemmas.Bool.Decides.{eqb_tells}
use Rattle.std.proofs.lemmas.List.{append-nil, length-append}
use Rattle.mk_syntax.specs.Brackets.{closing}
use Rattle.mk_syntax.specs.Comment.{reach, behind_dollar, is_escape, kept_behind, without_comment}
use Rattle.mk_syntax.specs.Remains.{AreBrackets, round, curly, Begins, IsPlainByte, Keeps, nothing, comment, escaped, dollars, reference, unclosed, plain}
use Rattle.mk_syntax.proofs.Matched.{unequal, closes_at, closes, stays_open, none_found}

-- bytes that stay as they are
kept_front : (front line : List ℕ) → without_comment (length front) (front ++ line) ≡ front ++ without_comment 0 line
kept_front [] line = refl
kept_front (b ∷ front) line = ap (λ t. b ∷ t) (kept_front front line)

differ : {o c : ℕ} → AreBrackets o c → eqb c o ≡ false
differ round = refl
differ curly = refl

-- what goes with a dollar before an opening bracket
behind_opening : {o c : ℕ} (text : List ℕ) → AreBrackets o c → behind_dollar (o ∷ text) ≡ reach (closing o c 0 0 text) (length text) + 1
behind_opening text round = refl
behind_opening text curly = refl

-- a dollar before a front that goes with it
dollar_front : (front line : List ℕ) → behind_dollar (front ++ line) ≡ length front → without_comment 0 (36 ∷ front ++ line) ≡ 36 ∷ front ++ without_comment 0 line
dollar_front front line e = ap (λ n. 36 ∷ without_comment n (front ++ line)) e ∙ ap (λ t. 36 ∷ t) (kept_front front line)

begins_not : (b : ℕ) (line : List ℕ) (d : ℕ) → (Begins d (b ∷ line) → ⊥) → eqb b d ≡ false
begins_not b line d h = unequal b d (λ e. h (line, ap (λ x. x ∷ line) e))

not_escape : (b : ℕ) (line : List ℕ) → (b ≡ 92 → Begins 35 line → ⊥) → is_escape b line ≡ false
not_escape b [] h = elim (eqb b 92) as (λ t. (t && false) ≡ false) [ true ↦ refl | false ↦ refl ]
not_escape b (d ∷ ds) h =
    elim (eqb_tells b 92) as (λ _. is_escape b (d ∷ ds) ≡ false) [
      | inr e ↦ ap (λ t. t && starts_with nat_eq (d ∷ ds) (codes "#")) e.0
      | inl e ↦ ap (λ t. t && starts_with nat_eq (d ∷ ds) (codes "#")) e.0 ∙ ap (λ t. t && true) (unequal 35 d (λ f. h e.1 (ds, ap (λ x. x ∷ ds) (sym f))))
    ]

no_dollar : (b : ℕ) (line : List ℕ) → IsPlainByte b line → kept_behind b line ≡ 0
no_dollar b [] p = elim (eqb b 36) as (λ t. ◌≡◌ {A = ℕ} (cond t 0 0) 0) [ true ↦ refl | false ↦ refl ]
no_dollar b (d ∷ ds) p =
    elim (eqb_tells b 36) as (λ _. kept_behind b (d ∷ ds) ≡ 0) [
      | inr e ↦ ap (λ t. cond t (behind_dollar (d ∷ ds)) 0) e.0
      | inl e ↦
          ap (λ t. cond t (behind_dollar (d ∷ ds)) 0) e.0
          ∙ ap (λ t. cond t 1 (cond (eqb d 40) (reach (closing 40 41 0 0 ds) (length ds) + 1) (cond (eqb d 123) (reach (closing 123 125 0 0 ds) (length ds) + 1) 0))) (begins_not d ds 36 (p.no_dollars e.1))
          ∙ ap (λ t. cond t (reach (closing 40 41 0 0 ds) (length ds) + 1) (cond (eqb d 123) (reach (closing 123 125 0 0 ds) (length ds) + 1) 0)) (begins_not d ds 40 (p.no_reference 40 41 round e.1))
          ∙ ap (λ t. cond t (reach (closing 123 125 0 0 ds) (length ds) + 1) 0) (begins_not d ds 123 (p.no_reference 123 125 curly e.1))
    ]

-- each piece leaves what the definition leaves
pub kept_is : {line kept : List ℕ} → Keeps line kept → without_comment 0 line ≡ kept
kept_is nothing = refl
kept_is (comment words) = refl
kept_is (escaped keeps) = ap (λ t. 35 ∷ t) (kept_is keeps)
kept_is (dollars keeps) = ap (λ t. 36 ∷ 36 ∷ t) (kept_is keeps)
kept_is (reference o c inside line kept brackets matched keeps) =
    let whole : o ∷ inside ++ c ∷ line ≡ (o ∷ inside ++ c ∷ []) ++ line = ap (λ t. o ∷ t) (sym (append_assoc inside (c ∷ []) line)) in
    let size : length inside + 1 + 1 ≡ length (o ∷ inside ++ c ∷ []) = omega (arith, length-append inside (c ∷ [])) in
    let count : behind_dollar ((o ∷ inside ++ c ∷ []) ++ line) ≡ length (o ∷ inside ++ c ∷ []) =
    ap behind_dollar (sym whole) ∙ behind_opening (inside ++ c ∷ line) brackets
    ∙ ap (λ r. reach r (length (inside ++ c ∷ line)) + 1) (closes_at inside line (differ brackets) matched) ∙ size in
    ap (λ t. without_comment 0 (36 ∷ t)) whole
    ∙ dollar_front (o ∷ inside ++ c ∷ []) line count
    ∙ ap (λ t. 36 ∷ (o ∷ inside ++ c ∷ []) ++ t) (kept_is keeps)
    ∙ ap (λ t. 36 ∷ o ∷ t) (append_assoc inside (c ∷ []) kept)
kept_is (unclosed o c text brackets open_end) =
    let size : length text + 1 ≡ length (o ∷ text) = omega arith in
    let count : behind_dollar ((o ∷ text) ++ []) ≡ length (o ∷ text) =
    ap behind_dollar (append-nil (o ∷ text)) ∙ behind_opening text brackets ∙ ap (λ r. reach r (length text) + 1) (none_found o c text (differ brackets) open_end) ∙ size in
    ap (λ t. without_comment 0 (36 ∷ t)) (sym (append-nil (o ∷ text))) ∙ dollar_front (o ∷ text) [] count ∙ ap (λ t. 36 ∷ t) (append-nil (o ∷ text))
kept_is (plain b {line = line} is_plain keeps) =
    ap (λ t. cond t [] (cond (is_escape b line) (without_comment 1 line) (b ∷ without_comment (kept_behind b line) line))) (unequal b 35 is_plain.no_comment)
    ∙ ap (λ t. cond t (without_comment 1 line) (b ∷ without_comment (kept_behind b line) line)) (not_escape b line is_plain.no_escape)
    ∙ ap (λ n. b ∷ without_comment n line) (no_dollar b line is_plain)
    ∙ ap (λ t. b ∷ t) (kept_is keeps)

no_cons : {b : ℕ} {bs : List ℕ} → [] ≡ b ∷ bs → ⊥
no_cons e = cc

same_head : {b d : ℕ} {bs ds : List ℕ} → b ∷ bs ≡ d ∷ ds → b ≡ d
same_head e = cc

-- whether a text begins with a byte
begins : (d : ℕ) (line : List ℕ) → Begins d line ⊎ (Begins d line → ⊥)
begins d [] = inr (λ h. no_cons h.1)
begins d (b ∷ bs) =
    elim (eqb_tells b d) as (λ _. Begins d (b ∷ bs) ⊎ (Begins d (b ∷ bs) → ⊥)) [
      | inl e ↦ inl (bs, ap (λ x. x ∷ bs) e.1)
      | inr e ↦ inr (λ h. e.1 (same_head h.1))
    ]

-- something is left
abbrev Left : List ℕ → Type 0
Left line = (kept : List ℕ) × Keeps line kept

left_at : {line whole : List ℕ} → whole ≡ line → Left line → Left whole
left_at e left = subst Left (sym e) left

-- shorter lines leave something
abbrev Shorter : List ℕ → Type 0
Shorter whole = (line : List ℕ) → length line < length whole → Left line

plainly : (b : ℕ) (line : List ℕ) → Shorter (b ∷ line) → IsPlainByte b line → Left (b ∷ line)
plainly b line shorter is_plain = let k = shorter line (omega arith) in (b ∷ k.0, plain b is_plain k.1)

apart : {b c d : ℕ} → b ≡ c → eqb c d ≡ false → b ≡ d → ⊥
apart {c = c} {d = d} e f g = let h : eqb c d ≡ true = eq-eqb c d (sym e ∙ g) in true≢false (sym h ∙ f)

-- after a backslash
from_backslash : (line : List ℕ) → Shorter (92 ∷ line) → Left (92 ∷ line)
from_backslash line shorter =
    elim (begins 35 line) as (λ _. Left (92 ∷ line)) [
      | inl h ↦ let k = shorter h.0 (omega (arith, ap length h.1)) in left_at (ap (λ t. 92 ∷ t) h.1) (35 ∷ k.0, escaped k.1)
      | inr h ↦ plainly 92 line shorter (record { no_comment = apart refl refl; no_escape = λ e. h; no_dollars = λ e. absurd (apart {b = 92} refl refl e); no_reference = λ o c k e. absurd (apart {b = 92} refl refl e) })
    ]

-- a reference, up to its closing bracket or to the end
from_opening : (o c : ℕ) (text : List ℕ) → AreBrackets o c → Shorter (36 ∷ o ∷ text) → Left (36 ∷ o ∷ text)
from_opening o c text brackets shorter =
    let P : Option ℕ → Type 0 = λ r. closing o c 0 0 text ≡ r → Left (36 ∷ o ∷ text) in
    elim (closing o c 0 0 text) as P [
      | None ↦ λ e. (36 ∷ o ∷ text, unclosed o c text brackets (stays_open o c text (differ brackets) e))
      | Some n ↦ λ e.
          let k = closes o c text n (differ brackets) e in
          let r = shorter k.rest (omega (arith, ap length k.cut, length-append k.inside (c ∷ k.rest))) in
          left_at (ap (λ t. 36 ∷ o ∷ t) k.cut) (36 ∷ o ∷ k.inside ++ c ∷ r.0, reference o c k.inside k.rest r.0 brackets k.matched r.1)
    ] refl

no_brackets : {o c : ℕ} (line : List ℕ) → AreBrackets o c → (Begins 40 line → ⊥) → (Begins 123 line → ⊥) → Begins o line → ⊥
no_brackets line round no_round no_curly = no_round
no_brackets line curly no_round no_curly = no_curly

-- after a dollar
from_dollar : (line : List ℕ) → Shorter (36 ∷ line) → Left (36 ∷ line)
from_dollar line shorter =
    elim (begins 36 line) as (λ _. Left (36 ∷ line)) [
      | inl h ↦ let k = shorter h.0 (omega (arith, ap length h.1)) in left_at (ap (λ t. 36 ∷ t) h.1) (36 ∷ 36 ∷ k.0, dollars k.1)
      | inr no_dollars ↦ elim (begins 40 line) as (λ _. Left (36 ∷ line)) [
        | inl h ↦ left_at (ap (λ t. 36 ∷ t) h.1) (from_opening 40 41 h.0 round (subst (λ t. Shorter (36 ∷ t)) h.1 shorter))
        | inr no_round ↦ elim (begins 123 line) as (λ _. Left (36 ∷ line)) [
          | inl h ↦ left_at (ap (λ t. 36 ∷ t) h.1) (from_opening 123 125 h.0 curly (subst (λ t. Shorter (36 ∷ t)) h.1 shorter))
          | inr no_curly ↦ plainly 36 line shorter (record { no_comment = apart refl refl; no_escape = λ e. absurd (apart {b = 36} refl refl e); no_dollars = λ e. no_dollars; no_reference = λ o c k e. no_brackets line k no_round no_curly })
        ]
      ]
    ]

from_byte : (b : ℕ) (line : List ℕ) → Shorter (b ∷ line) → Left (b ∷ line)
from_byte b line shorter =
    elim (eqb_tells b 35) as (λ _. Left (b ∷ line)) [
      | inl e ↦ left_at (ap (λ x. x ∷ line) e.1) ([], comment line)
      | inr no_comment ↦ elim (eqb_tells b 92) as (λ _. Left (b ∷ line)) [
        | inl e ↦ left_at (ap (λ x. x ∷ line) e.1) (from_backslash line (subst (λ x. Shorter (x ∷ line)) e.1 shorter))
        | inr no_backslash ↦ elim (eqb_tells b 36) as (λ _. Left (b ∷ line)) [
          | inl e ↦ left_at (ap (λ x. x ∷ line) e.1) (from_dollar line (subst (λ x. Shorter (x ∷ line)) e.1 shorter))
          | inr no_dollar ↦ plainly b line shorter (record { no_comment = no_comment.1; no_escape = λ e. absurd (no_backslash.1 e); no_dollars = λ e. absurd (no_dollar.1 e); no_reference = λ o c k e. absurd (no_dollar.1 e) })
        ]
      ]
    ]

left_below : (size : ℕ) (line : List ℕ) → length line < size → Left line
left_below zero line h = absurd (omega arith)
left_below (suc size) [] h = ([], nothing)
left_below (suc size) (b ∷ line) h = from_byte b line (λ l k. left_below size l (omega arith))

-- what the definition leaves is what the pieces leave
pub keeps : (line : List ℕ) → Keeps line (without_comment 0 line)
keeps line = let k = left_below (length line + 1) line (omega arith) in subst (Keeps line) (sym (kept_is k.1)) k.1
