-- The first piece of a text, in each of its forms.
use Rattle.std.proofs.Common.{◌≡◌, ◌≢◌, ℕ, suc, ◌+◌, true, false, cond, eqb, List, [], ◌∷◌, ◌++◌, length, take, drop, Some, None, refl, ap, sym, ◌∙◌, subst, arith, zero-add}
use Rattle.std.proofs.Math.Seq.{drop-append-add, take-append_seam}
use Rattle.std.proofs.lemmas.Bool.Decides.{nat_tests}
use Rattle.mk_expand.specs.declared.bracket.Bracket.{Bracket}
use Rattle.mk_expand.specs.declared.bracket.Bracket.TheVariants.{Round, Curly}
use Rattle.mk_expand.specs.Bracket.{opening, closing, IsNested, IsUnclosed, close_of}
use Rattle.mk_expand.specs.Piece.{Piece, Byte, Stray, Unclosed, Reference, reference_at, closed_len, behind_dollar, dollar_len, piece_of, piece_len}
use Rattle.mk_expand.proofs.Closing.{closing_at, closing_sound, unclosed_none, none_unclosed}

-- a byte and a text after it, by the piece that they begin with
pub data Seen (b : ℕ) (text : List ℕ) : Type 0 where
  seen_byte : b ≢ 36 → piece_of b text ≡ Byte b → piece_len b text ≡ 0 → Seen b text
  seen_dollar : (rest : List ℕ) → b ≡ 36 → text ≡ 36 ∷ rest → piece_of b text ≡ Byte 36 → piece_len b text ≡ 1 → Seen b text
  seen_end : b ≡ 36 → text ≡ [] → piece_of b text ≡ Stray → Seen b text
  seen_stray : (c : ℕ) (rest : List ℕ) → b ≡ 36 → text ≡ c ∷ rest → c ≢ 36 → c ≢ 40 → c ≢ 123 → piece_of b text ≡ Stray → Seen b text
  seen_open : (kind : Bracket) (rest : List ℕ) → b ≡ 36 → text ≡ opening kind ∷ rest → IsUnclosed kind rest → piece_of b text ≡ Unclosed → Seen b text
  seen_reference : (kind : Bracket) (inside rest : List ℕ) → b ≡ 36 → text ≡ opening kind ∷ inside ++ closing kind ∷ rest → IsNested kind 0 inside →
      piece_of b text ≡ Reference kind inside → drop (piece_len b text) text ≡ rest → Seen b text

pub piece_at_dollar : (text : List ℕ) → piece_of 36 text ≡ behind_dollar text
piece_at_dollar text = refl

pub piece_at_kind : (kind : Bracket) (text : List ℕ) → piece_of 36 (opening kind ∷ text) ≡ reference_at kind text (close_of kind 0 0 text)
piece_at_kind Round text = refl
piece_at_kind Curly text = refl

pub len_at_kind : (kind : Bracket) (text : List ℕ) → piece_len 36 (opening kind ∷ text) ≡ suc (closed_len (close_of kind 0 0 text))
len_at_kind Round text = refl
len_at_kind Curly text = refl

drop_close : (inside rest : List ℕ) (c : ℕ) → drop (length inside + 1) (inside ++ c ∷ rest) ≡ rest
drop_close inside rest c = drop-append-add inside (c ∷ rest) 1

pub reference_piece : (kind : Bracket) (inside rest : List ℕ) → IsNested kind 0 inside → piece_of 36 (opening kind ∷ inside ++ closing kind ∷ rest) ≡ Reference kind inside
reference_piece kind inside rest n =
    piece_at_kind kind (inside ++ closing kind ∷ rest)
    ∙ (ap (reference_at kind (inside ++ closing kind ∷ rest)) (closing_at kind inside rest 0 0 n)
    ∙ (ap (λ n. Reference kind (take n (inside ++ closing kind ∷ rest))) (zero-add (length inside))
    ∙ ap (Reference kind) (take-append_seam inside (closing kind ∷ rest))))

pub reference_rest : (kind : Bracket) (inside rest : List ℕ) → IsNested kind 0 inside →
    drop (piece_len 36 (opening kind ∷ inside ++ closing kind ∷ rest)) (opening kind ∷ inside ++ closing kind ∷ rest) ≡ rest
reference_rest kind inside rest n =
    let text : List ℕ = inside ++ closing kind ∷ rest in
    ap (λ n. drop n (opening kind ∷ text)) (len_at_kind kind text ∙ ap (λ r. suc (closed_len r)) (closing_at kind inside rest 0 0 n))
    ∙ (ap (λ n. drop (n + 1) text) (zero-add (length inside)) ∙ drop_close inside rest (closing kind))

pub open_piece : (kind : Bracket) (rest : List ℕ) → IsUnclosed kind rest → piece_of 36 (opening kind ∷ rest) ≡ Unclosed
open_piece kind rest u = piece_at_kind kind rest ∙ ap (reference_at kind rest) (unclosed_none kind rest u)

pub byte_piece : (b : ℕ) (text : List ℕ) → b ≢ 36 → (piece_of b text ≡ Byte b) × (piece_len b text ≡ 0)
byte_piece b text n =
    let e : eqb b 36 ≡ false = grind (arith, nat_tests) in
    (ap (λ q. cond q (behind_dollar text) (Byte b)) e, ap (λ q. cond q (dollar_len text) 0) e)

stray_tests : (c : ℕ) (P Q R S : Piece) → c ≢ 36 → c ≢ 40 → c ≢ 123 → cond (eqb c 36) P (cond (eqb c 40) Q (cond (eqb c 123) R S)) ≡ S
stray_tests c P Q R S one two three = grind (arith, nat_tests)

pub stray_piece : (c : ℕ) (rest : List ℕ) → c ≢ 36 → c ≢ 40 → c ≢ 123 → piece_of 36 (c ∷ rest) ≡ Stray
stray_piece c rest one two three = stray_tests c _ _ _ _ one two three

-- a kind's bracket after a dollar
see_kind : (kind : Bracket) (text : List ℕ) → Seen 36 (opening kind ∷ text)
see_kind kind text =
    elim (close_of kind 0 0 text) as (λ r. close_of kind 0 0 text ≡ r → Seen 36 (opening kind ∷ text)) [
      | None ↦ λ e. let u = none_unclosed kind text e in seen_open kind text refl refl u (open_piece kind text u)
      | Some at ↦ λ e.
          let c = closing_sound kind text 0 0 at e in
          let P : List ℕ → Type 0 = λ text. Seen 36 (opening kind ∷ text) in
          subst P (sym c.cut) (seen_reference kind c.inside c.rest refl refl c.nested (reference_piece kind c.inside c.rest c.nested) (reference_rest kind c.inside c.rest c.nested))
    ] refl

see_behind : (text : List ℕ) → Seen 36 text
see_behind [] = seen_end refl refl refl
see_behind (c ∷ text) =
    elim (eqb c 36) as (λ q. eqb c 36 ≡ q → Seen 36 (c ∷ text)) [
      | true ↦ λ q. let e : c ≡ 36 = grind (arith, nat_tests) in let P : ℕ → Type 0 = λ c. Seen 36 (c ∷ text) in subst P (sym e) (seen_dollar text refl refl refl refl)
      | false ↦ λ q.
          elim (eqb c 40) as (λ p. eqb c 40 ≡ p → Seen 36 (c ∷ text)) [
            | true ↦ λ p. let e : c ≡ 40 = grind (arith, nat_tests) in let P : ℕ → Type 0 = λ c. Seen 36 (c ∷ text) in subst P (sym e) (see_kind Round text)
            | false ↦ λ p.
                elim (eqb c 123) as (λ r. eqb c 123 ≡ r → Seen 36 (c ∷ text)) [
                  | true ↦ λ r. let e : c ≡ 123 = grind (arith, nat_tests) in let P : ℕ → Type 0 = λ c. Seen 36 (c ∷ text) in subst P (sym e) (see_kind Curly text)
                  | false ↦ λ r.
                      let one : c ≢ 36 = λ e. grind (arith, nat_tests) in let two : c ≢ 40 = λ e. grind (arith, nat_tests) in let three : c ≢ 123 = λ e. grind (arith, nat_tests) in
                      seen_stray c text refl refl one two three (stray_piece c text one two three)
                ] refl
          ] refl
    ] refl

pub see : (b : ℕ) (text : List ℕ) → Seen b text
see b text =
    elim (eqb b 36) as (λ q. eqb b 36 ≡ q → Seen b text) [
      | true ↦ λ q. let e : b ≡ 36 = grind (arith, nat_tests) in let P : ℕ → Type 0 = λ b. Seen b text in subst P (sym e) (see_behind text)
      | false ↦ λ q. let n : b ≢ 36 = λ e. grind (arith, nat_tests) in let r = byte_piece b text n in seen_byte n r.0 r.1
    ] refl
