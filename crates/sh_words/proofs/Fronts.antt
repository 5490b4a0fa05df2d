-- A front of a line stays one before another rest.
use Rattle.std.proofs.Common.{◌≡◌, ℕ, Bool, true, false, List, [], ◌∷◌, ◌++◌, length, Option, Some, None, refl, sym, ap, ◌∙◌, subst, append_assoc}
use Rattle.std.specs.Prelude.{◌==◌, IsTrue}
use Rattle.std.specs.List.{list_all}
use Rattle.std.proofs.lemmas.Bool.{false≢true, ne_eqb, or_parts, and_parts, and_from, false_from_ne_true}
use Rattle.br_path.specs.Path.{Names}
use Rattle.br_path.specs.Text.{is_blank, is_digit}
use Rattle.sh_words.specs.declared.line.Redirect.{Redirect}
use Rattle.sh_words.specs.Bytes.{are_blanks, begins_operator, ends_word}
use Rattle.sh_words.specs.Grammar.{IsWord, IsOperator, IsFront}
use Rattle.sh_words.specs.Faults.{size}
use Rattle.sh_words.proofs.LineLaws.{word_inside}

-- a word that ends before one text ends before the other too
pub record Alike (text other : List ℕ) : Type 0 where
  pub ends : ends_word text ≡ true → ends_word other ≡ true
  pub operator : begins_operator other ≡ true → begins_operator text ≡ true

-- the end is like each text
pub alike_nil : (text : List ℕ) → Alike text []
alike_nil text = record { ends = λ _. refl; operator = λ is. absurd (false≢true is) }

pub alike_begin : (byte : ℕ) (text other : List ℕ) → Alike (byte ∷ text) (byte ∷ other)
alike_begin byte text other = record { ends = λ is. is; operator = λ is. is }

pub alike_append : (head text other : List ℕ) → Alike text other → Alike (head ++ text) (head ++ other)
alike_append [] text other alike = alike
alike_append (byte ∷ head) text other alike = alike_begin byte (head ++ text) (head ++ other)

word_again : (written word text other : List ℕ) → IsWord written word text → Alike text other → IsWord written word other
word_again written word text other is alike = record {
  pieces = is.pieces;
  begins = is.begins;
  ends = alike.ends is.ends;
  no_number = false_from_ne_true _ (λ both.
      let p = and_parts (list_all is_digit written) (begins_operator other) both in
      false≢true (sym is.no_number ∙ and_from (list_all is_digit written) (begins_operator text) p.0 (alike.operator p.1)));
}

pub blank_no_operator : (byte : ℕ) → is_blank byte ≡ true → (byte == 62) ≡ false
blank_no_operator byte is = ne_eqb byte 62 (λ same. false≢true (ap is_blank (sym same) ∙ is))

-- no operator stands after blanks where none stands without them
pub blanks_no_operator : (blanks rest : List ℕ) → IsTrue (are_blanks blanks) → begins_operator rest ≡ false → begins_operator (blanks ++ rest) ≡ false
blanks_no_operator [] rest are isnt = isnt
blanks_no_operator (byte ∷ blanks) rest are isnt = blank_no_operator byte (and_parts (is_blank byte) (are_blanks blanks) are).0

-- nor where a word stands
pub word_no_operator : (text : List ℕ) → ends_word text ≡ false → begins_operator text ≡ false
word_no_operator [] isnt = refl
word_no_operator (byte ∷ text) isnt = (or_parts (is_blank byte) (byte == 62) isnt).1

-- an operator before another text
pub record OperatorAgain (append : Bool) (text behind : List ℕ) : Type 0 where
  pub head : List ℕ
  pub cut : text ≡ head ++ behind
  pub long : length head ≡ size append
  pub again : (other : List ℕ) → (begins_operator other ≡ true → begins_operator behind ≡ true) → IsOperator append (head ++ other) other

pub operator_again : (append : Bool) (text behind : List ℕ) → IsOperator append text behind → OperatorAgain append text behind
operator_again append text behind (IsOperator.one b isnt) =
    record { head = 62 ∷ []; cut = refl; long = refl; again = λ other only. IsOperator.one other (false_from_ne_true _ (λ is. false≢true (sym isnt ∙ only is))) }
operator_again append text behind (IsOperator.two b) = record { head = 62 ∷ 62 ∷ []; cut = refl; long = refl; again = λ other only. IsOperator.two other }

-- a front before another rest
pub record FrontAgain (before : Option Redirect) (text : List ℕ) (words : Names) (after : Option Redirect) (rest : List ℕ) : Type 0 where
  pub head : List ℕ
  pub cut : text ≡ head ++ rest
  pub again : (other : List ℕ) → Alike rest other → IsFront before (head ++ other) words after other

pub front_again : (before after : Option Redirect) (text rest : List ℕ) (words : Names) → IsFront before text words after rest → FrontAgain before text words after rest
front_again before after text rest words (IsFront.nothing into t) = record { head = []; cut = refl; again = λ other alike. IsFront.nothing into other }
front_again before after text rest words (IsFront.blank b a byte t r w is front) =
    let s = front_again b a t r w front in
    record { head = byte ∷ s.head; cut = ap (λ x. byte ∷ x) s.cut; again = λ other alike. IsFront.blank b a byte (s.head ++ other) other w is (s.again other alike) }
front_again before after text rest words (IsFront.word b a written x behind r w is front) =
    let s = front_again b a behind r w front in
    let here : IsWord written x (s.head ++ r) = subst (IsWord written x) s.cut is in
    record {
      head = written ++ s.head;
      cut = ap (λ t. written ++ t) s.cut ∙ sym (append_assoc written s.head r);
      again = λ other alike.
          subst (λ t. IsFront b t (x ∷ w) a other) (sym (append_assoc written s.head other))
          (IsFront.word b a written x (s.head ++ other) other w (word_again written x (s.head ++ r) (s.head ++ other) here (alike_append s.head r other alike)) (s.again other alike));
    }
front_again before after text rest words (IsFront.target a append t blanks written x behind r w operator are is front) =
    let s = front_again (Some (record { append = append; word = x })) a behind r w front in
    let o = operator_again append t (blanks ++ (written ++ behind)) operator in
    let here : IsWord written x (s.head ++ r) = subst (IsWord written x) s.cut is in
    let regroup : (end : List ℕ) → o.head ++ (blanks ++ (written ++ (s.head ++ end))) ≡ (o.head ++ (blanks ++ (written ++ s.head))) ++ end =
    λ end. sym (append_assoc o.head (blanks ++ (written ++ s.head)) end
    ∙ ap (λ z. o.head ++ z) (append_assoc blanks (written ++ s.head) end ∙ ap (λ z. blanks ++ z) (append_assoc written s.head end))) in
    record {
      head = o.head ++ (blanks ++ (written ++ s.head));
      cut = o.cut ∙ (ap (λ z. o.head ++ (blanks ++ (written ++ z))) s.cut ∙ regroup r);
      again = λ other alike.
          let now : IsWord written x (s.head ++ other) = word_again written x (s.head ++ r) (s.head ++ other) here (alike_append s.head r other alike) in
          let free : begins_operator (blanks ++ (written ++ (s.head ++ other))) ≡ false =
          blanks_no_operator blanks (written ++ (s.head ++ other)) are (word_no_operator (written ++ (s.head ++ other)) (word_inside written x (s.head ++ other) now)) in
          subst (λ z. IsFront None z w a other) (regroup other)
          (IsFront.target a append (o.head ++ (blanks ++ (written ++ (s.head ++ other)))) blanks written x (s.head ++ other) other w
          (o.again (blanks ++ (written ++ (s.head ++ other))) (λ is. absurd (false≢true (sym free ∙ is)))) are now (s.again other alike));
    }

-- a front goes on with the front of its rest
pub front_then : (before middle after : Option Redirect) (text rest last : List ℕ) (words more : Names) → IsFront before text words middle rest → IsFront middle rest more after last → IsFront before text (words ++ more) after last
front_then before middle after text rest last words more (IsFront.nothing into t) next = next
front_then before middle after text rest last words more (IsFront.blank b m byte t r w is front) next = IsFront.blank b after byte t last (w ++ more) is (front_then b m after t r last w more front next)
front_then before middle after text rest last words more (IsFront.word b m written x behind r w is front) next =
    IsFront.word b after written x behind last (w ++ more) is (front_then b m after behind r last w more front next)
front_then before middle after text rest last words more (IsFront.target m append t blanks written x behind r w operator are is front) next =
    IsFront.target after append t blanks written x behind last (w ++ more) operator are is (front_then (Some (record { append = append; word = x })) m after behind r last w more front next)

-- blanks before a front
pub blanks_front : (blanks : List ℕ) (before after : Option Redirect) (text rest : List ℕ) (words : Names) → IsTrue (are_blanks blanks) → IsFront before text words after rest → IsFront before (blanks ++ text) words after rest
blanks_front [] before after text rest words are front = front
blanks_front (byte ∷ blanks) before after text rest words are front =
    let p = and_parts (is_blank byte) (are_blanks blanks) are in
    IsFront.blank before after byte (blanks ++ text) rest words p.0 (blanks_front blanks before after text rest words p.1 front)
