-- A fault is at the first byte with which no line goes on, or where a line ends too early.
use Rattle.std.proofs.Common.{◌≡◌, ℕ, ◌+◌, ◌-◌, ◌<◌, Bool, true, false, List, [], ◌∷◌, ◌++◌, length, Option, Some, None, Ok, Err, refl, sym, ap, ◌∙◌, subst, append_assoc, append-nil, length-append, arith, inl, inr}
use Rattle.std.specs.Prelude.{◌⊎◌, IsTrue}
use Rattle.std.proofs.lemmas.Bool.{true≢false, false≢true}
use Rattle.br_path.specs.Path.{Names}
use Rattle.sh_words.specs.declared.fault.WordFault.{WordFault}
use Rattle.sh_words.specs.declared.fault.WordFault.TheVariants.{OpenQuote, Unsupported, Memory}
use Rattle.sh_words.specs.declared.line.Line.{Line}
use Rattle.sh_words.specs.declared.line.Redirect.{Redirect}
use Rattle.sh_words.specs.Bytes.{are_blanks, begins_operator, is_over}
use Rattle.sh_words.specs.Lines.{line_of}
use Rattle.sh_words.specs.Grammar.{IsOperator, IsFront, IsLine}
use Rattle.sh_words.specs.Faults.{IsBroken, IsStop, IsFault, size}
use Rattle.sh_words.specs.First.{Begins, IsMisfit, Asks, EndsEarly}
use Rattle.sh_words.proofs.LineLaws.{line_runs, fault_runs, text_fault, writes_operator, word_inside, stop_fails}
use Rattle.sh_words.proofs.Fronts.{Alike, alike_nil, alike_begin, alike_append, blanks_no_operator, word_no_operator, operator_again, front_again, front_then}
use Rattle.sh_words.proofs.FirstWords.{GoesWord, FirstBroken, first_broken, letter}

-- 1. Lines.

-- a line goes on with these bytes
record GoesLine (into : Option Redirect) (front : List ℕ) : Type 0 where
  close : List ℕ
  words : Names
  after : Option Redirect
  is : IsFront into (front ++ close) words after []

record InLine (place : ℕ) (into : Option Redirect) (rest : List ℕ) (byte where' : ℕ) : Type 0 where
  head : List ℕ
  back : List ℕ
  cut : rest ≡ head ++ byte ∷ back
  at : where' ≡ place + length head
  again : (other : List ℕ) → IsStop place into (head ++ byte ∷ other) (Unsupported byte where')
  goes : GoesLine into head
  alike : Alike rest (head ++ goes.close)

record EndsInLine (place : ℕ) (into : Option Redirect) (rest : List ℕ) (byte where' : ℕ) : Type 0 where
  head : List ℕ
  back : List ℕ
  cut : rest ≡ head ++ byte ∷ back
  at : where' ≡ place + length head
  goes : GoesLine into (head ++ byte ∷ [])
  asks : Asks byte back

abbrev FirstStop : ℕ → Option Redirect → List ℕ → WordFault → Type 0
FirstStop place into rest OpenQuote = GoesLine into rest
FirstStop place into rest (Unsupported byte where') = InLine place into rest byte where' ⊎ EndsInLine place into rest byte where'
FirstStop place into rest Memory = ⊥

a_word : (into : Option Redirect) (front : List ℕ) → GoesWord front → GoesLine into front
a_word into front goes = record {
  close = goes.close;
  words = goes.word ∷ [];
  after = into;
  is = subst (λ t. IsFront into t (goes.word ∷ []) into []) (append-nil (front ++ goes.close))
      (IsFront.word into into (front ++ goes.close) goes.word [] [] [] goes.is (IsFront.nothing into []));
}

word_in_line : (place : ℕ) (into : Option Redirect) (rest head : List ℕ) (byte where' : ℕ) (back : List ℕ) → rest ≡ head ++ byte ∷ back → where' ≡ place + length head →
    ((other : List ℕ) → IsBroken place (head ++ byte ∷ other) (Unsupported byte where')) → GoesWord head → InLine place into rest byte where'
word_in_line place into rest [] byte where' back cut at again goes = record {
  head = [];
  back = back;
  cut = cut;
  at = at;
  again = λ other. IsStop.word into (byte ∷ other) (Unsupported byte where') (again other);
  goes = record { close = []; words = []; after = into; is = IsFront.nothing into [] };
  alike = alike_nil rest;
}
word_in_line place into rest (b ∷ head) byte where' back cut at again goes = record {
  head = b ∷ head;
  back = back;
  cut = cut;
  at = at;
  again = λ other. IsStop.word into ((b ∷ head) ++ byte ∷ other) (Unsupported byte where') (again other);
  goes = a_word into (b ∷ head) goes;
  alike =
      let close : List ℕ = (a_word into (b ∷ head) goes).close in
      subst (λ t. Alike t ((b ∷ head) ++ close)) (sym cut) (alike_begin b (head ++ byte ∷ back) (head ++ close));
}

word_first : (place : ℕ) (into : Option Redirect) (text : List ℕ) (why : WordFault) → FirstBroken place text why → FirstStop place into text why
word_first place into text OpenQuote goes = a_word into text goes
word_first place into text (Unsupported byte where') (inl m) = inl (word_in_line place into text m.head byte where' m.back m.cut m.at m.again m.goes)
word_first place into text (Unsupported byte where') (inr e) = inr (record {
  head = e.head;
  back = [];
  cut = e.cut ∙ ap (λ b. e.head ++ b ∷ []) (sym e.slash);
  at = e.at;
  goes = subst (GoesLine into) (e.cut ∙ ap (λ b. e.head ++ b ∷ []) (sym e.slash)) (a_word into text e.goes);
  asks = subst (λ b. Asks b []) (sym e.slash) Asks.backslash;
})
word_first place into text Memory first = first

alike_filled : (head : List ℕ) (byte : ℕ) (back other : List ℕ) → 0 < length head → Alike (head ++ byte ∷ back) (head ++ other)
alike_filled [] byte back other filled = absurd (omega (arith, filled))
alike_filled (b ∷ head) byte back other filled = alike_begin b (head ++ byte ∷ back) (head ++ other)

filled_size : (append : Bool) → 0 < size append
filled_size true = omega arith
filled_size false = omega arith

module _ (append : Bool) (text blanks rest : List ℕ) (place : ℕ) (is : IsOperator append text (blanks ++ rest)) (are : IsTrue (are_blanks blanks)) where
  -- the operator's own bytes
  mark : List ℕ
  mark = (operator_again append text (blanks ++ rest) is).head

  mark_cut : text ≡ mark ++ (blanks ++ rest)
  unfolding mark
  mark_cut = (operator_again append text (blanks ++ rest) is).cut

  mark_long : length mark ≡ size append
  unfolding mark
  mark_long = (operator_again append text (blanks ++ rest) is).long

  mark_again : (other : List ℕ) → (begins_operator other ≡ true → begins_operator (blanks ++ rest) ≡ true) → IsOperator append (mark ++ other) other
  unfolding mark
  mark_again = (operator_again append text (blanks ++ rest) is).again

  -- an operator, blanks and a word
  target_goes : (front : List ℕ) → GoesWord front → GoesLine None (mark ++ (blanks ++ front))
  target_goes front goes =
      let word : List ℕ = front ++ goes.close in
      let free : begins_operator (blanks ++ (word ++ [])) ≡ false = blanks_no_operator blanks (word ++ []) are (word_no_operator (word ++ []) (word_inside word goes.word [] goes.is)) in
      let operator : IsOperator append (mark ++ (blanks ++ (word ++ []))) (blanks ++ (word ++ [])) = mark_again (blanks ++ (word ++ [])) (λ begins. absurd (false≢true (sym free ∙ begins))) in
      let regroup : mark ++ (blanks ++ (word ++ [])) ≡ (mark ++ (blanks ++ front)) ++ goes.close =
      ap (λ t. mark ++ (blanks ++ t)) (append-nil word) ∙ sym (append_assoc mark (blanks ++ front) goes.close ∙ ap (λ t. mark ++ t) (append_assoc blanks front goes.close)) in
      record {
        close = goes.close;
        words = [];
        after = Some (record { append = append; word = goes.word });
        is = subst (λ t. IsFront None t [] (Some (record { append = append; word = goes.word })) []) regroup
            (IsFront.target (Some (record { append = append; word = goes.word })) append (mark ++ (blanks ++ (word ++ []))) blanks word goes.word [] [] [] operator are goes.is
            (IsFront.nothing (Some (record { append = append; word = goes.word })) []));
      }

  length_head : (head : List ℕ) → length (mark ++ (blanks ++ head)) ≡ size append + length blanks + length head
  length_head head = omega (arith, length-append mark (blanks ++ head), length-append blanks head, mark_long)

  -- a byte at fault in the place of a target
  in_target : (head : List ℕ) (byte : ℕ) (back : List ℕ) (where' : ℕ) → rest ≡ head ++ byte ∷ back → where' ≡ place + size append + length blanks + length head →
      ((other : List ℕ) → IsOperator append (mark ++ (blanks ++ (head ++ byte ∷ other))) (blanks ++ (head ++ byte ∷ other)) → IsStop place None (mark ++ (blanks ++ (head ++ byte ∷ other))) (Unsupported byte where')) →
      GoesWord head → InLine place None text byte where'
  in_target head byte back where' cut at again goes =
      let regroup : (end : List ℕ) → mark ++ (blanks ++ (head ++ end)) ≡ (mark ++ (blanks ++ head)) ++ end =
      λ end. sym (append_assoc mark (blanks ++ head) end ∙ ap (λ t. mark ++ t) (append_assoc blanks head end)) in
      let whole : text ≡ (mark ++ (blanks ++ head)) ++ byte ∷ back = mark_cut ∙ (ap (λ t. mark ++ (blanks ++ t)) cut ∙ regroup (byte ∷ back)) in
      let only : (other : List ℕ) → begins_operator (blanks ++ (head ++ byte ∷ other)) ≡ true → begins_operator (blanks ++ rest) ≡ true =
      λ other begins. ap (λ t. begins_operator (blanks ++ t)) cut
      ∙ (alike_append blanks (head ++ byte ∷ back) (head ++ byte ∷ other) (alike_append head (byte ∷ back) (byte ∷ other) (alike_begin byte back other))).operator begins in
      let line : GoesLine None (mark ++ (blanks ++ head)) = target_goes head goes in
      record {
        head = mark ++ (blanks ++ head);
        back = back;
        cut = whole;
        at = omega (arith, at, length_head head);
        again = λ other.
            subst (λ t. IsStop place None t (Unsupported byte where')) (regroup (byte ∷ other)) (again other (mark_again (blanks ++ (head ++ byte ∷ other)) (only other)));
        goes = line;
        alike = subst (λ t. Alike t ((mark ++ (blanks ++ head)) ++ line.close)) (sym whole)
            (alike_filled (mark ++ (blanks ++ head)) byte back line.close (omega (arith, length_head head, filled_size append)));
      }

  target_first : (why : WordFault) → FirstBroken (place + size append + length blanks) rest why → FirstStop place None text why
  target_first OpenQuote goes = subst (GoesLine None) (sym mark_cut) (target_goes rest goes)
  target_first (Unsupported byte where') (inl m) =
      inl (in_target m.head byte m.back where' m.cut m.at
      (λ other operator. IsStop.target append (mark ++ (blanks ++ (m.head ++ byte ∷ other))) blanks (m.head ++ byte ∷ other) (Unsupported byte where') operator are (m.again other)) m.goes)
  target_first (Unsupported byte where') (inr e) =
      let whole : text ≡ (mark ++ (blanks ++ e.head)) ++ byte ∷ [] =
      mark_cut ∙ (ap (λ t. mark ++ (blanks ++ t)) (e.cut ∙ ap (λ b. e.head ++ b ∷ []) (sym e.slash)) ∙ sym (append_assoc mark (blanks ++ e.head) (byte ∷ []) ∙ ap (λ t. mark ++ t) (append_assoc blanks e.head (byte ∷ [])))) in
      inr (record {
        head = mark ++ (blanks ++ e.head);
        back = [];
        cut = whole;
        at = omega (arith, e.at, length_head e.head);
        goes = subst (GoesLine None) (sym mark_cut ∙ whole) (target_goes rest e.goes);
        asks = subst (λ b. Asks b []) (sym e.slash) Asks.backslash;
      })
  target_first Memory first = first

first_stop : (place : ℕ) (into : Option Redirect) (rest : List ℕ) (why : WordFault) → IsStop place into rest why → FirstStop place into rest why
first_stop place into rest why (IsStop.word i text fault broken) = word_first place i text fault (first_broken place text fault broken)
first_stop place into rest why (IsStop.second i back) = inl (record {
  head = [];
  back = back;
  cut = refl;
  at = omega arith;
  again = λ other. IsStop.second i other;
  goes = record { close = []; words = []; after = Some i; is = IsFront.nothing (Some i) [] };
  alike = alike_nil (62 ∷ back);
})
first_stop place into rest why (IsStop.no_target append text blanks end operator are over) =
    let w = writes_operator append text (blanks ++ end) operator in
    let target : Redirect = record { append = false; word = 97 ∷ [] } in
    inr (record {
      head = [];
      back = w.rest;
      cut = w.cut;
      at = omega arith;
      goes = record {
        close = 97 ∷ [];
        words = [];
        after = Some target;
        is = IsFront.target (Some target) false (62 ∷ 97 ∷ []) [] (97 ∷ []) (97 ∷ []) [] [] [] (IsOperator.one (97 ∷ []) refl) refl letter (IsFront.nothing (Some target) []);
      };
      asks = Asks.operator append w.rest blanks end (subst (λ t. IsOperator append t (blanks ++ end)) w.cut operator) are over;
    })
first_stop place into rest why (IsStop.operator append text blanks back operator are) =
    let where' : ℕ = place + size append + length blanks in
    inl (in_target append text blanks (62 ∷ back) place operator are [] 62 back where' refl (omega arith)
    (λ other again. IsStop.operator append (mark append text blanks (62 ∷ back) place operator are ++ (blanks ++ 62 ∷ other)) blanks other again are)
    (record { close = 97 ∷ []; word = 97 ∷ []; is = letter }))
first_stop place into rest why (IsStop.target append text blanks back fault operator are broken) =
    target_first append text blanks back place operator are fault (first_broken (place + size append + length blanks) back fault broken)

-- 2. Texts.

module _ (text : List ℕ) (words : Names) (into : Option Redirect) (rest : List ℕ) (front : IsFront None text words into rest) where
  head_of : List ℕ
  head_of = (front_again None into text rest words front).head

  head_cut : text ≡ head_of ++ rest
  unfolding head_of
  head_cut = (front_again None into text rest words front).cut

  head_again : (other : List ℕ) → Alike rest other → IsFront None (head_of ++ other) words into other
  unfolding head_of
  head_again = (front_again None into text rest words front).again

  head_place : length text - length rest ≡ length head_of
  head_place = omega (arith, ap length head_cut, length-append head_of rest)

  begins_with : (front : List ℕ) (goes : GoesLine into front) → Alike rest (front ++ goes.close) → Begins (head_of ++ front)
  begins_with front goes alike = record {
    back = goes.close;
    line = record { words = words ++ goes.words; into = goes.after };
    is = record {
      rest = [];
      front = subst (λ t. IsFront None t (words ++ goes.words) goes.after []) (sym (append_assoc head_of front goes.close))
          (front_then None into goes.after (head_of ++ (front ++ goes.close)) (front ++ goes.close) [] words goes.words (head_again (front ++ goes.close) alike) goes.is);
      over = refl;
    };
  }

  misfit : (byte where' : ℕ) → InLine (length text - length rest) into rest byte where' → IsMisfit text byte where'
  misfit byte where' m = record {
    front = head_of ++ m.head;
    back = m.back;
    cut = head_cut ∙ (ap (λ t. head_of ++ t) m.cut ∙ sym (append_assoc head_of m.head (byte ∷ m.back)));
    at = omega (arith, m.at, head_place, length-append head_of m.head);
    begins = begins_with m.head m.goes m.alike;
    no_further = λ b. further b.back b.line b.is;
  }
    where
      further : (back : List ℕ) (line : Line) → IsLine (((head_of ++ m.head) ++ byte ∷ []) ++ back) line → ⊥
      further back line is =
          let other : List ℕ = m.head ++ byte ∷ back in
          let alike : Alike rest other = subst (λ t. Alike t other) (sym m.cut) (alike_append m.head (byte ∷ m.back) (byte ∷ back) (alike_begin byte m.back back)) in
          let regroup : ((head_of ++ m.head) ++ byte ∷ []) ++ back ≡ head_of ++ other = append_assoc (head_of ++ m.head) (byte ∷ []) back ∙ append_assoc head_of m.head (byte ∷ back) in
          let same : length text - length rest ≡ length (head_of ++ other) - length other = omega (arith, head_place, length-append head_of other) in
          let fault : IsFault (head_of ++ other) (Unsupported byte where') =
          record { words = words; into = into; rest = other; front = head_again other alike; stop = subst (λ p. IsStop p into other (Unsupported byte where')) same (m.again back) } in
          let read : line_of (head_of ++ other) ≡ Ok line = line_runs (head_of ++ other) line (subst (λ t. IsLine t line) regroup is) in
          let clash : Err (Unsupported byte where') ≡ Ok line = sym (fault_runs (head_of ++ other) (Unsupported byte where') fault) ∙ read in
          cc

  early : (byte where' : ℕ) → EndsInLine (length text - length rest) into rest byte where' → EndsEarly text byte where'
  early byte where' e =
      let filled : Alike rest ((e.head ++ byte ∷ []) ++ e.goes.close) =
      subst (λ t. Alike t ((e.head ++ byte ∷ []) ++ e.goes.close)) (sym e.cut)
      (subst (Alike (e.head ++ byte ∷ e.back)) (sym (append_assoc e.head (byte ∷ []) e.goes.close)) (alike_append e.head (byte ∷ e.back) (byte ∷ e.goes.close) (alike_begin byte e.back e.goes.close))) in
      record {
        front = head_of ++ e.head;
        back = e.back;
        cut = head_cut ∙ (ap (λ t. head_of ++ t) e.cut ∙ sym (append_assoc head_of e.head (byte ∷ e.back)));
        at = omega (arith, e.at, head_place, length-append head_of e.head);
        begins = subst Begins (sym (append_assoc head_of e.head (byte ∷ []))) (begins_with (e.head ++ byte ∷ []) e.goes filled);
        asks = e.asks;
      }

  -- a text and what closes it are alike, as it isn't empty
  closed_alike : (goes : GoesLine into rest) → 0 < length rest → Alike rest (rest ++ goes.close)
  closed_alike goes filled = by rest goes.close filled
    where
      by : (t other : List ℕ) → 0 < length t → Alike t (t ++ other)
      by [] other filled = absurd (omega (arith, filled))
      by (b ∷ t) other filled = alike_begin b t (t ++ other)

  unclosed : (goes : GoesLine into rest) → 0 < length rest → Begins text
  unclosed goes filled = subst Begins (sym head_cut) (begins_with rest goes (closed_alike goes filled))

-- where something is at fault, something is there
stop_filled : (place : ℕ) (into : Option Redirect) (rest : List ℕ) (why : WordFault) → IsStop place into rest why → 0 < length rest
stop_filled place into rest why stop = by rest (stop_fails [] into place rest why stop).inside
  where
    by : (t : List ℕ) → is_over t ≡ false → 0 < length t
    by [] inside = absurd (true≢false inside)
    by (b ∷ t) inside = omega arith

first_fault : (text : List ℕ) (byte where' : ℕ) → IsFault text (Unsupported byte where') → IsMisfit text byte where' ⊎ EndsEarly text byte where'
first_fault text byte where' is = by (first_stop (length text - length is.rest) is.into is.rest (Unsupported byte where') is.stop)
  where
    by : FirstStop (length text - length is.rest) is.into is.rest (Unsupported byte where') → IsMisfit text byte where' ⊎ EndsEarly text byte where'
    by (inl m) = inl (misfit text is.words is.into is.rest is.front byte where' m)
    by (inr e) = inr (early text is.words is.into is.rest is.front byte where' e)

-- a byte that is named is the first with which no line goes on, or a line ends too early after it
pub unsupported_first : (text : List ℕ) (byte place : ℕ) → line_of text ≡ Err (Unsupported byte place) → IsMisfit text byte place ⊎ EndsEarly text byte place
unsupported_first text byte place e = first_fault text byte place ((text_fault text (Unsupported byte place)).1 e)

-- where a quote doesn't close, some line begins with the whole text
pub open_begins : (text : List ℕ) → line_of text ≡ Err OpenQuote → Begins text
open_begins text e =
    let is = (text_fault text OpenQuote).1 e in
    unclosed text is.words is.into is.rest is.front (first_stop (length text - length is.rest) is.into is.rest OpenQuote is.stop) (stop_filled (length text - length is.rest) is.into is.rest OpenQuote is.stop)
