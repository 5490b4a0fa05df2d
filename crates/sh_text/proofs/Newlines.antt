-- The newlines of a text that is edited.
use Rattle.std.proofs.Common.{◌≡◌, ℕ, zero, suc, ◌+◌, ◌-◌, Bool, true, false, cond, not, ◌==◌, List, [], ◌∷◌, ◌++◌, length, drop, refl, ap, sym, subst, ◌∙◌, arith}
use Rattle.std.specs.Prelude.{count_by}
use Rattle.std.specs.List.{slice_split, onto_first}
use Rattle.std.proofs.lemmas.List.Sums.{sum_by-append, sum_by-cons}
use Rattle.std.proofs.lemmas.List.Splits.{length-slice_split}
use Rattle.sh_text.specs.declared.script.Script.{Script}
use Rattle.sh_text.specs.Editing.{stands, goes_on, edited_from, edited, edited_last, edited_lines, edited_text}

newlines : List ℕ → ℕ
newlines text = count_by (λ byte. byte == 10) text

is_newline : ℕ → ℕ
is_newline byte = cond (byte == 10) 1 0

newlines-cons : (byte : ℕ) (text : List ℕ) → newlines (byte ∷ text) ≡ is_newline byte + newlines text
unfolding newlines is_newline
newlines-cons byte text = sum_by-cons (λ b. cond (b == 10) 1 0) byte text

newlines-append : (one other : List ℕ) → newlines (one ++ other) ≡ newlines one + newlines other
unfolding newlines
newlines-append one other = sum_by-append (λ b. cond (b == 10) 1 0) one other

newlines-none : newlines [] ≡ 0
unfolding newlines
newlines-none = refl

newlines-drop : (n : ℕ) (text : List ℕ) → newlines text ≡ 0 → newlines (drop n text) ≡ 0
newlines-drop zero text none = none
newlines-drop (suc n) [] none = none
newlines-drop (suc n) (byte ∷ text) none = let e = newlines-cons byte text in newlines-drop n text (omega arith)

module _ (script : Script) (plain : newlines script.replacement ≡ 0) where
  cond_none : (q : Bool) (one other : List ℕ) → newlines one ≡ 0 → newlines other ≡ 0 → newlines (cond q one other) ≡ 0
  cond_none true one other first second = first
  cond_none false one other first second = second

  from_none : (beginning : Bool) (passed : ℕ) (rest : List ℕ) → newlines rest ≡ 0 → newlines (edited_from script beginning passed rest) ≡ 0
  from_none beginning zero [] none = cond_none (stands script.pattern beginning []) script.replacement [] plain newlines-none
  from_none beginning (suc passed) [] none = newlines-none
  from_none beginning (suc passed) (byte ∷ rest) none = let e = newlines-cons byte rest in from_none false passed rest (omega arith)
  from_none beginning zero (byte ∷ rest) none =
      let e = newlines-cons byte rest in
      let further = from_none false 0 rest (omega arith) in
      let passing = from_none false (length script.pattern.bytes - 1) rest (omega arith) in
      let behind = newlines-drop (length script.pattern.bytes) (byte ∷ rest) none in
      cond_none (not (stands script.pattern beginning (byte ∷ rest))) (byte ∷ edited_from script false 0 rest)
      (cond (goes_on script) (script.replacement ++ edited_from script false (length script.pattern.bytes - 1) rest) (script.replacement ++ drop (length script.pattern.bytes) (byte ∷ rest)))
      (omega (arith, newlines-cons byte (edited_from script false 0 rest)))
      (cond_none (goes_on script) (script.replacement ++ edited_from script false (length script.pattern.bytes - 1) rest) (script.replacement ++ drop (length script.pattern.bytes) (byte ∷ rest))
      (omega (arith, newlines-append script.replacement (edited_from script false (length script.pattern.bytes - 1) rest)))
      (omega (arith, newlines-append script.replacement (drop (length script.pattern.bytes) (byte ∷ rest)))))

  last_none : (line : List ℕ) → newlines line ≡ 0 → newlines (edited_last script line) ≡ 0
  last_none [] none = none
  last_none (byte ∷ line) none = from_none true 0 (byte ∷ line) none

  AreFree : List (List ℕ) → Type 0
  AreFree [] = Unit {0}
  AreFree (line ∷ lines) = (newlines line ≡ 0) × AreFree lines

  free_onto : (byte : ℕ) (lines : List (List ℕ)) → (byte == 10) ≡ false → AreFree lines → AreFree (onto_first byte lines)
  unfolding AreFree is_newline
  free_onto byte [] is_no free = (newlines-cons byte [] ∙ (ap (λ q. cond q 1 0 + newlines []) is_no ∙ (let e = newlines-none in omega arith)), tt)
  free_onto byte (line ∷ lines) is_no (none, free) = (newlines-cons byte line ∙ (ap (λ q. cond q 1 0 + newlines line) is_no ∙ (omega arith)), free)

  free_split : (text : List ℕ) → AreFree (slice_split (λ byte. byte == 10) text)
  unfolding AreFree
  free_split [] = (newlines-none, tt)
  free_split (byte ∷ text) = by (free_split text) (byte == 10) refl
    where
      by : AreFree (slice_split (λ b. b == 10) text) → (q : Bool) → (byte == 10) ≡ q → AreFree (cond (byte == 10) ([] ∷ slice_split (λ b. b == 10) text) (onto_first byte (slice_split (λ b. b == 10) text)))
      by free true is_yes = subst (λ q. AreFree (cond q ([] ∷ slice_split (λ b. b == 10) text) (onto_first byte (slice_split (λ b. b == 10) text)))) (sym is_yes) (newlines-none, free)
      by free false is_no = subst (λ q. AreFree (cond q ([] ∷ slice_split (λ b. b == 10) text) (onto_first byte (slice_split (λ b. b == 10) text)))) (sym is_no) (free_onto byte (slice_split (λ b. b == 10) text) is_no free)

  lines_count : (line : List ℕ) (lines : List (List ℕ)) → AreFree (line ∷ lines) → newlines (edited_lines script (line ∷ lines)) ≡ length lines
  unfolding AreFree is_newline
  lines_count line [] (none, free) = last_none line none
  lines_count line (next ∷ lines) (none, free) =
      let here = from_none true 0 line none in
      let more = lines_count next lines free in
      omega (arith, newlines-append (edited script line) (10 ∷ edited_lines script (next ∷ lines)), newlines-cons 10 (edited_lines script (next ∷ lines)))

  split_count : (lines : List (List ℕ)) (n : ℕ) → AreFree lines → length lines ≡ n + 1 → newlines (edited_lines script lines) ≡ n
  split_count [] n free is = absurd (omega arith)
  split_count (line ∷ lines) n free is = lines_count line lines free ∙ (omega arith)

pub newlines_kept : (script : Script) (text : List ℕ) → count_by (λ byte. byte == 10) script.replacement ≡ 0 → count_by (λ byte. byte == 10) (edited_text script text) ≡ count_by (λ byte. byte == 10) text
unfolding newlines
newlines_kept script text plain =
    split_count script plain (slice_split (λ byte. byte == 10) text) (newlines text) (free_split script plain text) (length-slice_split (λ byte. byte == 10) text)
