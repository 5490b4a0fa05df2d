-- What becomes of a line up to the first place where the pattern stands, and after it; and of lines, one by one.
use Rattle.std.proofs.Common.{◌≡◌, ℕ, zero, suc, ◌-◌, ◌<◌, Bool, true, false, cond, not, ◌&&◌, ◌||◌, ◌==◌, nat_eq, List, [], ◌∷◌, ◌++◌, length, take, drop, refl, ap, sym, ◌∙◌, arith, append_assoc, length-drop}
use Rattle.std.proofs.lemmas.List.{append-nil}
use Rattle.std.proofs.lemmas.Bool.{and_parts}
use Rattle.std.specs.List.{starts_with}
use Rattle.tree_ops.specs.Walk.{is_filled}
use Rattle.sh_text.specs.declared.script.Script.{Script}
use Rattle.sh_text.specs.Editing.{stands, goes_on, edited_from, edited, edited_lines}
use Rattle.sh_text.specs.Finding.{StandsNowhere, StandsFirst}
use Rattle.sh_text.proofs.Finding.{StandsFirst-fits}

-- a text that isn't empty is no front of nothing
never_empty : (bytes : List ℕ) → is_filled bytes ≡ true → starts_with nat_eq [] bytes ≡ false
never_empty [] filled = cc
never_empty (byte ∷ bytes) filled = refl

not_filled : (bytes : List ℕ) → starts_with nat_eq [] bytes ≡ true → bytes ≡ []
not_filled [] is = refl
not_filled (byte ∷ bytes) is = cc

filled_length : (bytes : List ℕ) → is_filled bytes ≡ true → 0 < length bytes
filled_length [] filled = cc
filled_length (byte ∷ bytes) filled = omega arith

and_first : (p q r : Bool) → p ≡ false → (p && q && r) ≡ false
and_first true q r is = cc
and_first false q r is = refl

first_of_three : (p q r : Bool) → (p && q && r) ≡ true → p ≡ true
first_of_three true q r is = refl
first_of_three false q r is = is

module _ (script : Script) where
  going_filled : goes_on script ≡ true → is_filled script.pattern.bytes ≡ true
  going_filled is = (and_parts script.each (is_filled script.pattern.bytes) is).1

  -- what comes where the pattern stands
  edited_here : List ℕ → List ℕ
  edited_here rest =
      cond (goes_on script) (script.replacement ++ edited_from script false 0 (drop (length script.pattern.bytes) rest)) (script.replacement ++ drop (length script.pattern.bytes) rest)

  stands-empty : (beginning : Bool) → is_filled script.pattern.bytes ≡ true → stands script.pattern beginning [] ≡ false
  stands-empty beginning filled =
      and_first (starts_with nat_eq [] script.pattern.bytes) (beginning || not script.pattern.begins) (0 == length script.pattern.bytes || not script.pattern.ends) (never_empty script.pattern.bytes filled)

  edited_skip : is_filled script.pattern.bytes ≡ true → (passed : ℕ) (rest : List ℕ) → edited_from script false passed rest ≡ edited_from script false 0 (drop passed rest)
  edited_skip filled zero rest = refl
  edited_skip filled (suc passed) [] = sym (ap (λ q. cond q script.replacement []) (stands-empty false filled))
  edited_skip filled (suc passed) (byte ∷ rest) = edited_skip filled passed rest

  pub edited_nowhere : (beginning : Bool) (rest : List ℕ) → StandsNowhere script.pattern beginning rest → edited_from script beginning 0 rest ≡ rest
  edited_nowhere beginning [] is = ap (λ q. cond q script.replacement []) is
  edited_nowhere beginning (byte ∷ rest) (is, more) =
      ap (λ q. cond (not q) (byte ∷ edited_from script false 0 rest)
      (cond (goes_on script) (script.replacement ++ edited_from script false (length script.pattern.bytes - 1) rest) (script.replacement ++ drop (length script.pattern.bytes) (byte ∷ rest)))) is
      ∙ ap (λ text. byte ∷ text) (edited_nowhere false rest more)

  here_empty : (bytes : List ℕ) → bytes ≡ script.pattern.bytes → bytes ≡ [] → script.replacement ≡ edited_here []
  unfolding edited_here
  here_empty bytes same none =
      let e : script.pattern.bytes ≡ [] = sym same ∙ none in
      let f : goes_on script ≡ false = ap (λ b. script.each && is_filled b) e ∙ off script.each in
      sym (ap (λ q. cond q (script.replacement ++ edited_from script false 0 (drop (length script.pattern.bytes) [])) (script.replacement ++ drop (length script.pattern.bytes) [])) f
      ∙ (ap (λ b. script.replacement ++ drop (length b) []) e ∙ append-nil script.replacement))
    where
      off : (q : Bool) → (q && false) ≡ false
      off true = refl
      off false = refl

  here_more : (byte : ℕ) (rest : List ℕ) (q : Bool) → goes_on script ≡ q
      → cond q (script.replacement ++ edited_from script false (length script.pattern.bytes - 1) rest) (script.replacement ++ drop (length script.pattern.bytes) (byte ∷ rest))
      ≡ cond q (script.replacement ++ edited_from script false 0 (drop (length script.pattern.bytes) (byte ∷ rest))) (script.replacement ++ drop (length script.pattern.bytes) (byte ∷ rest))
  here_more byte rest true is =
      let filled = going_filled is in
      let some = filled_length script.pattern.bytes filled in
      let n : suc (length script.pattern.bytes - 1) ≡ length script.pattern.bytes = omega arith in
      ap (λ text. script.replacement ++ text) (edited_skip filled (length script.pattern.bytes - 1) rest ∙ ap (λ n. edited_from script false 0 (drop n (byte ∷ rest))) n)
  here_more byte rest false is = refl

  edited_first : (place : ℕ) (beginning : Bool) (rest : List ℕ) → StandsFirst script.pattern beginning place rest → edited_from script beginning 0 rest ≡ take place rest ++ edited_here (drop place rest)
  unfolding edited_here
  edited_first zero beginning [] is =
      ap (λ q. cond q script.replacement []) is
      ∙ here_empty script.pattern.bytes refl (not_filled script.pattern.bytes
      (first_of_three (starts_with nat_eq [] script.pattern.bytes) (beginning || not script.pattern.begins) (0 == length script.pattern.bytes || not script.pattern.ends) is))
  edited_first zero beginning (byte ∷ rest) is =
      ap (λ q. cond (not q) (byte ∷ edited_from script false 0 rest)
      (cond (goes_on script) (script.replacement ++ edited_from script false (length script.pattern.bytes - 1) rest) (script.replacement ++ drop (length script.pattern.bytes) (byte ∷ rest)))) is
      ∙ here_more byte rest (goes_on script) refl
  edited_first (suc place) beginning [] first = absurd first
  edited_first (suc place) beginning (byte ∷ rest) (is, more) =
      ap (λ q. cond (not q) (byte ∷ edited_from script false 0 rest)
      (cond (goes_on script) (script.replacement ++ edited_from script false (length script.pattern.bytes - 1) rest) (script.replacement ++ drop (length script.pattern.bytes) (byte ∷ rest)))) is
      ∙ ap (λ text. byte ∷ text) (edited_first place false rest more)

  pub edited_once : (place : ℕ) (beginning : Bool) (rest : List ℕ) → goes_on script ≡ false → StandsFirst script.pattern beginning place rest
      → edited_from script beginning 0 rest ≡ take place rest ++ (script.replacement ++ drop (length script.pattern.bytes) (drop place rest))
  unfolding edited_here
  edited_once place beginning rest is first = edited_first place beginning rest first ∙ ap (λ q. take place rest ++ cond q
      (script.replacement ++ edited_from script false 0 (drop (length script.pattern.bytes) (drop place rest))) (script.replacement ++ drop (length script.pattern.bytes) (drop place rest))) is

  pub edited_each : (place : ℕ) (beginning : Bool) (rest : List ℕ) → goes_on script ≡ true → StandsFirst script.pattern beginning place rest
      → edited_from script beginning 0 rest ≡ take place rest ++ (script.replacement ++ edited_from script false 0 (drop (length script.pattern.bytes) (drop place rest)))
  unfolding edited_here
  edited_each place beginning rest is first = edited_first place beginning rest first ∙ ap (λ q. take place rest ++ cond q
      (script.replacement ++ edited_from script false 0 (drop (length script.pattern.bytes) (drop place rest))) (script.replacement ++ drop (length script.pattern.bytes) (drop place rest))) is

  -- a line that is put: what was put, and what is still to be put

  pub line_end : (start text out rest : List ℕ) (beginning : Bool) → start ++ text ≡ out ++ edited_from script beginning 0 rest → StandsNowhere script.pattern beginning rest → out ++ rest ≡ start ++ text
  line_end start text out rest beginning is never = sym (is ∙ ap (λ t. out ++ t) (edited_nowhere beginning rest never))

  joined : (out front more : List ℕ) → (out ++ (front ++ script.replacement)) ++ more ≡ out ++ (front ++ (script.replacement ++ more))
  joined out front more = append_assoc out (front ++ script.replacement) more ∙ ap (λ t. out ++ t) (append_assoc front script.replacement more)

  pub line_last : (start text out rest : List ℕ) (beginning : Bool) (place : ℕ) → start ++ text ≡ out ++ edited_from script beginning 0 rest → StandsFirst script.pattern beginning place rest → goes_on script ≡ false
      → (out ++ (take place rest ++ script.replacement)) ++ drop (length script.pattern.bytes) (drop place rest) ≡ start ++ text
  line_last start text out rest beginning place is first once =
      joined out (take place rest) (drop (length script.pattern.bytes) (drop place rest)) ∙ sym (is ∙ ap (λ t. out ++ t) (edited_once place beginning rest once first))

  pub line_on : (start text out rest : List ℕ) (beginning : Bool) (place : ℕ) → start ++ text ≡ out ++ edited_from script beginning 0 rest → StandsFirst script.pattern beginning place rest → goes_on script ≡ true
      → start ++ text ≡ (out ++ (take place rest ++ script.replacement)) ++ edited_from script false 0 (drop (length script.pattern.bytes) (drop place rest))
  line_on start text out rest beginning place is first each =
      is ∙ (ap (λ t. out ++ t) (edited_each place beginning rest each first) ∙ sym (joined out (take place rest) (edited_from script false 0 (drop (length script.pattern.bytes) (drop place rest)))))

  pub line_less : (rest : List ℕ) (beginning : Bool) (place : ℕ) → StandsFirst script.pattern beginning place rest → goes_on script ≡ true → length (drop (length script.pattern.bytes) (drop place rest)) < length rest
  line_less rest beginning place first each =
      let fits = StandsFirst-fits script.pattern beginning place rest first in
      let some = filled_length script.pattern.bytes (going_filled each) in
      omega (arith, length-drop (length script.pattern.bytes) (drop place rest), length-drop place rest)

  -- lines, of which one is the last

  pub lines_more : (line : List ℕ) (more : List (List ℕ)) (last : List ℕ) → edited_lines script (line ∷ (more ++ last ∷ [])) ≡ edited script line ++ (10 ∷ edited_lines script (more ++ last ∷ []))
  lines_more line [] last = refl
  lines_more line (next ∷ more) last = refl
