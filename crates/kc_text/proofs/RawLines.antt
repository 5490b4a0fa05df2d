-- What one raw line does to the lines that are read.
use Rattle.std.proofs.Common.{◌≡◌, ℕ, suc, ◌-◌, Bool, true, false, cond, List, [], ◌∷◌, ◌++◌, length, take, Option, Some, None, refl, sym, ap, ◌∙◌, length-append, arith}
use Rattle.std.specs.Prelude.{◌==◌, ◌&&◌}
use Rattle.std.proofs.lemmas.Bool.{eqb-true, eq-eqb, ne_eqb}
use Rattle.std.proofs.Math.Seq.{append_snoc, take-append_seam}
use Rattle.kc_text.specs.Lexer.{parts}
use Rattle.kc_text.specs.Lines.{Gathered, joins, joined, first_of, is_empty, is_help, is_blank_line, indent, help_behind, help_first, help_inside, put_parts, put_line, plain, take_as, take_line, gather, finish}
use Rattle.kc_text.specs.TextLines.{is_inside, is_help_line}
use Rattle.kc_text.specs.declared.part.Part.{Part}
use Rattle.kc_text.specs.declared.part.Part.TheVariants.{Word}
use Rattle.kc_text.specs.declared.part.Line.{Line}
use Rattle.kc_text.specs.declared.lines.Help.{Help}
use Rattle.kc_text.specs.declared.lines.Help.TheVariants.{Out, First, Indent}

abbrev pub state : List Line → List ℕ → ℕ → Help → Gathered
state done carry first help = record { lines = done; carry = carry; first = first; help = help }

-- the lines once the raw lines are read, of which the first has the number
abbrev pub run : Gathered → ℕ → List (List ℕ) → List Line
run g number raws = finish (gather g number raws)

joins_tail : (b c : ℕ) (bytes : List ℕ) → joins (b ∷ c ∷ bytes) ≡ joins (c ∷ bytes)
joins_tail b c bytes =
    let long : length (b ∷ c ∷ bytes) - 1 ≡ suc (length bytes) = omega arith in
    let short : length (c ∷ bytes) - 1 ≡ length bytes = omega arith in
    rw (long, short) refl

-- a raw line that joins ends in a backslash
pub joins_split : (raw : List ℕ) → joins raw ≡ true → (front : List ℕ) × (raw ≡ front ++ 92 ∷ [])
joins_split [] is = absurd (cc)
joins_split (b ∷ []) is = ([], ap (λ x. x ∷ []) (eqb-true b 92 is))
joins_split (b ∷ c ∷ bytes) is = let r = joins_split (c ∷ bytes) (sym (joins_tail b c bytes) ∙ is) in (b ∷ r.0, ap (λ x. b ∷ x) r.1)

pub joins_front : (front : List ℕ) → joins (front ++ 92 ∷ []) ≡ true
joins_front [] = refl
joins_front (b ∷ []) = joins_tail b 92 []
joins_front (b ∷ c ∷ front) = joins_tail b c (front ++ 92 ∷ []) ∙ joins_front (c ∷ front)

-- the backslash and its newline are one space
pub joined_front : (front raw : List ℕ) → joined (front ++ 92 ∷ []) raw ≡ front ++ 32 ∷ raw
joined_front [] raw = refl
joined_front (b ∷ front) raw =
    let same : length (front ++ 92 ∷ []) ≡ length (b ∷ front) = omega (arith, length-append front (92 ∷ [])) in
    ap (λ n. (take n (b ∷ (front ++ 92 ∷ [])) ++ 32 ∷ []) ++ raw) same ∙ (ap (λ t. (t ++ 32 ∷ []) ++ raw) (take-append_seam (b ∷ front) (92 ∷ [])) ∙ append_snoc (b ∷ front) 32 raw)

-- what waits isn't empty
pub waits : (front back : List ℕ) (b : ℕ) → (length (front ++ b ∷ back) == 0) ≡ false
waits front back b = ne_eqb _ 0 (λ none. absurd (omega (arith, none, length-append front (b ∷ back))))

pub first_waiting : (front : List ℕ) (first number : ℕ) → first_of (front ++ 92 ∷ []) first number ≡ first
first_waiting front first number = let some = waits front [] 92 in rw some refl

pub take_out : (done : List Line) (carry : List ℕ) (first number : ℕ) (raw : List ℕ) → take_line (state done carry first Out) number raw ≡ plain (state done carry first Out) number raw
unfolding take_line
take_out done carry first number raw = refl

pub plain_joins : (done : List Line) (carry : List ℕ) (first number : ℕ) (raw : List ℕ) → joins raw ≡ true →
    plain (state done carry first Out) number raw ≡ state done (joined carry raw) (first_of carry first number) Out
unfolding plain
plain_joins done carry first number raw is =
    ap (λ b. cond b (state done (joined carry raw) (first_of carry first number) Out) (put_line (state done (joined carry raw) (first_of carry first number) Out))) is

pub plain_whole : (done : List Line) (carry : List ℕ) (first number : ℕ) (raw : List ℕ) → joins raw ≡ false →
    plain (state done carry first Out) number raw ≡ put_line (state done (joined carry raw) (first_of carry first number) Out)
unfolding plain
plain_whole done carry first number raw is =
    ap (λ b. cond b (state done (joined carry raw) (first_of carry first number) Out) (put_line (state done (joined carry raw) (first_of carry first number) Out))) is

-- a raw line after those that wait
pub waiting_joins : (done : List Line) (front : List ℕ) (first number : ℕ) (raw : List ℕ) → joins raw ≡ true → take_line (state done (front ++ 92 ∷ []) first Out) number raw ≡ state done (front ++ 32 ∷ raw) first Out
waiting_joins done front first number raw is =
    take_out done (front ++ 92 ∷ []) first number raw ∙ (plain_joins done (front ++ 92 ∷ []) first number raw is
    ∙ (ap (λ c. state done c (first_of (front ++ 92 ∷ []) first number) Out) (joined_front front raw) ∙ ap (λ k. state done (front ++ 32 ∷ raw) k Out) (first_waiting front first number)))

pub waiting_whole : (done : List Line) (front : List ℕ) (first number : ℕ) (raw : List ℕ) → joins raw ≡ false → take_line (state done (front ++ 92 ∷ []) first Out) number raw ≡ put_line (state done (front ++ 32 ∷ raw) first Out)
waiting_whole done front first number raw is =
    take_out done (front ++ 92 ∷ []) first number raw ∙ (plain_whole done (front ++ 92 ∷ []) first number raw is
    ∙ (ap (λ c. put_line (state done c (first_of (front ++ 92 ∷ []) first number) Out)) (joined_front front raw) ∙ ap (λ k. put_line (state done (front ++ 32 ∷ raw) k Out)) (first_waiting front first number)))

-- a raw line where nothing waits
pub between_joins : (done : List Line) (first number : ℕ) (raw : List ℕ) → joins raw ≡ true → take_line (state done [] first Out) number raw ≡ state done raw number Out
between_joins done first number raw is = take_out done [] first number raw ∙ plain_joins done [] first number raw is

pub between_whole : (done : List Line) (first number : ℕ) (raw : List ℕ) → joins raw ≡ false → take_line (state done [] first Out) number raw ≡ put_line (state done raw number Out)
between_whole done first number raw is = take_out done [] first number raw ∙ plain_whole done [] first number raw is

pub put_empty : (done : List Line) (text : List ℕ) (first : ℕ) → is_empty (parts text) ≡ true → put_line (state done text first Out) ≡ state done [] first Out
unfolding put_line put_parts
put_empty done text first is =
    ap (λ b. cond b (state done [] first Out) (state (done ++ record { number = first; parts = parts text } ∷ []) [] first (help_behind (parts text)))) is

pub put_full : (done : List Line) (text : List ℕ) (first : ℕ) → is_empty (parts text) ≡ false →
    put_line (state done text first Out) ≡ state (done ++ record { number = first; parts = parts text } ∷ []) [] first (help_behind (parts text))
unfolding put_line put_parts
put_full done text first is =
    ap (λ b. cond b (state done [] first Out) (state (done ++ record { number = first; parts = parts text } ∷ []) [] first (help_behind (parts text)))) is

-- nothing waits after a whole line
pub finish_put : (done : List Line) (text : List ℕ) (first : ℕ) → finish (put_line (state done text first Out)) ≡ (put_line (state done text first Out)).lines
unfolding finish
finish_put done text first = by (is_empty (parts text)) refl
  where
    by : (b : Bool) → is_empty (parts text) ≡ b → finish (put_line (state done text first Out)) ≡ (put_line (state done text first Out)).lines
    by true is = ap finish (put_empty done text first is) ∙ ap (λ g. g.lines) (sym (put_empty done text first is))
    by false is = ap finish (put_full done text first is) ∙ ap (λ g. g.lines) (sym (put_full done text first is))

-- what waits at the end of the text is a whole line
pub finish_waiting : (done : List Line) (front back : List ℕ) (b first : ℕ) → finish (state done (front ++ b ∷ back) first Out) ≡ finish (put_line (state done (front ++ b ∷ back) first Out))
unfolding finish
finish_waiting done front back b first =
    ap (λ t. cond t done (put_line (state done (front ++ b ∷ back) first Out)).lines) (waits front back b) ∙ sym (finish_put done (front ++ b ∷ back) first)

pub finish_none : (done : List Line) (first : ℕ) (help : Help) → finish (state done [] first help) ≡ done
unfolding finish
finish_none done first help = refl

-- a line of one such word begins a block of help, and no other does
pub help_line : (found : Option (List Part)) → is_help_line found ≡ true → (is_empty found ≡ false) × (help_behind found ≡ First)
help_line None is = absurd (cc)
help_line (Some []) is = absurd (cc)
help_line (Some (Word word ∷ [])) is = (refl, ap (λ b. cond b First Out) is)
help_line (Some _) is = absurd (cc)

pub other_line : (found : Option (List Part)) → is_help_line found ≡ false → help_behind found ≡ Out
other_line None is = refl
other_line (Some []) is = refl
other_line (Some (Word word ∷ [])) is = ap (λ b. cond b First Out) is
other_line (Some (Word word ∷ part ∷ rest)) is = let some : (length (part ∷ rest) == 0) ≡ false = ne_eqb (length (part ∷ rest)) 0 (λ none. absurd (omega (arith, none))) in ap (λ b. cond (b && is_help word) First Out) some
other_line (Some _) is = refl

-- where a raw line stands after the first line of a block of help
pub first_blank : (raw : List ℕ) → is_blank_line raw ≡ true → help_first raw ≡ First
unfolding help_first
first_blank raw is = rw is refl

pub first_flush : (raw : List ℕ) → is_blank_line raw ≡ false → indent raw ≡ 0 → help_first raw ≡ Out
unfolding help_first
first_flush raw blank is = let none = eq-eqb (indent raw) 0 is in rw (blank, none) refl

pub first_indented : (raw : List ℕ) → is_blank_line raw ≡ false → (indent raw == 0) ≡ false → help_first raw ≡ Indent (indent raw)
unfolding help_first
first_indented raw blank is = rw (blank, is) refl

pub inside_stays : (least : ℕ) (raw : List ℕ) → is_inside least raw ≡ true → help_inside least raw ≡ Indent least
unfolding help_inside
inside_stays least raw is = ap (λ b. cond b (Indent least) Out) is

pub inside_ends : (least : ℕ) (raw : List ℕ) → is_inside least raw ≡ false → help_inside least raw ≡ Out
unfolding help_inside
inside_ends least raw is = ap (λ b. cond b (Indent least) Out) is

-- and what becomes of it
pub take_first : (done : List Line) (first number : ℕ) (raw : List ℕ) (help : Help) → help_first raw ≡ help → take_line (state done [] first First) number raw ≡ take_as help (state done [] first First) number raw
unfolding take_line
take_first done first number raw help is = ap (λ h. take_as h (state done [] first First) number raw) is

pub take_inside : (done : List Line) (first number least : ℕ) (raw : List ℕ) (help : Help) → help_inside least raw ≡ help →
    take_line (state done [] first (Indent least)) number raw ≡ take_as help (state done [] first (Indent least)) number raw
unfolding take_line
take_inside done first number least raw help is = ap (λ h. take_as h (state done [] first (Indent least)) number raw) is
