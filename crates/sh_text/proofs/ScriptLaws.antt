-- Scripts by their fields.
use Rattle.std.proofs.Common.{◌≡◌, ℕ, zero, suc, ◌+◌, ◌≤◌, Bool, true, false, cond, not, ◌||◌, ◌&&◌, ◌==◌, nat_le, nat_lt, List, [], ◌∷◌, ◌++◌, length, take, drop, Option, Some, None, refl, ap, sym, subst, ◌∙◌, arith}
use Rattle.std.specs.Prelude.{position}
use Rattle.std.specs.Option.{option_map, option_and_then}
use Rattle.std.specs.List.{list_all, position_or_len}
use Rattle.std.proofs.lemmas.List.{append-nil}
use Rattle.std.proofs.lemmas.List.Folds.{list_all-append}
use Rattle.std.proofs.lemmas.Bool.{eqb-true, eq-eqb, ltb-true, ltb-false, lt-ltb, le-ltb, and_parts, and_from, or_parts, or_from, not-true, not_from_false}
use Rattle.br_path.specs.Text.{is_letter, is_digit}
use Rattle.tree_ops.specs.Walk.{is_filled}
use Rattle.sh_text.specs.declared.spelled.Side.{Side}
use Rattle.sh_text.specs.declared.spelled.Side.TheVariants.{Left, Right}
use Rattle.sh_text.specs.declared.spelled.Spelled.{Spelled}
use Rattle.sh_text.specs.declared.spelled.Spelled.TheVariants.{Plain, Escaped}
use Rattle.sh_text.specs.declared.script.Pattern.{Pattern}
use Rattle.sh_text.specs.declared.script.Script.{Script}
use Rattle.sh_text.specs.Scripts.{Spelling, put_before, spelling_of, byte_in, bytes_by, is_plain, begins_with, ends_with, without_first, without_last, behind_caret, before_dollar, anchored, pattern_of, is_delimiter, each_of, cut, script_with, script_behind, script_by, script_in, script_of}
use Rattle.sh_text.specs.Laws.{written, is_field, StandFor, no_bytes, and_byte, anchor, IsPattern, flag, IsScript}
use Rattle.sh_text.proofs.Scripts.{spelling-plain, spelling-escaped, spelling-lone, ends_with-push, dollar-first, dollar-none}

some_of : {A : Type 0} (one other : A) → Some one ≡ Some other → one ≡ other
some_of one other is = cc

-- 1. Spellings.

-- is_no backslash stands by itself
is_proper : Spelling → Bool
is_proper bytes = list_all (λ b. not (is_plain 92 b)) bytes

mapped : {A B : Type 0} (f : A → B) (o : Option A) (value : B) → option_map f o ≡ Some value → (a : A) × (o ≡ Some a) × (f a ≡ value)
mapped f None value is = cc
mapped f (Some a) value is = (a, refl, some_of (f a) value is)

pub written-append : (one other : Spelling) → written (one ++ other) ≡ written one ++ written other
written-append [] other = refl
written-append (Plain b ∷ one) other = ap (λ t. b ∷ t) (written-append one other)
written-append (Escaped b ∷ one) other = ap (λ t. 92 ∷ b ∷ t) (written-append one other)

IsSpelled : List ℕ → Spelling → Type 0
IsSpelled text bytes = (text ≡ written bytes) × (is_proper bytes ≡ true)

spelled_plain : (b : ℕ) (text : List ℕ) (bytes : Spelling) → (b == 92) ≡ false → IsSpelled text bytes → IsSpelled (b ∷ text) (Plain b ∷ bytes)
unfolding IsSpelled is_proper
spelled_plain b text bytes is_no (same, proper) = (ap (λ t. b ∷ t) same, and_from (not (b == 92)) (list_all (λ c. not (is_plain 92 c)) bytes) (not_from_false (b == 92) is_no) proper)

spelled_escaped : (b next : ℕ) (text : List ℕ) (bytes : Spelling) → (b == 92) ≡ true → IsSpelled text bytes → IsSpelled (b ∷ next ∷ text) (Escaped next ∷ bytes)
unfolding IsSpelled is_proper
spelled_escaped b next text bytes is_yes (same, proper) = (ap (λ c. c ∷ next ∷ text) (eqb-true b 92 is_yes) ∙ ap (λ t. 92 ∷ next ∷ t) same, proper)

empty_spelled : IsSpelled [] []
unfolding IsSpelled is_proper
empty_spelled = (refl, refl)

spelling_read : (most : ℕ) (text : List ℕ) (bytes : Spelling) → length text ≤ most → spelling_of text ≡ Some bytes → IsSpelled text bytes
spelling_read most [] bytes low is = subst (IsSpelled []) (some_of [] bytes is) empty_spelled
spelling_read zero (b ∷ text) bytes low is = absurd (omega arith)
spelling_read (suc most) (b ∷ text) bytes low is = by (λ text bytes low is. spelling_read most text bytes low is) (b == 92) refl text low is
  where
    by : ((text : List ℕ) (bytes : Spelling) → length text ≤ most → spelling_of text ≡ Some bytes → IsSpelled text bytes)
        → (q : Bool) → (b == 92) ≡ q → (text : List ℕ) → suc (length text) ≤ suc most → spelling_of (b ∷ text) ≡ Some bytes → IsSpelled (b ∷ text) bytes
    by further false is_no text low is =
        let m = mapped (λ more. Plain b ∷ more) (spelling_of text) bytes (sym (spelling-plain b text is_no) ∙ is) in
        subst (IsSpelled (b ∷ text)) m.2 (spelled_plain b text m.0 is_no (further text m.0 (omega arith) m.1))
    by further true is_yes [] low is = let e : None ≡ Some bytes = sym (spelling-lone b is_yes) ∙ is in absurd cc
    by further true is_yes (next ∷ text) low is =
        let m = mapped (λ more. Escaped next ∷ more) (spelling_of text) bytes (sym (spelling-escaped b next text is_yes) ∙ is) in
        subst (IsSpelled (b ∷ next ∷ text)) m.2 (spelled_escaped b next text m.0 is_yes (further text m.0 (omega arith) m.1))

spelling_written : (bytes : Spelling) → is_proper bytes ≡ true → spelling_of (written bytes) ≡ Some bytes
unfolding is_proper
spelling_written [] proper = refl
spelling_written (Plain b ∷ bytes) proper =
    let parts = and_parts (not (b == 92)) (list_all (λ c. not (is_plain 92 c)) bytes) proper in
    spelling-plain b (written bytes) (not-true (b == 92) parts.0) ∙ ap (put_before (Plain b)) (spelling_written bytes parts.1)
spelling_written (Escaped b ∷ bytes) proper = spelling-escaped 92 b (written bytes) refl ∙ ap (put_before (Escaped b)) (spelling_written bytes proper)

-- 2. Fields.

-- the delimiter doesn't stand by itself
is_free : ℕ → Spelling → Bool
is_free delimiter bytes = list_all (λ b. not (is_plain delimiter b)) bytes

plain_is : (delimiter : ℕ) (b : Spelled) → is_plain delimiter b ≡ true → b ≡ Plain delimiter
plain_is delimiter (Plain other) is = ap Plain (eqb-true other delimiter is)
plain_is delimiter (Escaped other) is = cc

module _ (delimiter : ℕ) where
  later : Spelled → Spelling × Spelling → Spelling × Spelling
  later first (front, behind) = (first ∷ front, behind)

  position-here : (first : Spelled) (bytes : Spelling) → is_plain delimiter first ≡ true → position (is_plain delimiter) (first ∷ bytes) ≡ Some 0
  position-here first bytes is =
      let zero_len : position_or_len (is_plain delimiter) (first ∷ bytes) ≡ 0 = rw is refl in
      ap (λ n. cond (nat_lt n (suc (length bytes))) (Some n) None) zero_len ∙ ap (λ q. cond q (Some 0) None) (lt-ltb 0 (suc (length bytes)) (omega arith))

  position-later : (first : Spelled) (bytes : Spelling) → is_plain delimiter first ≡ false → position (is_plain delimiter) (first ∷ bytes) ≡ option_map suc (position (is_plain delimiter) bytes)
  position-later first bytes is_no = ap (λ n. cond (nat_lt n (suc (length bytes))) (Some n) None) more ∙ by (nat_lt (position_or_len (is_plain delimiter) bytes) (length bytes)) refl
    where
      more : position_or_len (is_plain delimiter) (first ∷ bytes) ≡ suc (position_or_len (is_plain delimiter) bytes)
      more = rw is_no (omega arith)

      by : (q : Bool) → nat_lt (position_or_len (is_plain delimiter) bytes) (length bytes) ≡ q
          → cond (nat_lt (suc (position_or_len (is_plain delimiter) bytes)) (suc (length bytes))) (Some (suc (position_or_len (is_plain delimiter) bytes))) None ≡ option_map suc (position (is_plain delimiter) bytes)
      by true is =
          let less = ltb-true (position_or_len (is_plain delimiter) bytes) (length bytes) is in
          ap (λ q. cond q (Some (suc (position_or_len (is_plain delimiter) bytes))) None) (lt-ltb (suc (position_or_len (is_plain delimiter) bytes)) (suc (length bytes)) (omega arith))
          ∙ sym (ap (λ q. option_map suc (cond q (Some (position_or_len (is_plain delimiter) bytes)) None)) is)
      by false is =
          let low = ltb-false (position_or_len (is_plain delimiter) bytes) (length bytes) is in
          ap (λ q. cond q (Some (suc (position_or_len (is_plain delimiter) bytes))) None) (le-ltb (suc (position_or_len (is_plain delimiter) bytes)) (suc (length bytes)) (omega arith))
          ∙ sym (ap (λ q. option_map suc (cond q (Some (position_or_len (is_plain delimiter) bytes)) None)) is)

  cut-here : (first : Spelled) (bytes : Spelling) → is_plain delimiter first ≡ true → cut delimiter (first ∷ bytes) ≡ Some ([], bytes)
  cut-here first bytes is = ap (option_map (λ place. (take place (first ∷ bytes), drop (place + 1) (first ∷ bytes)))) (position-here first bytes is)

  shifted : (first : Spelled) (bytes : Spelling) (place : Option ℕ)
      → option_map (λ p. (take p (first ∷ bytes), drop (p + 1) (first ∷ bytes))) (option_map suc place) ≡ option_map (later first) (option_map (λ p. (take p bytes, drop (p + 1) bytes)) place)
  unfolding later
  shifted first bytes None = refl
  shifted first bytes (Some p) =
      let e : suc p + 1 ≡ suc (p + 1) = omega arith in
      ap (λ n. Some (first ∷ take p bytes, drop n (first ∷ bytes))) e

  cut-later : (first : Spelled) (bytes : Spelling) → is_plain delimiter first ≡ false → cut delimiter (first ∷ bytes) ≡ option_map (later first) (cut delimiter bytes)
  cut-later first bytes is_no =
      ap (option_map (λ place. (take place (first ∷ bytes), drop (place + 1) (first ∷ bytes)))) (position-later first bytes is_no)
      ∙ shifted first bytes (position (is_plain delimiter) bytes)

  IsCut : Spelling → Spelling × Spelling → Type 0
  IsCut bytes (front, behind) = (bytes ≡ front ++ Plain delimiter ∷ behind) × (is_free delimiter front ≡ true)

  cut_read : (bytes : Spelling) (parts : Spelling × Spelling) → cut delimiter bytes ≡ Some parts → IsCut bytes parts
  unfolding IsCut is_free later
  cut_read [] parts is = let e : None ≡ Some parts = is in absurd cc
  cut_read (first ∷ bytes) parts is = by (λ parts is. cut_read bytes parts is) (is_plain delimiter first) refl
    where
      by : ((parts : Spelling × Spelling) → cut delimiter bytes ≡ Some parts → IsCut bytes parts) → (q : Bool) → is_plain delimiter first ≡ q → IsCut (first ∷ bytes) parts
      by further true is_yes =
          subst (IsCut (first ∷ bytes)) (some_of ([], bytes) parts (sym (cut-here first bytes is_yes) ∙ is)) (ap (λ b. b ∷ bytes) (plain_is delimiter first is_yes), refl)
      by further false is_no =
          let m = mapped (later first) (cut delimiter bytes) parts (sym (cut-later first bytes is_no) ∙ is) in
          let split = further m.0 m.1 in
          subst (IsCut (first ∷ bytes)) m.2 (ap (λ t. first ∷ t) split.0, and_from (not (is_plain delimiter first)) (list_all (λ b. not (is_plain delimiter b)) m.0.0) (not_from_false (is_plain delimiter first) is_no) split.1)

  cut_written : (front behind : Spelling) → is_free delimiter front ≡ true → cut delimiter (front ++ Plain delimiter ∷ behind) ≡ Some (front, behind)
  unfolding is_free later
  cut_written [] behind free = cut-here (Plain delimiter) behind (eq-eqb delimiter delimiter refl)
  cut_written (first ∷ front) behind free =
      let parts = and_parts (not (is_plain delimiter first)) (list_all (λ b. not (is_plain delimiter b)) front) free in
      cut-later first (front ++ Plain delimiter ∷ behind) (not-true (is_plain delimiter first) parts.0) ∙ ap (option_map (later first)) (cut_written front behind parts.1)

  -- a field has neither
  field-both : (bytes : Spelling) → is_proper bytes ≡ true → is_free delimiter bytes ≡ true → is_field delimiter bytes ≡ true
  unfolding is_proper is_free
  field-both [] proper free = refl
  field-both (first ∷ bytes) proper free =
      let one = and_parts (not (is_plain 92 first)) (list_all (λ b. not (is_plain 92 b)) bytes) proper in
      let other = and_parts (not (is_plain delimiter first)) (list_all (λ b. not (is_plain delimiter b)) bytes) free in
      and_from (not (is_plain 92 first || is_plain delimiter first)) (list_all (λ b. not (is_plain 92 b || is_plain delimiter b)) bytes)
      (not_from_false (is_plain 92 first || is_plain delimiter first) (or_from (is_plain 92 first) (is_plain delimiter first) (not-true (is_plain 92 first) one.0) (not-true (is_plain delimiter first) other.0)))
      (field-both bytes one.1 other.1)

  field-proper : (bytes : Spelling) → is_field delimiter bytes ≡ true → is_proper bytes ≡ true
  unfolding is_proper
  field-proper [] is = refl
  field-proper (first ∷ bytes) is =
      let parts = and_parts (not (is_plain 92 first || is_plain delimiter first)) (list_all (λ b. not (is_plain 92 b || is_plain delimiter b)) bytes) is in
      let both = or_parts (is_plain 92 first) (is_plain delimiter first) (not-true (is_plain 92 first || is_plain delimiter first) parts.0) in
      and_from (not (is_plain 92 first)) (list_all (λ b. not (is_plain 92 b)) bytes) (not_from_false (is_plain 92 first) both.0) (field-proper bytes parts.1)

  field-free : (bytes : Spelling) → is_field delimiter bytes ≡ true → is_free delimiter bytes ≡ true
  unfolding is_free
  field-free [] is = refl
  field-free (first ∷ bytes) is =
      let parts = and_parts (not (is_plain 92 first || is_plain delimiter first)) (list_all (λ b. not (is_plain 92 b || is_plain delimiter b)) bytes) is in
      let both = or_parts (is_plain 92 first) (is_plain delimiter first) (not-true (is_plain 92 first || is_plain delimiter first) parts.0) in
      and_from (not (is_plain delimiter first)) (list_all (λ b. not (is_plain delimiter b)) bytes) (not_from_false (is_plain delimiter first) both.1) (field-free bytes parts.1)

-- 3. What fields stand for.

bytes_read : (side : Side) (delimiter : ℕ) (field : Spelling) (bytes : List ℕ) → bytes_by (byte_in side delimiter) field ≡ Some bytes → StandFor side delimiter field bytes
bytes_read side delimiter [] bytes is = subst (StandFor side delimiter []) (some_of [] bytes is) no_bytes
bytes_read side delimiter (first ∷ field) bytes is = by (λ bytes is. bytes_read side delimiter field bytes is) (byte_in side delimiter first) refl
  where
    by : ((bytes : List ℕ) → bytes_by (byte_in side delimiter) field ≡ Some bytes → StandFor side delimiter field bytes) → (b : Option ℕ) → byte_in side delimiter first ≡ b → StandFor side delimiter (first ∷ field) bytes
    by further None is_no =
        let e : None ≡ Some bytes = sym (ap (option_and_then (λ b. option_map (λ more. b ∷ more) (bytes_by (byte_in side delimiter) field))) is_no) ∙ is in absurd cc
    by further (Some b) is_yes =
        let m = mapped (λ more. b ∷ more) (bytes_by (byte_in side delimiter) field) bytes (sym (ap (option_and_then (λ b. option_map (λ more. b ∷ more) (bytes_by (byte_in side delimiter) field))) is_yes) ∙ is) in
        subst (StandFor side delimiter (first ∷ field)) m.2 (and_byte first b field m.0 is_yes (further m.0 m.1))

bytes_written : (side : Side) (delimiter : ℕ) (field : Spelling) (bytes : List ℕ) → StandFor side delimiter field bytes → bytes_by (byte_in side delimiter) field ≡ Some bytes
bytes_written side delimiter field bytes no_bytes = refl
bytes_written side delimiter field bytes (and_byte first b more others is_yes is) =
    ap (option_and_then (λ b. option_map (λ rest. b ∷ rest) (bytes_by (byte_in side delimiter) more))) is_yes ∙ ap (option_map (λ rest. b ∷ rest)) (bytes_written side delimiter more others is)

-- 4. Patterns.

caret_split : (q : Bool) (field : Spelling) → begins_with 94 field ≡ q → field ≡ anchor q 94 ++ behind_caret field
caret_split true [] is = cc
caret_split true (first ∷ more) is = ap (λ b. b ∷ more) (plain_is 94 first is) ∙ sym (ap (λ q. Plain 94 ∷ cond q more (first ∷ more)) is)
caret_split false field is = sym (ap (λ q. cond q (without_first field) field) is)

last_split : (bytes : Spelling) → ends_with 36 bytes ≡ true → bytes ≡ without_last bytes ++ Plain 36 ∷ []
last_split [] is = cc
last_split (last ∷ []) is = ap (λ b. b ∷ []) (plain_is 36 last is)
last_split (first ∷ second ∷ more) is = ap (λ t. first ∷ t) (last_split (second ∷ more) is)

dollar_split : (q : Bool) (bytes : Spelling) → ends_with 36 bytes ≡ q → bytes ≡ before_dollar bytes ++ anchor q 36
dollar_split true bytes is = last_split bytes is ∙ sym (ap (λ q. cond q (without_last bytes) bytes ++ Plain 36 ∷ []) is)
dollar_split false bytes is = sym (append-nil (before_dollar bytes) ∙ ap (λ q. cond q (without_last bytes) bytes) is)

-- without a last `$` the field ends otherwise
middle_last : (bytes : Spelling) → ends_with 36 bytes ≡ false → ends_with 36 (before_dollar bytes) ≡ false
middle_last bytes is = ap (ends_with 36) (dollar-none bytes is) ∙ is

pattern_read : (delimiter : ℕ) (field : Spelling) (pattern : Pattern) → pattern_of delimiter field ≡ Some pattern → IsPattern delimiter field pattern
pattern_read delimiter field pattern is = by (bytes_by (byte_in Left delimiter) (before_dollar (behind_caret field))) refl
  where
    at : (bytes : List ℕ) → bytes_by (byte_in Left delimiter) (before_dollar (behind_caret field)) ≡ Some bytes → (q : Bool) → (is_filled bytes || begins_with 94 field || ends_with 36 (behind_caret field)) ≡ q
        → cond q (Some (record { begins = begins_with 94 field; bytes = bytes; ends = ends_with 36 (behind_caret field) })) None ≡ Some pattern → IsPattern delimiter field pattern
    at bytes is_yes false is_no e = absurd cc
    at bytes is_yes true some e =
        subst (IsPattern delimiter field) (some_of (record { begins = begins_with 94 field; bytes = bytes; ends = ends_with 36 (behind_caret field) }) pattern e) (record {
          middle = before_dollar (behind_caret field);
          whole = caret_split (begins_with 94 field) field refl ∙ ap (λ t. anchor (begins_with 94 field) 94 ++ t) (dollar_split (ends_with 36 (behind_caret field)) (behind_caret field) refl);
          bytes = bytes_read Left delimiter (before_dollar (behind_caret field)) bytes is_yes;
          first = λ is_no. is_no;
          last = λ is_no. middle_last (behind_caret field) is_no;
          some = some;
        })

    by : (o : Option (List ℕ)) → bytes_by (byte_in Left delimiter) (before_dollar (behind_caret field)) ≡ o → IsPattern delimiter field pattern
    by None is_no = let e : None ≡ Some pattern = sym (ap (anchored (begins_with 94 field) (ends_with 36 (behind_caret field))) is_no) ∙ is in absurd cc
    by (Some bytes) is_yes =
        at bytes is_yes (is_filled bytes || begins_with 94 field || ends_with 36 (behind_caret field)) refl (sym (ap (anchored (begins_with 94 field) (ends_with 36 (behind_caret field))) is_yes) ∙ is)

caret_of : (q : Bool) (rest : Spelling) → (q ≡ false → begins_with 94 (anchor q 94 ++ rest) ≡ false) → (begins_with 94 (anchor q 94 ++ rest) ≡ q) × (behind_caret (anchor q 94 ++ rest) ≡ rest)
caret_of true rest other = (refl, refl)
caret_of false rest other = (other refl, ap (λ q. cond q (without_first rest) rest) (other refl))

dollar_of : (q : Bool) (middle : Spelling) → (q ≡ false → ends_with 36 middle ≡ false) → (ends_with 36 (middle ++ anchor q 36) ≡ q) × (before_dollar (middle ++ anchor q 36) ≡ middle)
dollar_of true middle other = (ends_with-push 36 middle (Plain 36), dollar-first middle (Plain 36) refl)
dollar_of false middle other =
    (ap (ends_with 36) (append-nil middle) ∙ other refl, ap before_dollar (append-nil middle) ∙ dollar-none middle (other refl))

pattern_written : (delimiter : ℕ) (field : Spelling) (pattern : Pattern) → IsPattern delimiter field pattern → pattern_of delimiter field ≡ Some pattern
pattern_written delimiter field pattern is =
    let one = caret_of pattern.begins (is.middle ++ anchor pattern.ends 36) (λ is_no. ap (begins_with 94) (sym is.whole) ∙ is.first is_no) in
    let begins : begins_with 94 field ≡ pattern.begins = ap (begins_with 94) is.whole ∙ one.0 in
    let behind : behind_caret field ≡ is.middle ++ anchor pattern.ends 36 = ap behind_caret is.whole ∙ one.1 in
    let other = dollar_of pattern.ends is.middle is.last in
    let ends : ends_with 36 (behind_caret field) ≡ pattern.ends = ap (ends_with 36) behind ∙ other.0 in
    let middle : before_dollar (behind_caret field) ≡ is.middle = ap before_dollar behind ∙ other.1 in
    let bytes : bytes_by (byte_in Left delimiter) (before_dollar (behind_caret field)) ≡ Some pattern.bytes = ap (bytes_by (byte_in Left delimiter)) middle ∙ bytes_written Left delimiter is.middle pattern.bytes is.bytes in
    ap (anchored (begins_with 94 field) (ends_with 36 (behind_caret field))) bytes
    ∙ (ap (λ q. anchored q (ends_with 36 (behind_caret field)) (Some pattern.bytes)) begins
    ∙ (ap (λ q. anchored pattern.begins q (Some pattern.bytes)) ends
    ∙ ap (λ q. cond q (Some pattern) None) is.some))

-- 5. Scripts.

flag_read : (flags : Spelling) (each : Bool) → each_of flags ≡ Some each → written flags ≡ flag each
flag_read [] each is = ap flag (some_of false each is)
flag_read (first ∷ []) each is = by (is_plain 103 first) refl
  where
    by : (q : Bool) → is_plain 103 first ≡ q → written (first ∷ []) ≡ flag each
    by true is_yes = ap (λ b. written (b ∷ [])) (plain_is 103 first is_yes) ∙ ap flag (some_of true each (sym (ap (λ q. cond q (Some true) None) is_yes) ∙ is))
    by false is_no = let e : None ≡ Some each = sym (ap (λ q. cond q (Some true) None) is_no) ∙ is in absurd cc
flag_read (first ∷ second ∷ more) each is = let e : None ≡ Some each = is in absurd cc

flags : Bool → Spelling
flags true = Plain 103 ∷ []
flags false = []

flags_written : (each : Bool) → written (flags each) ≡ flag each
unfolding flags
flags_written true = refl
flags_written false = refl

flags_read : (each : Bool) → each_of (flags each) ≡ Some each
unfolding flags
flags_read true = refl
flags_read false = refl

flags_proper : (each : Bool) → is_proper (flags each) ≡ true
unfolding flags is_proper
flags_proper true = refl
flags_proper false = refl

delimiter_no : (delimiter : ℕ) → is_delimiter delimiter ≡ true → (delimiter == 92) ≡ false
delimiter_no delimiter is =
    let one = and_parts (nat_le 33 delimiter && nat_le delimiter 126) (not (delimiter == 92 || is_letter delimiter || is_digit delimiter)) is in
    let two = or_parts (delimiter == 92 || is_letter delimiter) (is_digit delimiter) (not-true (delimiter == 92 || is_letter delimiter || is_digit delimiter) one.1) in
    (or_parts (delimiter == 92) (is_letter delimiter) two.0).0

proper-append : (one other : Spelling) → is_proper (one ++ other) ≡ (is_proper one && is_proper other)
unfolding is_proper
proper-append one other = list_all-append (λ b. not (is_plain 92 b)) one other

proper_plain : (delimiter : ℕ) (rest : Spelling) → (delimiter == 92) ≡ false → is_proper (Plain delimiter ∷ rest) ≡ is_proper rest
unfolding is_proper
proper_plain delimiter rest is_no = ap (λ q. not q && list_all (λ b. not (is_plain 92 b)) rest) is_no

proper_parts : (front : Spelling) (delimiter : ℕ) (behind : Spelling) → (delimiter == 92) ≡ false → is_proper (front ++ Plain delimiter ∷ behind) ≡ true → (is_proper front ≡ true) × (is_proper behind ≡ true)
proper_parts front delimiter behind is_no is =
    let parts = and_parts (is_proper front) (is_proper (Plain delimiter ∷ behind)) (sym (proper-append front (Plain delimiter ∷ behind)) ∙ is) in
    (parts.0, sym (proper_plain delimiter behind is_no) ∙ parts.1)

proper_whole : (front : Spelling) (delimiter : ℕ) (behind : Spelling) → (delimiter == 92) ≡ false → is_proper front ≡ true → is_proper behind ≡ true → is_proper (front ++ Plain delimiter ∷ behind) ≡ true
proper_whole front delimiter behind is_no one other =
    proper-append front (Plain delimiter ∷ behind) ∙ and_from (is_proper front) (is_proper (Plain delimiter ∷ behind)) one (proper_plain delimiter behind is_no ∙ other)

IsWith : ℕ → Spelling → Spelling → Spelling → Script → Type 0
IsWith delimiter pattern replacement flags script =
    (pattern_of delimiter pattern ≡ Some script.pattern) × (bytes_by (byte_in Right delimiter) replacement ≡ Some script.replacement) × (each_of flags ≡ Some script.each)

with_parts : (p : Option Pattern) (r : Option (List ℕ)) (e : Option Bool) (script : Script) → script_with p r e ≡ Some script → (p ≡ Some script.pattern) × (r ≡ Some script.replacement) × (e ≡ Some script.each)
with_parts None r e script is = let is_no : None ≡ Some script = is in absurd cc
with_parts (Some p) None e script is = let is_no : None ≡ Some script = is in absurd cc
with_parts (Some p) (Some r) None script is = let is_no : None ≡ Some script = is in absurd cc
with_parts (Some p) (Some r) (Some e) script is =
    let same = some_of (record { pattern = p; replacement = r; each = e }) script is in
    (ap (λ (s : Script). Some s.pattern) same, ap (λ (s : Script). Some s.replacement) same, ap (λ (s : Script). Some s.each) same)

module _ (delimiter : ℕ) (divides : is_delimiter delimiter ≡ true) (script : Script) where
  from_parts : (text : List ℕ) (bytes pattern rest replacement flags : Spelling) → IsSpelled text bytes → IsCut delimiter bytes (pattern, rest) → IsCut delimiter rest (replacement, flags)
      → script_behind delimiter pattern (Some (replacement, flags)) ≡ Some script → IsScript (115 ∷ delimiter ∷ text) script
  unfolding IsSpelled IsCut
  from_parts text bytes pattern rest replacement flags (same, proper) (one, first) (two, second) is =
      let is_no = delimiter_no delimiter divides in
      let all : is_proper (pattern ++ Plain delimiter ∷ rest) ≡ true = ap is_proper (sym one) ∙ proper in
      let front = proper_parts pattern delimiter rest is_no all in
      let behind = proper_parts replacement delimiter flags is_no (ap is_proper (sym two) ∙ front.1) in
      let parts = with_parts (pattern_of delimiter pattern) (bytes_by (byte_in Right delimiter) replacement) (each_of flags) script is in
      record {
        delimiter = delimiter;
        pattern = pattern;
        replacement = replacement;
        whole = ap (λ t. 115 ∷ delimiter ∷ t) (same ∙ (ap written one ∙ (written-append pattern (Plain delimiter ∷ rest)
            ∙ ap (λ t. written pattern ++ delimiter ∷ t) (ap written two ∙ (written-append replacement (Plain delimiter ∷ flags) ∙ ap (λ t. written replacement ++ delimiter ∷ t) (flag_read flags script.each parts.2))))));
        divides = divides;
        left = field-both delimiter pattern front.0 first;
        right = field-both delimiter replacement behind.0 second;
        finds = pattern_read delimiter pattern script.pattern parts.0;
        puts = bytes_read Right delimiter replacement script.replacement parts.1;
      }

  script_cut : (text : List ℕ) (bytes : Spelling) → IsSpelled text bytes → script_by delimiter (cut delimiter bytes) ≡ Some script → IsScript (115 ∷ delimiter ∷ text) script
  script_cut text bytes spelled is = by (cut delimiter bytes) refl is
    where
      then : (pattern rest : Spelling) → IsCut delimiter bytes (pattern, rest) → (o : Option (Spelling × Spelling)) → cut delimiter rest ≡ o → script_behind delimiter pattern o ≡ Some script → IsScript (115 ∷ delimiter ∷ text) script
      then pattern rest one None two is = let e : None ≡ Some script = is in absurd cc
      then pattern rest one (Some (replacement, flags)) two is = from_parts text bytes pattern rest replacement flags spelled one (cut_read delimiter rest (replacement, flags) two) is

      by : (o : Option (Spelling × Spelling)) → cut delimiter bytes ≡ o → script_by delimiter o ≡ Some script → IsScript (115 ∷ delimiter ∷ text) script
      by None one is = let e : None ≡ Some script = is in absurd cc
      by (Some (pattern, rest)) one is = then pattern rest (cut_read delimiter bytes (pattern, rest) one) (cut delimiter rest) refl is

  script_spelled : (text : List ℕ) (o : Option Spelling) → spelling_of text ≡ o → script_in delimiter o ≡ Some script → IsScript (115 ∷ delimiter ∷ text) script
  script_spelled text None same is = let e : None ≡ Some script = is in absurd cc
  script_spelled text (Some bytes) same is = script_cut text bytes (spelling_read (length text) text bytes (omega arith) same) is

pub scripts_read : (text : List ℕ) (script : Script) → script_of text ≡ Some script → IsScript text script
scripts_read [] script is = let e : None ≡ Some script = is in absurd cc
scripts_read (s ∷ []) script is = let e : None ≡ Some script = is in absurd cc
scripts_read (s ∷ delimiter ∷ text) script is = by (s == 115 && is_delimiter delimiter) refl
  where
    by : (q : Bool) → (s == 115 && is_delimiter delimiter) ≡ q → IsScript (s ∷ delimiter ∷ text) script
    by false is_no = let e : None ≡ Some script = sym (ap (λ q. cond q (script_in delimiter (spelling_of text)) None) is_no) ∙ is in absurd cc
    by true is_yes =
        let parts = and_parts (s == 115) (is_delimiter delimiter) is_yes in
        subst (λ b. IsScript (b ∷ delimiter ∷ text) script) (sym (eqb-true s 115 parts.0))
        (script_spelled delimiter parts.1 script text (spelling_of text) refl (sym (ap (λ q. cond q (script_in delimiter (spelling_of text)) None) is_yes) ∙ is))

script_from : (delimiter : ℕ) (pattern replacement : Spelling) (script : Script) → is_delimiter delimiter ≡ true → is_field delimiter pattern ≡ true → is_field delimiter replacement ≡ true
    → IsPattern delimiter pattern script.pattern → StandFor Right delimiter replacement script.replacement
    → script_of (115 ∷ delimiter ∷ (written pattern ++ delimiter ∷ (written replacement ++ delimiter ∷ flag script.each))) ≡ Some script
script_from delimiter pattern replacement script divides left right finds puts =
    let is_no = delimiter_no delimiter divides in
    let rest = replacement ++ Plain delimiter ∷ flags script.each in
    let text : written (pattern ++ Plain delimiter ∷ rest) ≡ written pattern ++ delimiter ∷ (written replacement ++ delimiter ∷ flag script.each) =
    written-append pattern (Plain delimiter ∷ rest) ∙ ap (λ t. written pattern ++ delimiter ∷ t) (written-append replacement (Plain delimiter ∷ flags script.each) ∙ ap (λ t. written replacement ++ delimiter ∷ t) (flags_written script.each)) in
    let proper : is_proper (pattern ++ Plain delimiter ∷ rest) ≡ true =
    proper_whole pattern delimiter rest is_no (field-proper delimiter pattern left) (proper_whole replacement delimiter (flags script.each) is_no (field-proper delimiter replacement right) (flags_proper script.each)) in
    let spelled : spelling_of (written pattern ++ delimiter ∷ (written replacement ++ delimiter ∷ flag script.each)) ≡ Some (pattern ++ Plain delimiter ∷ rest) =
    ap spelling_of (sym text) ∙ spelling_written (pattern ++ Plain delimiter ∷ rest) proper in
    ap (λ q. cond (true && q) (script_in delimiter (spelling_of (written pattern ++ delimiter ∷ (written replacement ++ delimiter ∷ flag script.each)))) None) divides
    ∙ (ap (script_in delimiter) spelled
    ∙ (ap (script_by delimiter) (cut_written delimiter pattern rest (field-free delimiter pattern left))
    ∙ (ap (script_behind delimiter pattern) (cut_written delimiter replacement (flags script.each) (field-free delimiter replacement right))
    ∙ (ap (λ p. script_with p (bytes_by (byte_in Right delimiter) replacement) (each_of (flags script.each))) (pattern_written delimiter pattern script.pattern finds)
    ∙ (ap (λ r. script_with (Some script.pattern) r (each_of (flags script.each))) (bytes_written Right delimiter replacement script.replacement puts)
    ∙ ap (script_with (Some script.pattern) (Some script.replacement)) (flags_read script.each))))))

pub scripts_written : (text : List ℕ) (script : Script) → IsScript text script → script_of text ≡ Some script
scripts_written text script is = ap script_of is.whole ∙ script_from is.delimiter is.pattern is.replacement script is.divides is.left is.right is.finds is.puts
