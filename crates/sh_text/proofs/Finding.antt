-- Where a pattern stands in a line, by its anchors.
use Rattle.std.proofs.Common.{◌≡◌, ◌≢◌, ℕ, zero, suc, ◌+◌, ◌-◌, ◌<◌, ◌≤◌, Bool, true, false, not, ◌&&◌, ◌||◌, ◌==◌, nat_eq, List, [], ◌∷◌, ◌++◌, length, take, drop, Option, Some, None, refl, ap, sym, ◌∙◌, arith, length-append, inl, inr}
use Rattle.std.proofs.Math.Seq.{take-append_seam, take-length}
use Rattle.std.proofs.lemmas.Bool.{ne_eqb, eq-eqb, false_from_ne_true, cases_lt}
use Rattle.std.proofs.lemmas.Bool.Decides.{Decides-eqb}
use Rattle.std.proofs.lemmas.Slice.Eq.{starts_is}
use Rattle.std.specs.List.{starts_with, ends_with}
use Rattle.std.specs.Cmp.Lexicographic.{pointwise}
use Rattle.memchr.specs.Find.{Nowhere, OccursAt, FindsNeedle}
use Rattle.memchr.proofs.lemmas.MatchLemmas.{OccursAt-from_part, OccursAt-split}
use Rattle.sh_text.specs.declared.script.Pattern.{Pattern}
use Rattle.sh_text.specs.Editing.{stands}
use Rattle.sh_text.specs.Finding.{StandsNowhere, StandsFirst, IsFound}

-- 1. The text of a pattern at the front of a list.

starts_text : (rest bytes : List ℕ) → starts_with nat_eq rest bytes ≡ true → rest ≡ bytes ++ drop (length bytes) rest
starts_text rest bytes is = (starts_is Decides-eqb rest bytes (starts_with nat_eq rest bytes) refl).0 is

starts_fits : (rest bytes : List ℕ) → starts_with nat_eq rest bytes ≡ true → length bytes ≤ length rest
starts_fits rest bytes is = let e = ap length (starts_text rest bytes is) in let f = length-append bytes (drop (length bytes) rest) in omega arith

occurs_starts : (rest bytes : List ℕ) → OccursAt rest bytes 0 → starts_with nat_eq rest bytes ≡ true
occurs_starts rest bytes o = (starts_is Decides-eqb rest bytes (starts_with nat_eq rest bytes) refl).1 (drop (0 + length bytes) rest) (OccursAt-split rest bytes 0 o)

starts_occurs : (rest bytes : List ℕ) → starts_with nat_eq rest bytes ≡ true → OccursAt rest bytes 0
starts_occurs rest bytes is =
    let fits = starts_fits rest bytes is in
    OccursAt-from_part rest bytes 0 (omega arith) (ap (take (length bytes)) (starts_text rest bytes is) ∙ take-append_seam bytes (drop (length bytes) rest))

occurs_behind : (b k : ℕ) (rest bytes : List ℕ) → OccursAt rest bytes k → OccursAt (b ∷ rest) bytes (suc k)
occurs_behind b k rest bytes o = record {
  fits = let f = o.fits in let e : suc k + length bytes ≡ suc (k + length bytes) = omega arith in rw e (omega arith);
  reads = λ j h. let e : suc k + j ≡ suc (k + j) = omega arith in rw e (o.reads j h);
}

occurs_ahead : (b k : ℕ) (rest bytes : List ℕ) → OccursAt (b ∷ rest) bytes (suc k) → OccursAt rest bytes k
occurs_ahead b k rest bytes o = record {
  fits = let f : suc k + length bytes ≤ suc (length rest) = o.fits in omega arith;
  reads = λ j h. let e : suc k + j ≡ suc (k + j) = omega arith in rw e at (o.reads j h);
}

-- 2. What it means to stand.

and_false : (p q r : Bool) → q ≡ false → (p && q && r) ≡ false
and_false true q r is = rw is refl
and_false false q r is = refl

last_false : (p q r : Bool) → r ≡ false → (p && q && r) ≡ false
last_false true true r is = is
last_false true false r is = refl
last_false false q r is = refl

or_true : (p q : Bool) → q ≡ true → (p || q) ≡ true
or_true true q is = refl
or_true false q is = is

and_true : (p q r : Bool) → q ≡ true → r ≡ true → (p && q && r) ≡ p
and_true true q r one two = rw (one, two) refl
and_true false q r one two = refl

first_true : (p q r : Bool) → (p && q && r) ≡ true → p ≡ true
first_true true q r is = refl
first_true false q r is = is

last_true : (p q r : Bool) → (p && q && r) ≡ true → r ≡ true
last_true true true r is = is
last_true true false r is = cc
last_true false q r is = cc

module _ (pattern : Pattern) where
  pub stands_text : (beginning : Bool) (rest : List ℕ) → stands pattern beginning rest ≡ true → rest ≡ pattern.bytes ++ drop (length pattern.bytes) rest
  stands_text beginning rest is = starts_text rest pattern.bytes (first_true (starts_with nat_eq rest pattern.bytes) (beginning || not pattern.begins) (length rest == length pattern.bytes || not pattern.ends) is)

  pub stands_fits : (beginning : Bool) (rest : List ℕ) → stands pattern beginning rest ≡ true → length pattern.bytes ≤ length rest
  stands_fits beginning rest is = starts_fits rest pattern.bytes (first_true (starts_with nat_eq rest pattern.bytes) (beginning || not pattern.begins) (length rest == length pattern.bytes || not pattern.ends) is)

  pub StandsFirst-fits : (beginning : Bool) (place : ℕ) (rest : List ℕ) → StandsFirst pattern beginning place rest → place + length pattern.bytes ≤ length rest
  StandsFirst-fits beginning zero rest first = let fits = stands_fits beginning rest first in omega arith
  StandsFirst-fits beginning (suc place) [] first = absurd first
  StandsFirst-fits beginning (suc place) (byte ∷ rest) first = let fits = StandsFirst-fits false place rest first.1 in omega arith

  -- 3. A pattern that must begin its line.

  module _ (begins : pattern.begins ≡ true) where
    pub nowhere_behind : (rest : List ℕ) → StandsNowhere pattern false rest
    nowhere_behind [] = and_false (starts_with nat_eq [] pattern.bytes) (false || not pattern.begins) (0 == length pattern.bytes || not pattern.ends) (ap not begins)
    nowhere_behind (byte ∷ rest) = (and_false (starts_with nat_eq (byte ∷ rest) pattern.bytes) (false || not pattern.begins) (suc (length rest) == length pattern.bytes || not pattern.ends) (ap not begins), nowhere_behind rest)

    pub front_nowhere : (line : List ℕ) → stands pattern true line ≡ false → StandsNowhere pattern true line
    front_nowhere [] is = is
    front_nowhere (byte ∷ line) is = (is, nowhere_behind line)

  -- 4. A pattern that may begin anywhere.

  module _ (free : pattern.begins ≡ false) where
    -- one that must end its line
    module _ (ends : pattern.ends ≡ true) where
      not_here : (beginning : Bool) (rest : List ℕ) → length rest ≢ length pattern.bytes → stands pattern beginning rest ≡ false
      not_here beginning rest other =
          last_false (starts_with nat_eq rest pattern.bytes) (beginning || not pattern.begins) (length rest == length pattern.bytes || not pattern.ends)
          (ap (λ q. q || not pattern.ends) (ne_eqb (length rest) (length pattern.bytes) other) ∙ ap not ends)

      here : (beginning : Bool) (rest : List ℕ) → length rest ≡ length pattern.bytes → stands pattern beginning rest ≡ starts_with nat_eq rest pattern.bytes
      here beginning rest same =
          and_true (starts_with nat_eq rest pattern.bytes) (beginning || not pattern.begins) (length rest == length pattern.bytes || not pattern.ends)
          (or_true beginning (not pattern.begins) (ap not free)) (ap (λ q. q || not pattern.ends) (eq-eqb (length rest) (length pattern.bytes) same))

      short_nowhere : (beginning : Bool) (rest : List ℕ) → length rest < length pattern.bytes → StandsNowhere pattern beginning rest
      short_nowhere beginning [] less = not_here beginning [] (λ e. absurd (omega arith))
      short_nowhere beginning (byte ∷ rest) less = (not_here beginning (byte ∷ rest) (λ e. absurd (omega arith)), short_nowhere false rest (omega arith))

      -- a rest that is as long as the pattern
      whole : (rest : List ℕ) → length rest ≡ length pattern.bytes → ends_with nat_eq rest pattern.bytes ≡ starts_with nat_eq rest pattern.bytes
      whole rest same =
          let none : length rest - length pattern.bytes ≡ 0 = omega arith in
          ap (λ (text : List ℕ). pointwise nat_eq pattern.bytes text) (ap (λ n. drop n rest) none ∙ sym (ap (λ n. take n rest) (sym same) ∙ take-length rest))

      -- a longer one
      longer : (byte : ℕ) (rest : List ℕ) → length pattern.bytes ≤ length rest → ends_with nat_eq (byte ∷ rest) pattern.bytes ≡ ends_with nat_eq rest pattern.bytes
      longer byte rest low =
          let more : suc (length rest) - length pattern.bytes ≡ suc (length rest - length pattern.bytes) = omega arith in
          ap (λ n. pointwise nat_eq pattern.bytes (drop n (byte ∷ rest))) more

      pub back_nowhere : (beginning : Bool) (rest : List ℕ) → ends_with nat_eq rest pattern.bytes ≡ false → StandsNowhere pattern beginning rest
      back_nowhere beginning [] is = elim (cases_lt 0 (length pattern.bytes)) [
        | inl less ↦ short_nowhere beginning [] less
        | inr none ↦ let same : length {A = ℕ} [] ≡ length pattern.bytes = omega arith in here beginning [] same ∙ (sym (whole [] same) ∙ is)
      ]
      back_nowhere beginning (byte ∷ rest) is = elim (cases_lt (length rest) (length pattern.bytes)) [
        | inl less ↦ elim (cases_lt (suc (length rest)) (length pattern.bytes)) [
          | inl short ↦ short_nowhere beginning (byte ∷ rest) short
          | inr low ↦ let same : length (byte ∷ rest) ≡ length pattern.bytes = omega arith in (here beginning (byte ∷ rest) same ∙ (sym (whole (byte ∷ rest) same) ∙ is), short_nowhere false rest less)
        ]
        | inr low ↦ (not_here beginning (byte ∷ rest) (λ e. absurd (omega arith)), back_nowhere false rest (sym (longer byte rest low) ∙ is))
      ]

      back_first : (place : ℕ) (beginning : Bool) (rest : List ℕ) → place + length pattern.bytes ≡ length rest → ends_with nat_eq rest pattern.bytes ≡ true → StandsFirst pattern beginning place rest
      back_first zero beginning rest fits is = let same : length rest ≡ length pattern.bytes = omega arith in here beginning rest same ∙ (sym (whole rest same) ∙ is)
      back_first (suc place) beginning [] fits is = absurd (omega arith)
      back_first (suc place) beginning (byte ∷ rest) fits is =
          (not_here beginning (byte ∷ rest) (λ e. absurd (omega arith)), back_first place false rest (omega arith) (sym (longer byte rest (omega arith)) ∙ is))

      pub back_found : (beginning : Bool) (rest : List ℕ) → length pattern.bytes ≤ length rest → ends_with nat_eq rest pattern.bytes ≡ true → IsFound pattern beginning rest (Some (length rest - length pattern.bytes))
      back_found beginning rest low is = (omega arith, back_first (length rest - length pattern.bytes) beginning rest (omega arith) is)

    -- one without anchors
    module _ (loose : pattern.ends ≡ false) where
      stands_free : (beginning : Bool) (rest : List ℕ) → stands pattern beginning rest ≡ starts_with nat_eq rest pattern.bytes
      stands_free beginning rest =
          and_true (starts_with nat_eq rest pattern.bytes) (beginning || not pattern.begins) (length rest == length pattern.bytes || not pattern.ends)
          (or_true beginning (not pattern.begins) (ap not free)) (or_true (length rest == length pattern.bytes) (not pattern.ends) (ap not loose))

      not_found : (beginning : Bool) (rest : List ℕ) → (OccursAt rest pattern.bytes 0 → ⊥) → stands pattern beginning rest ≡ false
      not_found beginning rest never = stands_free beginning rest ∙ false_from_ne_true (starts_with nat_eq rest pattern.bytes) (λ is. never (starts_occurs rest pattern.bytes is))

      free_nowhere : (beginning : Bool) (rest : List ℕ) → Nowhere (OccursAt rest pattern.bytes) 0 (length rest + 1) → StandsNowhere pattern beginning rest
      free_nowhere beginning [] never = not_found beginning [] (never 0 (omega arith) (omega arith))
      free_nowhere beginning (byte ∷ rest) never =
          (not_found beginning (byte ∷ rest) (never 0 (omega arith) (omega arith)), free_nowhere false rest (λ k low high o. never (suc k) (omega arith) (omega arith) (occurs_behind byte k rest pattern.bytes o)))

      free_first : (place : ℕ) (beginning : Bool) (rest : List ℕ) → Nowhere (OccursAt rest pattern.bytes) 0 place → OccursAt rest pattern.bytes place → StandsFirst pattern beginning place rest
      free_first zero beginning rest never o = stands_free beginning rest ∙ occurs_starts rest pattern.bytes o
      free_first (suc place) beginning [] never o = absurd (let f : suc place + length pattern.bytes ≤ 0 = o.fits in omega arith)
      free_first (suc place) beginning (byte ∷ rest) never o = (
        not_found beginning (byte ∷ rest) (never 0 (omega arith) (omega arith)),
        free_first place false rest (λ k low high p. never (suc k) (omega arith) (omega arith) (occurs_behind byte k rest pattern.bytes p)) (occurs_ahead byte place rest pattern.bytes o),
      )

      pub free_found : (beginning : Bool) (rest : List ℕ) (result : Option ℕ) → FindsNeedle rest pattern.bytes 0 result → IsFound pattern beginning rest result
      free_found beginning rest None found = free_nowhere beginning rest found
      free_found beginning rest (Some place) found = (found.1.fits, free_first place beginning rest found.0.before found.1)
