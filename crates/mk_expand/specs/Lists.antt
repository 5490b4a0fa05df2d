-- What the calls do to texts and lists of words.
use Rattle.std.specs.Prelude.{◌↔◌, Contains, ℕ, zero, suc, ◌+◌, ◌-◌, Bool, true, false, ◌&&◌, ◌==◌, not, nat_le, nat_eq, List, [], ◌∷◌, ◌++◌, length, take, drop, map, filter, position, Option, None, Some, if◌then◌else◌}
use Rattle.std.specs.List.{list_any, starts_with, ends_with, slice_index_or}
use Rattle.std.specs.List.Sorted.{IsStrictlySortedBy}
use Rattle.std.specs.Cmp.Lexicographic.{slice_cmp}
use Rattle.std.specs.Ordering.{nat_cmp}
use Rattle.std.specs.BTreeSet.{insert_key}
use Rattle.memchr.specs.Find.{occurs_at}
use Rattle.mk_expand.specs.Words.{is_filled, words, row}
use Rattle.br_path.specs.Text.{is_text}
use Rattle.mk_expand.specs.declared.function.Function.{Function}
use Rattle.mk_expand.specs.declared.function.Function.TheVariants.{Subst, Strip, AddPrefix, AddSuffix, Filter, FilterOut, PatSubst, Sort, FirstWord, If, Foreach, Call}

-- a text in which each place where another stands, from the left without overlap, has a third; an empty text stands nowhere,
-- and so many bytes are passed over first
abbrev pub replaced : List ℕ → List ℕ → ℕ → List ℕ → List ℕ
replaced from to skip [] = []
replaced from to (suc skip) (b ∷ text) = replaced from to skip text
replaced from to zero (b ∷ text) =
    if is_filled from && occurs_at (b ∷ text) from 0 then to ++ replaced from to (length from - 1) text else b ∷ replaced from to 0 text

-- how a word fits a pattern: not at all, as the very same text, or by a `%` that stands for a stem
pub data Fit : Type 0 where
  Misses : Fit
  Equals : Fit
  Stem : List ℕ → Fit

-- a word begins with what stands before a `%`, ends with what stands after it, and these don't overlap
abbrev pub is_round : List ℕ → List ℕ → List ℕ → Bool
is_round before after word =
    nat_le (length before + length after) (length word) && (starts_with nat_eq word before && ends_with nat_eq word after)

-- how a word fits a `%` with a text before and a text after it
abbrev pub fit_round : List ℕ → List ℕ → List ℕ → Fit
fit_round before after word =
    if is_round before after word then Stem (take (length word - (length before + length after)) (drop (length before) word)) else Misses

-- how a word fits a pattern whose first `%` stands at a place
abbrev pub fit_at : List ℕ → List ℕ → Option ℕ → Fit
fit_at pattern word None = if is_text pattern word then Equals else Misses
fit_at pattern word (Some place) = fit_round (take place pattern) (drop (place + 1) pattern) word

-- how a word fits a pattern
abbrev pub fit : List ℕ → List ℕ → Fit
fit pattern word = fit_at pattern word (position (λ b. b == 37) pattern)

abbrev pub is_fit : Fit → Bool
is_fit Misses = false
is_fit Equals = true
is_fit (Stem stem) = true

-- a word fits one of the patterns
abbrev pub is_matched : List (List ℕ) → List ℕ → Bool
is_matched patterns word = list_any (λ pattern. is_fit (fit pattern word)) patterns

-- a text whose `%` stands at a place, with a stem for it
abbrev pub with_stem : List ℕ → List ℕ → Option ℕ → List ℕ
with_stem text stem None = text
with_stem text stem (Some place) = take place text ++ (stem ++ drop (place + 1) text)

-- what `patsubst` makes of a word by its fit
abbrev pub by_fit : List ℕ → List ℕ → Fit → List ℕ
by_fit replacement word Misses = word
by_fit replacement word Equals = replacement
by_fit replacement word (Stem stem) = with_stem replacement stem (position (λ b. b == 37) replacement)

-- what `patsubst` makes of a word
abbrev pub exchanged : List ℕ → List ℕ → List ℕ → List ℕ
exchanged pattern replacement word = by_fit replacement word (fit pattern word)

-- the words that were found, in the order of their bytes and without repeats, with more words among them
abbrev pub sorted_with : List (List ℕ) → List (List ℕ) → List (List ℕ)
sorted_with found [] = found
sorted_with found (word ∷ words) = sorted_with (insert_key (slice_cmp nat_cmp) found word) words

-- a list has the words of another, each of them once, and they rise in the order of their bytes
pub record IsSortOf (sorted words : List (List ℕ)) : Type 0 where
  pub rises : IsStrictlySortedBy (slice_cmp nat_cmp) sorted
  pub same : (word : List ℕ) → Contains sorted word ↔ Contains words word

-- the argument at a place; none is empty
abbrev pub argument : ℕ → List (List ℕ) → List ℕ
argument place values = slice_index_or values place []

-- the result of a call on the values of its arguments; `if` and `foreach` aren't among these
abbrev pub applied : Function → List (List ℕ) → List ℕ
applied Subst values = replaced (argument 0 values) (argument 1 values) 0 (argument 2 values)
applied Strip values = row (words (argument 0 values))
applied AddPrefix values = row (map (λ word. argument 0 values ++ word) (words (argument 1 values)))
applied AddSuffix values = row (map (λ word. word ++ argument 0 values) (words (argument 1 values)))
applied Filter values = row (filter (λ word. is_matched (words (argument 0 values)) word) (words (argument 1 values)))
applied FilterOut values = row (filter (λ word. not (is_matched (words (argument 0 values)) word)) (words (argument 1 values)))
applied PatSubst values = row (filter is_filled (map (exchanged (argument 0 values) (argument 1 values)) (words (argument 2 values))))
applied Sort values = row (sorted_with [] (words (argument 0 values)))
applied FirstWord values = row (take 1 (words (argument 0 values)))
applied Call values = row (words (filter (λ b. not (b == 34)) (argument 1 values)))
applied If values = []
applied Foreach values = []
