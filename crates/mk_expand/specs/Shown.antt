-- What the code's values with slices stand for.
use Rattle.std.specs.Prelude.{ℕ, Bool, ◌||◌, List, ◌++◌, map, Option, None, Some}
use Rattle.std.specs.List.{list_any}
use Rattle.std.specs.Cmp.Lexicographic.{slice_cmp}
use Rattle.std.specs.Ordering.{nat_cmp, is_eq}
use Rattle.mk_expand.specs.declared.piece.Piece.{Piece as CodePiece}
use Rattle.mk_expand.specs.declared.piece.Piece.TheVariants as code
use Rattle.mk_expand.specs.declared.pattern.Fit.{Fit as CodeFit}
use Rattle.mk_expand.specs.declared.pattern.Fit.TheVariants as fits
use Rattle.mk_expand.specs.declared.pattern.Spelling.{Spelling}
use Rattle.mk_expand.specs.declared.pattern.Sides.{Sides}
use Rattle.mk_expand.specs.declared.pattern.Patterns.{Patterns}
use Rattle.mk_expand.specs.declared.pattern.Exchange.{Exchange}
use Rattle.mk_expand.specs.declared.call.Called.{Called}
use Rattle.mk_expand.specs.declared.call.Called.TheVariants as called
use Rattle.mk_expand.specs.Lists.{Fit, Misses, Equals, Stem, fit_round, fit_at, is_fit}
use Rattle.mk_expand.specs.Call.{Inside, Name, Short, Choice, Loop, Strict}
use Rattle.mk_expand.specs.Piece.{Piece, Byte, Stray, Unclosed, Reference}

abbrev pub shown_piece : CodePiece → Piece
shown_piece (code.Byte b) = Byte b
shown_piece code.Stray = Stray
shown_piece code.Unclosed = Unclosed
shown_piece (code.Reference kind text) = Reference kind text.now

abbrev pub shown_fit : CodeFit → Fit
shown_fit fits.Misses = Misses
shown_fit fits.Equals = Equals
shown_fit (fits.Stem stem) = Stem stem.now

abbrev pub shown_spelling : Spelling → List ℕ
shown_spelling spelling = spelling.before.now ++ (spelling.stem.now ++ spelling.after.now)

-- how a word fits a pattern with its sides
abbrev pub fit_by : List ℕ → Option Sides → List ℕ → Fit
fit_by pattern None word = fit_at pattern word None
fit_by pattern (Some sides) word = fit_round sides.before.now sides.after.now word

-- a text with its sides, with a stem between them
abbrev pub filled_by : List ℕ → Option Sides → List ℕ → List ℕ
filled_by text None stem = text
filled_by text (Some sides) stem = sides.before.now ++ (stem ++ sides.after.now)

-- a word is one of the patterns without a `%`
abbrev pub is_plain_of : Patterns → List ℕ → Bool
is_plain_of patterns word = list_any (λ pattern. is_eq (slice_cmp nat_cmp word pattern.now)) patterns.plain.keys

-- a word fits one of the patterns with a `%`
abbrev pub is_round_of : List Sides → List ℕ → Bool
is_round_of rounds word = list_any (λ sides. is_fit (fit_round sides.before.now sides.after.now word)) rounds

-- a word fits one of the patterns
abbrev pub is_matched_by : Patterns → List ℕ → Bool
is_matched_by patterns word = is_plain_of patterns word || is_round_of patterns.rounds.items word

-- what an exchange makes of a word by its fit
abbrev pub exchanged_at : Exchange → List ℕ → Fit → List ℕ
exchanged_at exchange word Misses = word
exchanged_at exchange word Equals = exchange.replacement.now
exchanged_at exchange word (Stem stem) = filled_by exchange.replacement.now exchange.filling stem

-- what an exchange makes of a word
abbrev pub exchanged_by : Exchange → List ℕ → List ℕ
exchanged_by exchange word = exchanged_at exchange word (fit_by exchange.pattern.now exchange.sides word)

abbrev pub shown_call : Called → Inside
shown_call called.Name = Name
shown_call called.Short = Short
shown_call (called.Choice test one other) = Choice test.now one.now other.now
shown_call (called.Loop variable list body) = Loop variable.now list.now body.now
shown_call (called.Strict function args) = Strict function (map (λ arg. arg.now) args.items)
