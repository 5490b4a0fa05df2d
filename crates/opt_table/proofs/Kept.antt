-- What is read stands in the table and among the words.
use Rattle.std.proofs.Common.{◌≡◌, ℕ, suc, Bool, true, false, Option, Some, None, List, [], ◌∷◌, ◌++◌, map, reverse, refl, sym, ap, subst, ◌∙◌, arith}
use Rattle.std.specs.Prelude.{◌==◌, ◌||◌, All, Contains, is_some, codes, if◌then◌else◌}
use Rattle.std.specs.List.{list_any}
use Rattle.std.specs.Option.{option_or}
use Rattle.std.proofs.lemmas.Bool.{eqb-true}
use Rattle.std.proofs.lemmas.List.Elements.{All-append}
use Rattle.std.proofs.lemmas.List.Sorted.{All-permutation, IsPermutation-reverse, list_any-IsPermutation}
use Rattle.br_path.specs.Path.{Names}
use Rattle.opt_table.specs.declared.options.Given.{Given}
use Rattle.opt_table.specs.Table.{Rows}
use Rattle.opt_table.specs.Given.{Read, plain, with_value, has, first_value, value_of}
use Rattle.opt_table.specs.Words.{IsFlag, HasValue, Says, flags, rest as own_rest, next as next_word, AreTaken, none, operand, group, value, AreRead, whole, ended, AreSome, no_word, kept, left_out}
use Rattle.opt_table.proofs.Tables.{either, all-cons, all-none}

-- 1. The letters.

-- the table has the letter as it was given
abbrev IsRowed : Rows → Given → Type 0
IsRowed rows given = Contains rows (record { letter = given.letter; value = is_some given.value })

flags-rowed : (rows : Rows) (letters : List ℕ) → All (IsFlag rows) letters → All (IsRowed rows) (map plain letters)
flags-rowed rows [] all = all-none (IsRowed rows)
flags-rowed rows (letter ∷ letters) all =
    all-cons (IsRowed rows) (plain letter) (map plain letters) (all 0 letter (omega arith)) (flags-rowed rows letters (λ k d within. all (suc k) d (omega arith)))

one-rowed : (rows : Rows) (letter : ℕ) (bytes : List ℕ) → HasValue rows letter → All (IsRowed rows) (with_value letter bytes ∷ [])
one-rowed rows letter bytes has = all-cons (IsRowed rows) (with_value letter bytes) [] has (all-none (IsRowed rows))

says-rowed : {rows : Rows} {letters : List ℕ} {given : List Given} {after : Option ℕ} → Says rows letters given after → All (IsRowed rows) given
says-rowed {rows} (flags letters all) = flags-rowed rows letters all
says-rowed {rows} (own_rest letters letter byte bytes all has) =
    All-append (IsRowed rows) (map plain letters) (with_value letter (byte ∷ bytes) ∷ []) (flags-rowed rows letters all) (one-rowed rows letter (byte ∷ bytes) has)
says-rowed {rows} (next_word letters letter all has) = flags-rowed rows letters all

says-waits : {rows : Rows} {letters : List ℕ} {given : List Given} {letter : ℕ} → Says rows letters given (Some letter) → HasValue rows letter
says-waits (next_word letters letter all has) = has

taken-rowed : {rows : Rows} {words : Names} {read : Read} → AreTaken rows words read → All (IsRowed rows) read.given
taken-rowed {rows} none = all-none (IsRowed rows)
taken-rowed {rows} (operand front word read taken is) = All-append (IsRowed rows) read.given [] (taken-rowed taken) (all-none (IsRowed rows))
taken-rowed {rows} (group front word letters read given taken is says) = All-append (IsRowed rows) read.given given (taken-rowed taken) (says-rowed says)
taken-rowed {rows} (value front word letters next read given letter taken is says) =
    All-append (IsRowed rows) read.given (given ++ with_value letter next ∷ []) (taken-rowed taken)
    (All-append (IsRowed rows) given (with_value letter next ∷ []) (says-rowed says) (one-rowed rows letter next (says-waits says)))

read-rowed : {rows : Rows} {words : Names} {read : Read} → AreRead rows words read → All (IsRowed rows) read.given
read-rowed (whole words read taken) = taken-rowed taken
read-rowed {rows} (ended front back read taken) = All-append (IsRowed rows) read.given [] (taken-rowed taken) (all-none (IsRowed rows))

-- a letter that isn't given has no value
none-first : (given : List Given) (letter : ℕ) → list_any (λ g. g.letter == letter) given ≡ false → first_value given letter ≡ None
none-first [] letter fails = refl
none-first (first ∷ given) letter fails =
    either (first.letter == letter)
    (λ here. let clash : true ≡ false = sym (ap (λ (b : Bool). b || list_any (λ g. g.letter == letter) given) here) ∙ fails in (cc))
    (λ other. ap (λ (b : Bool). option_or (if b then first.value else None) (first_value given letter)) other
    ∙ none-first given letter (sym (ap (λ (b : Bool). b || list_any (λ g. g.letter == letter) given) other) ∙ fails))

-- the row of a letter that was given, by its first value
abbrev ByValue : Rows → ℕ → Option (List ℕ) → Type 0
ByValue rows letter found = Contains rows (record { letter = letter; value = is_some found })

here-row : (rows : Rows) (letter : ℕ) (own : Option (List ℕ)) (given : List Given) → ByValue rows letter own → (list_any (λ g. g.letter == letter) given ≡ true → ByValue rows letter (first_value given letter))
    → ByValue rows letter (option_or own (first_value given letter))
here-row rows letter (Some bytes) given row behind = row
here-row rows letter None given row behind =
    either (list_any (λ g. g.letter == letter) given) behind (λ fails. subst (ByValue rows letter) (sym (none-first given letter fails)) row)

first-row : (rows : Rows) (given : List Given) (letter : ℕ) → All (IsRowed rows) given → list_any (λ g. g.letter == letter) given ≡ true → ByValue rows letter (first_value given letter)
first-row rows [] letter all there = let clash : false ≡ true = there in absurd (let no : ⊥ = cc in no)
first-row rows (first ∷ given) letter all there =
    either (first.letter == letter)
    (λ here. subst (ByValue rows letter) (sym (ap (λ (b : Bool). option_or (if b then first.value else None) (first_value given letter)) here))
    (here-row rows letter first.value given (subst (λ (l : ℕ). ByValue rows l first.value) (eqb-true first.letter letter here) (all 0 first (omega arith)))
    (first-row rows given letter (λ k d within. all (suc k) d (omega arith)))))
    (λ other. subst (ByValue rows letter) (sym (ap (λ (b : Bool). option_or (if b then first.value else None) (first_value given letter)) other))
    (first-row rows given letter (λ k d within. all (suc k) d (omega arith)) (sym (ap (λ (b : Bool). b || list_any (λ g. g.letter == letter) given) other) ∙ there)))

pub given-row : (rows : Rows) (words : Names) (read : Read) (letter : ℕ) → AreRead rows words read → has read letter ≡ true → ByValue rows letter (value_of read letter)
given-row rows words read letter is there =
    first-row rows (reverse read.given) letter (All-permutation (IsRowed rows) read.given (reverse read.given) (IsPermutation-reverse read.given) (read-rowed is))
    (sym (list_any-IsPermutation (λ g. g.letter == letter) read.given (reverse read.given) (IsPermutation-reverse read.given)) ∙ there)

-- 2. The operands.

all-some : (words : Names) → AreSome words words
all-some [] = no_word
all-some (word ∷ words) = kept word words words (all-some words)

some-append : {some words others more : Names} → AreSome some words → AreSome others more → AreSome (some ++ others) (words ++ more)
some-append no_word behind = behind
some-append {others = others} {more = more} (kept word some words is) behind = kept word (some ++ others) (words ++ more) (some-append is behind)
some-append {others = others} {more = more} (left_out word some words is) behind = left_out word (some ++ others) (words ++ more) (some-append is behind)

taken-some : {rows : Rows} {words : Names} {read : Read} → AreTaken rows words read → AreSome read.operands words
taken-some none = no_word
taken-some (operand front word read taken is) = some-append (taken-some taken) (kept word [] [] no_word)
taken-some (group front word letters read given taken is says) = some-append (taken-some taken) (left_out word [] [] no_word)
taken-some (value front word letters next read given letter taken is says) = some-append (taken-some taken) (left_out word [] (next ∷ []) (left_out next [] [] no_word))

pub read-some : (rows : Rows) (words : Names) (read : Read) → AreRead rows words read → AreSome read.operands words
read-some rows _ _ (whole words read taken) = taken-some taken
read-some rows _ _ (ended front back read taken) = some-append (taken-some taken) (left_out (codes "--") back back (all-some back))
