-- What the letters of a group say, by the rule and as they are read.
use Rattle.std.proofs.Common.{◌≡◌, ℕ, Bool, true, false, Option, Some, None, Result, Ok, Err, List, [], ◌∷◌, ◌++◌, map, suc, refl, sym, ap, subst, ◌∙◌, arith}
use Rattle.std.specs.Prelude.{All, Contains, if◌then◌else◌}
use Rattle.std.specs.Option.{option_map}
use Rattle.std.proofs.lemmas.List.{append-nil}
use Rattle.opt_table.specs.declared.table.OptRow.{OptRow}
use Rattle.opt_table.specs.declared.options.Given.{Given}
use Rattle.opt_table.specs.declared.fault.OptFault.{OptFault}
use Rattle.opt_table.specs.declared.fault.OptFault.TheVariants.{Unknown}
use Rattle.opt_table.specs.declared.reading.Waiting.{Waiting}
use Rattle.opt_table.specs.Table.{Rows, flag, valued, is_rising, row_of}
use Rattle.opt_table.specs.Given.{plain, with_value, nothing, only_given}
use Rattle.opt_table.specs.Reading.{Said, with_rest, grown, by_row, group_of}
use Rattle.opt_table.specs.Words.{IsFlag, HasValue, IsUnknown, Says, flags, rest as own_rest, next as next_word}
use Rattle.opt_table.proofs.Steps.{grown-grown, valued-group, unknown-group}
use Rattle.opt_table.proofs.Tables.{all-cons, all-none, row-known, row-found, row-missing, unknown-row}

-- a letter that waits, by its place
abbrev pub waits : ℕ → ℕ → Waiting
waits place letter = record { letter = letter; place = place }

-- what a group says as it is read
abbrev pub said : ℕ → List Given → Option ℕ → Said
said place given after = record { read = only_given given; waiting = option_map (waits place) after }

abbrev pub ok : Said → Result Said OptFault
ok s = Ok s

grown-nothing : (further : Result Said OptFault) → grown nothing further ≡ further
grown-nothing (Ok s) = refl
grown-nothing (Err fault) = refl

-- letters without a value, and the rest of the group after them
flags-group : (rows : Rows) (place : ℕ) (letters rest : List ℕ) → is_rising rows ≡ true → All (IsFlag rows) letters
    → group_of rows place (letters ++ rest) ≡ grown (only_given (map plain letters)) (group_of rows place rest)
flags-group rows place [] rest rising all = sym (grown-nothing (group_of rows place rest))
flags-group rows place (letter ∷ letters) rest rising all =
    ap (λ (r : Option OptRow). by_row r place letter (letters ++ rest) (group_of rows place (letters ++ rest))) (row-known rows (flag letter) rising (all 0 letter (omega arith)))
    ∙ ap (grown (only_given (plain letter ∷ []))) (flags-group rows place letters rest rising (λ k d within. all (suc k) d (omega arith)))
    ∙ grown-grown (only_given (plain letter ∷ [])) (only_given (map plain letters)) (group_of rows place rest)

-- a group is read as the rule says
pub says-group : (rows : Rows) (place : ℕ) {group : List ℕ} {given : List Given} {after : Option ℕ} → is_rising rows ≡ true → Says rows group given after
    → group_of rows place group ≡ Ok (said place given after)
says-group rows place rising (flags letters all) =
    ap (group_of rows place) (sym (append-nil letters))
    ∙ flags-group rows place letters [] rising all
    ∙ ap (λ (g : List Given). ok (said place g None)) (append-nil (map plain letters))
says-group rows place rising (own_rest letters letter byte bytes all has) =
    flags-group rows place letters (letter ∷ byte ∷ bytes) rising all
    ∙ ap (grown (only_given (map plain letters))) (valued-group rows place letter (byte ∷ bytes) (valued letter) (row-known rows (valued letter) rising has) refl)
says-group rows place rising (next_word letters letter all has) =
    flags-group rows place letters (letter ∷ []) rising all
    ∙ ap (grown (only_given (map plain letters))) (valued-group rows place letter [] (valued letter) (row-known rows (valued letter) rising has) refl)
    ∙ ap (λ (g : List Given). ok (said place g (Some letter))) (append-nil (map plain letters))

-- a group with a letter that isn't in the table is refused
pub refused-group : (rows : Rows) (place : ℕ) (letters : List ℕ) (letter : ℕ) (rest : List ℕ) → is_rising rows ≡ true → All (IsFlag rows) letters → IsUnknown rows letter
    → group_of rows place (letters ++ letter ∷ rest) ≡ Err (Unknown place)
refused-group rows place letters letter rest rising all unknown =
    flags-group rows place letters (letter ∷ rest) rising all
    ∙ ap (grown (only_given (map plain letters))) (unknown-group rows place letter rest (unknown-row rows letter unknown))

-- what a group is, by what it is read as
pub data IsGroupOf (rows : Rows) (place : ℕ) (group : List ℕ) : Result Said OptFault → Type 0 where
  as_said : (given : List Given) (after : Option ℕ) → Says rows group given after → IsGroupOf rows place group (Ok (said place given after))
  not_in_table : (letters : List ℕ) (letter : ℕ) (rest : List ℕ) → group ≡ letters ++ letter ∷ rest → All (IsFlag rows) letters → IsUnknown rows letter → IsGroupOf rows place group (Err (Unknown place))

-- a letter without a value in front
says-more : {rows : Rows} {group : List ℕ} {given : List Given} {after : Option ℕ} (letter : ℕ) → IsFlag rows letter → Says rows group given after → Says rows (letter ∷ group) (plain letter ∷ given) after
says-more {rows} letter here (flags letters all) = flags (letter ∷ letters) (all-cons (IsFlag rows) letter letters here all)
says-more {rows} letter here (own_rest letters last byte bytes all has) = own_rest (letter ∷ letters) last byte bytes (all-cons (IsFlag rows) letter letters here all) has
says-more {rows} letter here (next_word letters last all has) = next_word (letter ∷ letters) last (all-cons (IsFlag rows) letter letters here all) has

flag-more : {rows : Rows} {place : ℕ} {group : List ℕ} (letter : ℕ) (further : Result Said OptFault) → IsFlag rows letter → IsGroupOf rows place group further
    → IsGroupOf rows place (letter ∷ group) (grown (only_given (plain letter ∷ [])) further)
flag-more letter _ here (as_said given after is) = as_said (plain letter ∷ given) after (says-more letter here is)
flag-more {rows} letter _ here (not_in_table letters other rest is all unknown) = not_in_table (letter ∷ letters) other rest (ap (λ g. letter ∷ g) is) (all-cons (IsFlag rows) letter letters here all) unknown

valued-here : (rows : Rows) (place letter : ℕ) (rest : List ℕ) → HasValue rows letter → IsGroupOf rows place (letter ∷ rest) (Ok (with_rest place letter rest))
valued-here rows place letter [] has = as_said [] (Some letter) (next_word [] letter (all-none (IsFlag rows)) has)
valued-here rows place letter (byte ∷ bytes) has = as_said (with_value letter (byte ∷ bytes) ∷ []) None (own_rest [] letter byte bytes (all-none (IsFlag rows)) has)

-- a row by its letter and whether it has a value
as-row : (row : OptRow) (letter : ℕ) (value : Bool) → row.letter ≡ letter → row.value ≡ value → row ≡ record { letter = letter; value = value }
as-row row letter value same is = λ i. record { letter = same i; value = is i }

known-here : (rows : Rows) (place letter : ℕ) (rest : List ℕ) (further : Result Said OptFault) (row : OptRow) (value : Bool) → row.value ≡ value → Contains rows row → row.letter ≡ letter
    → IsGroupOf rows place rest further → IsGroupOf rows place (letter ∷ rest) (if value then Ok (with_rest place letter rest) else grown (only_given (plain letter ∷ [])) further)
known-here rows place letter rest further row true is row_in same group = valued-here rows place letter rest (subst (Contains rows) (as-row row letter true same is) row_in)
known-here rows place letter rest further row false is row_in same group = flag-more letter further (subst (Contains rows) (as-row row letter false same is) row_in) group

letter-here : (rows : Rows) (place letter : ℕ) (rest : List ℕ) (further : Result Said OptFault) (found : Option OptRow) → row_of rows letter ≡ found → IsGroupOf rows place rest further
    → IsGroupOf rows place (letter ∷ rest) (by_row found place letter rest further)
letter-here rows place letter rest further None missing group = not_in_table [] letter rest refl (all-none (IsFlag rows)) (row-missing rows letter missing)
letter-here rows place letter rest further (Some row) found group =
    let is = row-found rows letter row found in
    known-here rows place letter rest further row row.value refl is.0 is.1 group

pub group-is : (rows : Rows) (place : ℕ) (group : List ℕ) → IsGroupOf rows place group (group_of rows place group)
group-is rows place [] = as_said [] None (flags [] (all-none (IsFlag rows)))
group-is rows place (letter ∷ rest) = letter-here rows place letter rest (group_of rows place rest) (row_of rows letter) refl (group-is rows place rest)
