-- What is read so far, and what is read after it.
use Rattle.std.proofs.Common.{◌≡◌, ℕ, ◌+◌, Bool, true, false, Option, Some, None, Result, Ok, Err, List, [], ◌∷◌, sym, refl, ap, ◌∙◌, append_assoc}
use Rattle.std.specs.Prelude.{if◌then◌else◌}
use Rattle.std.proofs.lemmas.List.{append-nil}
use Rattle.br_path.specs.Path.{Names}
use Rattle.br_path.specs.Gives.{◌>>=◌}
use Rattle.opt_table.specs.declared.table.OptRow.{OptRow}
use Rattle.opt_table.specs.declared.fault.OptFault.{OptFault}
use Rattle.opt_table.specs.declared.fault.OptFault.TheVariants.{Unknown}
use Rattle.opt_table.specs.declared.reading.Waiting.{Waiting}
use Rattle.opt_table.specs.Table.{Rows, row_of}
use Rattle.opt_table.specs.Given.{Read, plain, nothing, joined, only_given, only_operands}
use Rattle.opt_table.specs.Reading.{Said, with_rest, grown, by_row, group_of, is_end, said_of, behind, words_from}

pub joined-joined : (a b c : Read) → joined (joined a b) c ≡ joined a (joined b c)
joined-joined a b c = λ i. record { given = append_assoc a.given b.given c.given i; operands = append_assoc a.operands b.operands c.operands i }

pub joined-nothing : (read : Read) → joined read nothing ≡ read
joined-nothing read = λ i. record { given = append-nil read.given i; operands = append-nil read.operands i }

pub grown-grown : (a b : Read) (said : Result Said OptFault) → grown a (grown b said) ≡ grown (joined a b) said
grown-grown a b (Ok said) = ap (λ (r : Read). Ok (record { read = r; waiting = said.waiting })) (sym (joined-joined a b said.read))
grown-grown a b (Err fault) = refl

pub behind-behind : (a b : Read) (further : Result Read OptFault) → behind a (behind b further) ≡ behind (joined a b) further
behind-behind a b (Ok read) = ap (λ (r : Read). Ok r) (sym (joined-joined a b read))
behind-behind a b (Err fault) = refl

pub behind-nothing : (further : Result Read OptFault) → behind nothing further ≡ further
behind-nothing (Ok read) = refl
behind-nothing (Err fault) = refl

-- a letter with a value
pub valued-group : (rows : Rows) (place letter : ℕ) (rest : List ℕ) (row : OptRow) → row_of rows letter ≡ Some row → row.value ≡ true → group_of rows place (letter ∷ rest) ≡ Ok (with_rest place letter rest)
valued-group rows place letter rest row known some =
    ap (λ (r : Option OptRow). by_row r place letter rest (group_of rows place rest)) known
    ∙ ap (λ (b : Bool). if b then Ok (with_rest place letter rest) else grown (only_given (plain letter ∷ [])) (group_of rows place rest)) some

-- a letter that isn't in the table
pub unknown-group : (rows : Rows) (place letter : ℕ) (rest : List ℕ) → row_of rows letter ≡ None → group_of rows place (letter ∷ rest) ≡ Err (Unknown place)
unknown-group rows place letter rest unknown = ap (λ (r : Option OptRow). by_row r place letter rest (group_of rows place rest)) unknown

next-said : (old new : Read) (said : Result Said OptFault) (waiting : Option Waiting) (onward : Option Waiting → Result Read OptFault)
    → grown old said ≡ Ok (record { read = new; waiting = waiting }) → behind old (said >>= λ s. behind s.read (onward s.waiting)) ≡ behind new (onward waiting)
next-said old new (Ok said) waiting onward is =
    behind-behind old said.read (onward said.waiting)
    ∙ ap (λ (s : Said). behind s.read (onward s.waiting)) (let e : record { read = joined old said.read; waiting = said.waiting } ≡ record { read = new; waiting = waiting } = cc in e)
next-said old new (Err fault) waiting onward is = (cc)

-- a word is taken, and the words after it are left
pub next-word : (rows : Rows) (word : List ℕ) (words : Names) (place : ℕ) (waiting left : Option Waiting) (old new : Read) → is_end waiting word ≡ false
    → grown old (said_of rows place waiting word) ≡ Ok (record { read = new; waiting = left })
    → behind old (words_from rows (word ∷ words) place waiting) ≡ behind new (words_from rows words (place + 1) left)
next-word rows word words place waiting left old new goes_on is =
    ap (λ (b : Bool). behind old (if b then Ok (only_operands words) else said_of rows place waiting word >>= λ said. behind said.read (words_from rows words (place + 1) said.waiting))) goes_on
    ∙ next-said old new (said_of rows place waiting word) left (λ w. words_from rows words (place + 1) w) is

-- a word that is refused
pub refused-word : (rows : Rows) (word : List ℕ) (words : Names) (place : ℕ) (waiting : Option Waiting) (old : Read) (fault : OptFault) → is_end waiting word ≡ false
    → grown old (said_of rows place waiting word) ≡ Err fault → behind old (words_from rows (word ∷ words) place waiting) ≡ Err fault
refused-word rows word words place waiting old fault goes_on is =
    ap (λ (b : Bool). behind old (if b then Ok (only_operands words) else said_of rows place waiting word >>= λ said. behind said.read (words_from rows words (place + 1) said.waiting))) goes_on
    ∙ refused-said (said_of rows place waiting word) is
  where
    refused-said : (said : Result Said OptFault) → grown old said ≡ Err fault → behind old (said >>= λ s. behind s.read (words_from rows words (place + 1) s.waiting)) ≡ Err fault
    refused-said (Ok said) is = (cc)
    refused-said (Err other) is = (cc)
