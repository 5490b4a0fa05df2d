-- What words say by a table, in the words of the rule.
use Rattle.std.specs.Prelude.{◌≢◌, ℕ, Option, Some, None, List, [], ◌∷◌, ◌++◌, length, map, codes, All, Contains}
use Rattle.br_path.specs.Path.{Names}
use Rattle.opt_table.specs.declared.table.OptRow.{OptRow}
use Rattle.opt_table.specs.declared.options.Given.{Given}
use Rattle.opt_table.specs.declared.fault.OptFault.{OptFault}
use Rattle.opt_table.specs.declared.fault.OptFault.TheVariants.{Unknown, NeedsValue}
use Rattle.opt_table.specs.Table.{Rows, flag, valued}
use Rattle.opt_table.specs.Given.{Read, plain, with_value, nothing, joined, only_given, only_operands}

-- the table has the letter, without a value
abbrev pub IsFlag : Rows → ℕ → Type 0
IsFlag rows letter = Contains rows (flag letter)

-- the table has the letter, with a value
abbrev pub HasValue : Rows → ℕ → Type 0
HasValue rows letter = Contains rows (valued letter)

-- the table hasn't the letter
abbrev pub IsUnknown : Rows → ℕ → Type 0
IsUnknown rows letter = (row : OptRow) → Contains rows row → row.letter ≢ letter

-- a group and its letters: a word that begins with `-` and is longer, but doesn't begin with `--`
pub data IsGroup : List ℕ → List ℕ → Type 0 where
  dashed : (letter : ℕ) (more : List ℕ) → letter ≢ 45 → IsGroup (45 ∷ letter ∷ more) (letter ∷ more)

-- an operand: a word that doesn't begin with `-`, or is `-` alone
abbrev pub IsOperand : List ℕ → Type 0
IsOperand word = (letter : ℕ) (more : List ℕ) → word ≢ 45 ∷ letter ∷ more

-- what the letters of a group say: letters without a value, and after them perhaps a letter whose value is the rest of the
-- word, or one that ends the word and takes the next word
pub data Says (rows : Rows) : List ℕ → List Given → Option ℕ → Type 0 where
  flags : (letters : List ℕ) → All (IsFlag rows) letters → Says rows letters (map plain letters) None
  rest : (letters : List ℕ) (letter byte : ℕ) (bytes : List ℕ) → All (IsFlag rows) letters → HasValue rows letter
      → Says rows (letters ++ letter ∷ byte ∷ bytes) (map plain letters ++ with_value letter (byte ∷ bytes) ∷ []) None
  next : (letters : List ℕ) (letter : ℕ) → All (IsFlag rows) letters → HasValue rows letter → Says rows (letters ++ letter ∷ []) (map plain letters) (Some letter)

-- words that are read whole, without `--`: operands, groups, and groups with the next word as a value
pub data AreTaken (rows : Rows) : Names → Read → Type 0 where
  none : AreTaken rows [] nothing
  operand : (front : Names) (word : List ℕ) (read : Read) → AreTaken rows front read → IsOperand word → AreTaken rows (front ++ word ∷ []) (joined read (only_operands (word ∷ [])))
  group : (front : Names) (word letters : List ℕ) (read : Read) (given : List Given) → AreTaken rows front read → IsGroup word letters → Says rows letters given None
      → AreTaken rows (front ++ word ∷ []) (joined read (only_given given))
  value : (front : Names) (word letters next : List ℕ) (read : Read) (given : List Given) (letter : ℕ) → AreTaken rows front read → IsGroup word letters → Says rows letters given (Some letter)
      → AreTaken rows (front ++ word ∷ next ∷ []) (joined read (only_given (given ++ with_value letter next ∷ [])))

-- words: they are read whole, or up to `--`, after which all are operands
pub data AreRead (rows : Rows) : Names → Read → Type 0 where
  whole : (words : Names) (read : Read) → AreTaken rows words read → AreRead rows words read
  ended : (front back : Names) (read : Read) → AreTaken rows front read → AreRead rows (front ++ codes "--" ∷ back) (joined read (only_operands back))

-- a word that is refused: it begins with `--` and is longer, or, after letters without a value, has a letter that isn't in
-- the table
pub data IsRefused (rows : Rows) : List ℕ → Type 0 where
  long : (byte : ℕ) (bytes : List ℕ) → IsRefused rows (45 ∷ 45 ∷ byte ∷ bytes)
  unknown : (word letters : List ℕ) (letter : ℕ) (more : List ℕ) → IsGroup word (letters ++ letter ∷ more) → All (IsFlag rows) letters → IsUnknown rows letter → IsRefused rows word

-- the first fault: of the word after those that are read
pub data IsFirstFault (rows : Rows) : Names → OptFault → Type 0 where
  refused : (front back : Names) (word : List ℕ) (read : Read) → AreTaken rows front read → IsRefused rows word → IsFirstFault rows (front ++ word ∷ back) (Unknown (length front))
  no_value : (front : Names) (word letters : List ℕ) (read : Read) (given : List Given) (letter : ℕ) → AreTaken rows front read → IsGroup word letters → Says rows letters given (Some letter)
      → IsFirstFault rows (front ++ word ∷ []) (NeedsValue (length front))

-- some of the words, in their order
pub data AreSome : Names → Names → Type 0 where
  no_word : AreSome [] []
  kept : (word : List ℕ) (some words : Names) → AreSome some words → AreSome (word ∷ some) (word ∷ words)
  left_out : (word : List ℕ) (some words : Names) → AreSome some words → AreSome some (word ∷ words)
