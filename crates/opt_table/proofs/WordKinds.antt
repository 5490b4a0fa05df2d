-- What a word says, by the rule and as it is read.
use Rattle.std.proofs.Common.{◌≡◌, ◌≢◌, ℕ, Bool, true, false, Option, Some, None, Ok, Err, List, [], ◌∷◌, sym, refl, ap, subst, ◌∙◌, eq-eqb}
use Rattle.std.specs.Prelude.{◌==◌, codes, if◌then◌else◌}
use Rattle.std.specs.Cmp.Lexicographic.{bytes_decides}
use Rattle.std.proofs.lemmas.Bool.{eqb-true}
use Rattle.br_path.specs.Text.{is_text}
use Rattle.opt_table.specs.declared.fault.OptFault.TheVariants.{Unknown}
use Rattle.opt_table.specs.Table.{Rows, is_rising}
use Rattle.opt_table.specs.Given.{only_operands}
use Rattle.opt_table.specs.Reading.{group_of, letters_of, word_by, said_of, is_end}
use Rattle.opt_table.specs.Words.{IsGroup, dashed, IsOperand, IsRefused, long, unknown}
use Rattle.opt_table.proofs.Tables.{either, differ}
use Rattle.opt_table.proofs.Groups.{refused-group}

-- only `--` ends the options
pub not-end : (word : List ℕ) → word ≢ codes "--" → is_end None word ≡ false
not-end word other = either (is_text word (codes "--")) (λ same. absurd (other ((bytes_decides word (codes "--")).0 same))) (λ fails. fails)

pub operand-goes-on : (word : List ℕ) → IsOperand word → is_end None word ≡ false
operand-goes-on word is = not-end word (is 45 [])

operand-letters : (word : List ℕ) → IsOperand word → letters_of word ≡ None
operand-letters [] is = refl
operand-letters (byte ∷ []) is = refl
operand-letters (byte ∷ letter ∷ more) is =
    ap (λ (b : Bool). if b then Some (letter ∷ more) else None) (differ byte 45 (λ same. is letter more (ap (λ b. b ∷ letter ∷ more) same)))

pub operand-said : (rows : Rows) (place : ℕ) (word : List ℕ) → IsOperand word → said_of rows place None word ≡ Ok (record { read = only_operands (word ∷ []); waiting = None })
operand-said rows place word is = ap (λ (letters : Option (List ℕ)). word_by letters rows place word) (operand-letters word is)

dashed-differs : (letter : ℕ) (more : List ℕ) → letter ≢ 45 → 45 ∷ letter ∷ more ≢ codes "--"
dashed-differs letter more other same = let dash : letter ≡ 45 = cc in other dash

pub group-goes-on : {word letters : List ℕ} → IsGroup word letters → is_end None word ≡ false
group-goes-on (dashed letter more other) = not-end (45 ∷ letter ∷ more) (dashed-differs letter more other)

pub group-said : (rows : Rows) (place : ℕ) {word letters : List ℕ} → IsGroup word letters → said_of rows place None word ≡ group_of rows place letters
group-said rows place (dashed letter more other) =
    ap (λ (b : Bool). if b then Err (Unknown place) else group_of rows place (letter ∷ more)) (differ letter 45 other)

long-differs : (byte : ℕ) (bytes : List ℕ) → 45 ∷ 45 ∷ byte ∷ bytes ≢ codes "--"
long-differs byte bytes same = (cc)

pub refused-goes-on : (rows : Rows) {word : List ℕ} → IsRefused rows word → is_end None word ≡ false
refused-goes-on rows (long byte bytes) = not-end (45 ∷ 45 ∷ byte ∷ bytes) (long-differs byte bytes)
refused-goes-on rows (unknown word letters letter more is all out) = group-goes-on is

pub refused-said : (rows : Rows) (place : ℕ) {word : List ℕ} → is_rising rows ≡ true → IsRefused rows word → said_of rows place None word ≡ Err (Unknown place)
refused-said rows place rising (long byte bytes) = refl
refused-said rows place rising (unknown word letters letter more is all out) = group-said rows place is ∙ refused-group rows place letters letter more rising all out

-- what a word is, if it isn't `--`
pub data IsWord (word : List ℕ) : Type 0 where
  is_operand : IsOperand word → IsWord word
  is_group : (letters : List ℕ) → IsGroup word letters → IsWord word
  is_long_word : (byte : ℕ) (bytes : List ℕ) → word ≡ 45 ∷ 45 ∷ byte ∷ bytes → IsWord word

long-word : (more : List ℕ) → is_text (45 ∷ 45 ∷ more) (codes "--") ≡ false → IsWord (45 ∷ 45 ∷ more)
long-word [] goes_on = absurd (let clash : true ≡ false = goes_on in (cc))
long-word (byte ∷ bytes) goes_on = is_long_word byte bytes refl

dashed-word : (letter : ℕ) (more : List ℕ) → is_text (45 ∷ letter ∷ more) (codes "--") ≡ false → IsWord (45 ∷ letter ∷ more)
dashed-word letter more goes_on =
    either (letter == 45)
    (λ same. subst (λ (l : ℕ). IsWord (45 ∷ l ∷ more)) (sym (eqb-true letter 45 same)) (long-word more (subst (λ (l : ℕ). is_text (45 ∷ l ∷ more) (codes "--") ≡ false) (eqb-true letter 45 same) goes_on)))
    (λ other. is_group (letter ∷ more) (dashed letter more (λ same. let clash : true ≡ false = sym (eq-eqb letter 45 same) ∙ other in (cc))))

pub word-is : (word : List ℕ) → is_text word (codes "--") ≡ false → IsWord word
word-is [] goes_on = is_operand (λ letter more same. (cc))
word-is (byte ∷ []) goes_on = is_operand (λ letter more same. (cc))
word-is (byte ∷ letter ∷ more) goes_on =
    either (byte == 45)
    (λ same. subst (λ (b : ℕ). IsWord (b ∷ letter ∷ more)) (sym (eqb-true byte 45 same)) (dashed-word letter more (subst (λ (b : ℕ). is_text (b ∷ letter ∷ more) (codes "--") ≡ false) (eqb-true byte 45 same) goes_on)))
    (λ other. is_operand (λ first behind same. let is : byte ≡ 45 = cc in let clash : true ≡ false = sym (eq-eqb byte 45 is) ∙ other in (cc)))
