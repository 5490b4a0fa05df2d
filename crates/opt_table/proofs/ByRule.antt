-- Words are read as the rule says.
use Rattle.std.proofs.Common.{◌≡◌, ℕ, ◌+◌, true, false, Option, Some, None, Result, Ok, Err, List, [], ◌∷◌, ◌++◌, length, sym, refl, ap, subst, ◌∙◌, arith, append_assoc, length-append}
use Rattle.std.specs.Prelude.{codes}
use Rattle.std.specs.Cmp.Lexicographic.{bytes_decides}
use Rattle.std.proofs.lemmas.List.{append-nil}
use Rattle.br_path.specs.Path.{Names}
use Rattle.br_path.specs.Text.{is_text}
use Rattle.opt_table.specs.declared.options.Given.{Given}
use Rattle.opt_table.specs.declared.fault.OptFault.{OptFault}
use Rattle.opt_table.specs.declared.fault.OptFault.TheVariants.{Unknown}
use Rattle.opt_table.specs.declared.reading.Waiting.{Waiting}
use Rattle.opt_table.specs.Table.{Rows, is_rising}
use Rattle.opt_table.specs.Given.{Read, with_value, nothing, joined, only_given, only_operands}
use Rattle.opt_table.specs.Reading.{Said, grown, group_of, said_of, is_end, behind, words_from, options_of}
use Rattle.opt_table.specs.Words.{IsGroup, Says, AreTaken, none, operand, group, value, AreRead, whole, ended, IsRefused, long, unknown, IsFirstFault, refused, no_value}
use Rattle.opt_table.proofs.Steps.{joined-joined, joined-nothing, behind-nothing, next-word, refused-word}
use Rattle.opt_table.proofs.Tables.{either}
use Rattle.opt_table.proofs.Groups.{waits, says-group, IsGroupOf, as_said, not_in_table, group-is}
use Rattle.opt_table.proofs.WordKinds.{operand-goes-on, operand-said, group-goes-on, group-said, refused-goes-on, refused-said, IsWord, is_operand, is_group, is_long_word, word-is}

-- 1. What the rule says is read.

one-more : (front : Names) (word : List ℕ) → length front + 1 ≡ length (front ++ word ∷ [])
one-more front word = sym (length-append front (word ∷ []))

two-more : (front : Names) (word next : List ℕ) → length front + 1 + 1 ≡ length (front ++ word ∷ next ∷ [])
two-more front word next = omega (arith, length-append front (word ∷ next ∷ []))

-- where a word is taken, the reading goes on after it
go-on : (rows : Rows) (word : List ℕ) (words : Names) (place : ℕ) (read more : Read) (waiting : Option Waiting) → is_end None word ≡ false
    → said_of rows place None word ≡ Ok (record { read = more; waiting = waiting })
    → behind read (words_from rows (word ∷ words) place None) ≡ behind (joined read more) (words_from rows words (place + 1) waiting)
go-on rows word words place read more waiting goes_on said = next-word rows word words place None waiting read (joined read more) goes_on (ap (grown read) said)

-- and where the next word is a value, after that
go-past : (rows : Rows) (word next : List ℕ) (words : Names) (place : ℕ) (read : Read) (given : List Given) (letter : ℕ) → is_end None word ≡ false
    → said_of rows place None word ≡ Ok (record { read = only_given given; waiting = Some (waits place letter) })
    → behind read (words_from rows (word ∷ next ∷ words) place None) ≡ behind (joined read (only_given (given ++ with_value letter next ∷ []))) (words_from rows words (place + 1 + 1) None)
go-past rows word next words place read given letter goes_on said =
    go-on rows word (next ∷ words) place read (only_given given) (Some (waits place letter)) goes_on said
    ∙ next-word rows next words (place + 1) (Some (waits place letter)) None (joined read (only_given given)) (joined (joined read (only_given given)) (only_given (with_value letter next ∷ []))) refl refl
    ∙ ap (λ (r : Read). behind r (words_from rows words (place + 1 + 1) None)) (joined-joined read (only_given given) (only_given (with_value letter next ∷ [])))

-- words after those that are read whole
taken-read : (rows : Rows) {front : Names} {read : Read} → is_rising rows ≡ true → AreTaken rows front read → (back : Names)
    → words_from rows (front ++ back) 0 None ≡ behind read (words_from rows back (length front) None)
taken-read rows rising none back = sym (behind-nothing (words_from rows back 0 None))
taken-read rows rising (operand front word read taken is) back =
    ap (λ (w : Names). words_from rows w 0 None) (append_assoc front (word ∷ []) back)
    ∙ taken-read rows rising taken (word ∷ back)
    ∙ go-on rows word back (length front) read (only_operands (word ∷ [])) None (operand-goes-on word is) (operand-said rows (length front) word is)
    ∙ ap (λ (k : ℕ). behind (joined read (only_operands (word ∷ []))) (words_from rows back k None)) (one-more front word)
taken-read rows rising (group front word letters read given taken is says) back =
    ap (λ (w : Names). words_from rows w 0 None) (append_assoc front (word ∷ []) back)
    ∙ taken-read rows rising taken (word ∷ back)
    ∙ go-on rows word back (length front) read (only_given given) None (group-goes-on is) (group-said rows (length front) is ∙ says-group rows (length front) rising says)
    ∙ ap (λ (k : ℕ). behind (joined read (only_given given)) (words_from rows back k None)) (one-more front word)
taken-read rows rising (value front word letters next read given letter taken is says) back =
    ap (λ (w : Names). words_from rows w 0 None) (append_assoc front (word ∷ next ∷ []) back)
    ∙ taken-read rows rising taken (word ∷ next ∷ back)
    ∙ go-past rows word next back (length front) read given letter (group-goes-on is) (group-said rows (length front) is ∙ says-group rows (length front) rising says)
    ∙ ap (λ (k : ℕ). behind (joined read (only_given (given ++ with_value letter next ∷ []))) (words_from rows back k None)) (two-more front word next)

pub rule-read : (rows : Rows) {words : Names} {read : Read} → is_rising rows ≡ true → AreRead rows words read → options_of rows words ≡ Ok read
rule-read rows rising (whole words read taken) =
    ap (options_of rows) (sym (append-nil words))
    ∙ taken-read rows rising taken []
    ∙ ap (λ (r : Read). Ok r) (joined-nothing read)
rule-read rows rising (ended front back read taken) = taken-read rows rising taken (codes "--" ∷ back)

pub rule-fault : (rows : Rows) {words : Names} {fault : OptFault} → is_rising rows ≡ true → IsFirstFault rows words fault → options_of rows words ≡ Err fault
rule-fault rows rising (refused front back word read taken is) =
    taken-read rows rising taken (word ∷ back)
    ∙ refused-word rows word back (length front) None read (Unknown (length front)) (refused-goes-on rows is) (ap (grown read) (refused-said rows (length front) rising is))
rule-fault rows rising (no_value front word letters read given letter taken is says) =
    taken-read rows rising taken (word ∷ [])
    ∙ go-on rows word [] (length front) read (only_given given) (Some (waits (length front) letter)) (group-goes-on is) (group-said rows (length front) is ∙ says-group rows (length front) rising says)

-- 2. What is read is what the rule says.

abbrev pub IsByRule : Rows → Names → Result Read OptFault → Type 0
IsByRule rows words (Ok read) = AreRead rows words read
IsByRule rows words (Err fault) = IsFirstFault rows words fault

-- words after a front, read further by the rule
abbrev GoesOn : Rows → Names → Type 0
GoesOn rows words = (front : Names) (read : Read) → AreTaken rows front read → IsByRule rows (front ++ words) (behind read (words_from rows words (length front) None))

-- likewise after a word that waits for its value
abbrev WaitsOn : Rows → Names → Type 0
WaitsOn rows words = (front : Names) (word letters : List ℕ) (read : Read) (given : List Given) (letter : ℕ) → AreTaken rows front read → IsGroup word letters → Says rows letters given (Some letter)
    → IsByRule rows (front ++ word ∷ words) (behind (joined read (only_given given)) (words_from rows words (length front + 1) (Some (waits (length front) letter))))

-- a word after a front that is taken with it
with-front : (rows : Rows) (front : Names) (word : List ℕ) (words : Names) (read more : Read) → is_end None word ≡ false
    → said_of rows (length front) None word ≡ Ok (record { read = more; waiting = None }) → AreTaken rows (front ++ word ∷ []) (joined read more) → GoesOn rows words
    → IsByRule rows (front ++ word ∷ words) (behind read (words_from rows (word ∷ words) (length front) None))
with-front rows front word words read more goes_on said taken onward =
    subst (IsByRule rows (front ++ word ∷ words))
    (ap (λ (k : ℕ). behind (joined read more) (words_from rows words k None)) (sym (one-more front word)) ∙ sym (go-on rows word words (length front) read more None goes_on said))
    (subst (λ (w : Names). IsByRule rows w (behind (joined read more) (words_from rows words (length (front ++ word ∷ [])) None))) (append_assoc front (word ∷ []) words)
    (onward (front ++ word ∷ []) (joined read more) taken))

group-on : (rows : Rows) (front : Names) (word letters : List ℕ) (words : Names) (read : Read) (result : Result Said OptFault) → group_of rows (length front) letters ≡ result → IsGroupOf rows (length front) letters result
    → AreTaken rows front read → IsGroup word letters → GoesOn rows words → WaitsOn rows words → IsByRule rows (front ++ word ∷ words) (behind read (words_from rows (word ∷ words) (length front) None))
group-on rows front word letters words read _ known (as_said given None is) taken grouped onward waiting =
    with-front rows front word words read (only_given given) (group-goes-on grouped) (group-said rows (length front) grouped ∙ known) (group front word letters read given taken grouped is) onward
group-on rows front word letters words read _ known (as_said given (Some letter) is) taken grouped onward waiting =
    subst (IsByRule rows (front ++ word ∷ words))
    (sym (go-on rows word words (length front) read (only_given given) (Some (waits (length front) letter)) (group-goes-on grouped) (group-said rows (length front) grouped ∙ known)))
    (waiting front word letters read given letter taken grouped is)
group-on rows front word letters words read _ known (not_in_table flags letter more is all out) taken grouped onward waiting =
    let no : IsRefused rows word = unknown word flags letter more (subst (IsGroup word) is grouped) all out in
    subst (IsByRule rows (front ++ word ∷ words))
    (sym (refused-word rows word words (length front) None read (Unknown (length front)) (group-goes-on grouped) (ap (grown read) (group-said rows (length front) grouped ∙ known))))
    (refused front words word read taken no)

word-on : (rows : Rows) (front : Names) (word : List ℕ) (words : Names) (read : Read) → IsWord word → AreTaken rows front read → GoesOn rows words → WaitsOn rows words
    → IsByRule rows (front ++ word ∷ words) (behind read (words_from rows (word ∷ words) (length front) None))
word-on rows front word words read (is_operand is) taken onward waiting =
    with-front rows front word words read (only_operands (word ∷ [])) (operand-goes-on word is) (operand-said rows (length front) word is) (operand front word read taken is) onward
word-on rows front word words read (is_group letters is) taken onward waiting =
    group-on rows front word letters words read (group_of rows (length front) letters) refl (group-is rows (length front) letters) taken is onward waiting
word-on rows front word words read (is_long_word byte bytes is) taken onward waiting =
    subst (λ (w : List ℕ). IsByRule rows (front ++ w ∷ words) (behind read (words_from rows (w ∷ words) (length front) None))) (sym is)
    (refused front words (45 ∷ 45 ∷ byte ∷ bytes) read taken (long byte bytes))

end-on : (rows : Rows) (front words : Names) (read : Read) (word : List ℕ) → word ≡ codes "--" → AreTaken rows front read
    → IsByRule rows (front ++ word ∷ words) (behind read (words_from rows (word ∷ words) (length front) None))
end-on rows front words read word is taken =
    subst (λ (w : List ℕ). IsByRule rows (front ++ w ∷ words) (behind read (words_from rows (w ∷ words) (length front) None))) (sym is) (ended front words read taken)

first-on : (rows : Rows) (front : Names) (word : List ℕ) (words : Names) (read : Read) → AreTaken rows front read → GoesOn rows words → WaitsOn rows words
    → IsByRule rows (front ++ word ∷ words) (behind read (words_from rows (word ∷ words) (length front) None))
first-on rows front word words read taken onward waiting =
    either (is_text word (codes "--"))
    (λ ends. end-on rows front words read word ((bytes_decides word (codes "--")).0 ends) taken)
    (λ goes_on. word-on rows front word words read (word-is word goes_on) taken onward waiting)

value-on : (rows : Rows) (next : List ℕ) (words : Names) → GoesOn rows words → WaitsOn rows (next ∷ words)
value-on rows next words onward front word letters read given letter taken is says =
    let more = given ++ with_value letter next ∷ [] in
    subst (IsByRule rows (front ++ word ∷ next ∷ words))
    (ap (λ (k : ℕ). behind (joined read (only_given more)) (words_from rows words k None)) (sym (two-more front word next))
    ∙ sym (next-word rows next words (length front + 1) (Some (waits (length front) letter)) None (joined read (only_given given)) (joined (joined read (only_given given)) (only_given (with_value letter next ∷ []))) refl refl
    ∙ ap (λ (r : Read). behind r (words_from rows words (length front + 1 + 1) None)) (joined-joined read (only_given given) (only_given (with_value letter next ∷ [])))))
    (subst (λ (w : Names). IsByRule rows w (behind (joined read (only_given more)) (words_from rows words (length (front ++ word ∷ next ∷ [])) None))) (append_assoc front (word ∷ next ∷ []) words)
    (onward (front ++ word ∷ next ∷ []) (joined read (only_given more)) (value front word letters next read given letter taken is says)))

mutual
  words-on : (rows : Rows) (words : Names) → GoesOn rows words
  words-on rows [] front read taken =
      subst (λ (w : Names). AreRead rows w (joined read nothing)) (sym (append-nil front)) (subst (λ (r : Read). AreRead rows front r) (sym (joined-nothing read)) (whole front read taken))
  words-on rows (word ∷ words) front read taken = first-on rows front word words read taken (words-on rows words) (waiting-on rows words)

  waiting-on : (rows : Rows) (words : Names) → WaitsOn rows words
  waiting-on rows [] front word letters read given letter taken is says = no_value front word letters read given letter taken is says
  waiting-on rows (next ∷ words) front word letters read given letter taken is says = value-on rows next words (words-on rows words) front word letters read given letter taken is says

read-is : (rows : Rows) (words : Names) → IsByRule rows words (options_of rows words)
read-is rows words = subst (IsByRule rows words) (behind-nothing (options_of rows words)) (words-on rows words [] nothing none)

pub read-rule : (rows : Rows) (words : Names) (read : Read) → options_of rows words ≡ Ok read → AreRead rows words read
read-rule rows words read is = subst (IsByRule rows words) is (read-is rows words)

pub fault-rule : (rows : Rows) (words : Names) (fault : OptFault) → options_of rows words ≡ Err fault → IsFirstFault rows words fault
fault-rule rows words fault is = subst (IsByRule rows words) is (read-is rows words)
