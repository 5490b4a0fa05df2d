-- A recipe may begin with lines exactly where each of them is allowed.
use Rattle.std.proofs.Common.{◌≡◌, Ok, Err, List, [], ◌∷◌, ◌++◌, codes, sym, refl, ap, ◌∙◌, append_assoc}
use Rattle.std.proofs.lemmas.List.{append-nil}
use Rattle.mk_syntax.specs.declared.lines.Line.{Line}
use Rattle.mk_syntax.specs.declared.recipe.Statement.{Statement}
use Rattle.mk_syntax.specs.declared.recipe.What.TheVariants.{EndIf}
use Rattle.mk_syntax.specs.declared.fault.MkFault.{MkFault}
use Rattle.mk_syntax.specs.declared.row.Row.TheVariants.{Says}
use Rattle.mk_syntax.specs.declared.row.Inside.TheVariants as inside
use Rattle.mk_syntax.specs.declared.unfinished.Condition.{Condition}
use Rattle.mk_syntax.specs.declared.reader.Reader.{Reader}
use Rattle.mk_syntax.specs.Row.{row_of, inside_of}
use Rattle.mk_syntax.specs.Reading.{Run, reading}
use Rattle.mk_syntax.specs.Grammar.{IsBlock, IsBeginning, Leaves, IsFirstFault, whole, branching, undefined, defining, at_a_line}
use Rattle.mk_syntax.proofs.Accepted.{recipe_read, fault_read}
use Rattle.mk_syntax.proofs.Shown.{block_at, grow_definition, grow_condition, Reads, on, off, reads}

-- a line that ends a condition, and one that ends a `define`
endif : Line
endif = record { number = 0; bytes = codes "endif" }

endif-row : row_of endif.bytes ≡ Says EndIf
unfolding endif row_of
endif-row = refl

endef : Line
endef = record { number = 0; bytes = codes "endef" }

endef-row : inside_of endef.bytes ≡ inside.Ends
unfolding endef inside_of
endef-row = refl

-- lines after which a recipe goes on
abbrev pub GoesOn : List Line → Type 0
GoesOn front = (back : List Line) × ((statements : List Statement) × IsBlock (front ++ back) statements)

onwards : (front : List Line) (line : Line) → GoesOn (front ++ line ∷ []) → GoesOn front
onwards front line further = (line ∷ further.0, (further.1.0, block_at (append_assoc front (line ∷ []) further.0) refl further.1.1))

close : (conditions : List Condition) {front : List Line} {statements : List Statement} → IsBeginning front statements conditions → GoesOn front
close [] (whole {front = front} {statements = statements} block) = ([], (statements, block_at (sym (append-nil front)) refl block))
close (_ ∷ outer) (branching front part statements branches beginning rest) =
    onwards (front ++ part) endif (close outer (grow_condition endif endif-row beginning rest))

-- what lines leave open can be closed
pub goes_on : (front : List Line) (reader : Reader) → Leaves front reader → GoesOn front
goes_on front reader (undefined {conditions = conditions} beginning) = close conditions beginning
goes_on lines reader (defining front line body {name = name} {conditions = conditions} beginning row texts) =
    onwards (front ++ line ∷ body) endef (close conditions (grow_definition line body endef name row texts endef-row beginning))

not_both : {lines : List Line} {statements : List Statement} {fault : MkFault} → IsBlock lines statements → IsFirstFault lines fault → ⊥
not_both {lines = lines} {statements = statements} {fault = fault} a b =
    let e : reading lines ≡ Ok statements = recipe_read a in let f : reading lines ≡ Err fault = fault_read b in cc

begins : {front : List Line} {run : Run} (back : List Line) (statements : List Statement) → Reads front run → IsBlock (front ++ back) statements → (reader : Reader) × Leaves front reader
begins back statements (on reader leaves) block = (reader, leaves)
begins back statements (off front line behind reader fault cut leaves denied) block =
    absurd (not_both block (at_a_line front line (behind ++ back) reader (ap (λ l. l ++ back) cut ∙ append_assoc front (line ∷ behind) back) leaves denied))

-- where a recipe goes on after lines, they leave something open, or nothing
pub begun : (front back : List Line) (statements : List Statement) → IsBlock (front ++ back) statements → (reader : Reader) × Leaves front reader
begun front back statements block = begins back statements (reads front) block
