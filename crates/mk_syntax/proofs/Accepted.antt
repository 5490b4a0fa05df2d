-- From the grammar to the reading: what is a recipe, or leaves something open, is read so.
use Rattle.std.proofs.Common.{◌≡◌, ℕ, suc, Bool, true, false, Some, None, Ok, Err, List, [], ◌∷◌, ◌++◌, map, sym, refl, ap, ◌∙◌, append_assoc, arith}
use Rattle.std.specs.Prelude.{All}
use Rattle.std.proofs.lemmas.List.{append-nil}
use Rattle.mk_syntax.specs.declared.lines.Line.{Line}
use Rattle.mk_syntax.specs.declared.recipe.Statement.{Statement}
use Rattle.mk_syntax.specs.declared.recipe.What.{What}
use Rattle.mk_syntax.specs.declared.recipe.What.TheVariants.{Set, Define, If, ElseIf, Else, EndIf, Make}
use Rattle.mk_syntax.specs.declared.fault.MkFault.{MkFault}
use Rattle.mk_syntax.specs.declared.row.Row.TheVariants.{Opens}
use Rattle.mk_syntax.specs.declared.row.Inside.TheVariants as inside
use Rattle.mk_syntax.specs.declared.unfinished.Condition.{Condition}
use Rattle.mk_syntax.specs.declared.reader.Reader.{Reader}
use Rattle.mk_syntax.specs.Row.{row_of, inside_of}
use Rattle.mk_syntax.specs.Reading.{Run, added, said, outside, within, next, after, start, closed, finished, reading}
use Rattle.mk_syntax.specs.Grammar.{at_line, IsPlain, IsText, lines_text, IsBlock, IsBranches, IsBeginning, Leaves, IsFirstFault, nothing, blank, plain, defined, conditional, first, further, last, whole, branching, undefined, defining, at_a_line, at_the_end}

-- a reading with no `define` open, and one in a `define`
abbrev pub clear : List Statement → List Condition → Reader
clear statements conditions = record { statements = statements; conditions = conditions; definition = None }

abbrev pub busy : List Statement → List Condition → ℕ → List ℕ → List (List ℕ) → Reader
busy statements conditions number name body =
    record { statements = statements; conditions = conditions; definition = Some (record { line = number; name = name; body = body }) }

-- a reading that goes on
abbrev pub ok : Reader → Run
ok reader = Ok reader

-- a fault ends the reading
pub after_fault : (lines : List Line) (fault : MkFault) → after lines (Err fault) ≡ Err fault
after_fault [] fault = refl
after_fault (line ∷ lines) fault = refl

-- lines after lines
pub after_lines : (front back : List Line) (run : Run) → after (front ++ back) run ≡ after back (after front run)
after_lines [] back run = refl
after_lines (line ∷ front) back (Ok reader) = after_lines front back (next reader line)
after_lines (line ∷ front) back (Err fault) = sym (after_fault back fault)

-- where lines are read, what is after them goes on from there
pub more_lines : (front back : List Line) (run out : Run) (reader : Reader) → after front run ≡ Ok reader → after back (Ok reader) ≡ out → after (front ++ back) run ≡ out
more_lines front back run out reader e f = after_lines front back run ∙ ap (after back) e ∙ f

said_plain : (statements : List Statement) (conditions : List Condition) (number : ℕ) (what : What) → IsPlain what → said statements conditions number what ≡ added statements conditions number what
said_plain statements conditions number (Set name how text) is_plain = refl
said_plain statements conditions number (Define name text) is_plain = refl
said_plain statements conditions number (Make host) is_plain = refl
said_plain statements conditions number (If test) is_plain = absurd is_plain
said_plain statements conditions number (ElseIf test) is_plain = absurd is_plain
said_plain statements conditions number Else is_plain = absurd is_plain
said_plain statements conditions number EndIf is_plain = absurd is_plain

-- the lines of a `define` are kept
body_read : (body : List Line) (statements : List Statement) (conditions : List Condition) (number : ℕ) (name : List ℕ) (kept : List (List ℕ)) → All IsText body → after body (Ok (busy statements conditions number name kept)) ≡ Ok (busy statements conditions number name (kept ++ map (λ text. text.bytes) body))
body_read [] statements conditions number name kept texts = ap (λ k. ok (busy statements conditions number name k)) (sym (append-nil kept))
body_read (line ∷ body) statements conditions number name kept texts =
    let here : inside_of line.bytes ≡ inside.Text = texts 0 line (omega arith) in
    ap (λ row. after body (within statements conditions (record { line = number; name = name; body = kept }) line row)) here
    ∙ body_read body statements conditions number name (kept ++ line.bytes ∷ []) (λ k d h. texts (suc k) d (omega arith))
    ∙ ap (λ k. ok (busy statements conditions number name k)) (append_assoc kept (line.bytes ∷ []) (map (λ text. text.bytes) body))

-- a `define` is read
definition_read : (line : Line) (body : List Line) (end : Line) (name : List ℕ) (statements : List Statement) (conditions : List Condition) → row_of line.bytes ≡ Opens name → All IsText body → inside_of end.bytes ≡ inside.Ends → after (line ∷ body ++ end ∷ []) (Ok (clear statements conditions)) ≡ Ok (clear (statements ++ at_line line (Define name (lines_text body)) ∷ []) conditions)
definition_read line body end name statements conditions opens texts ends =
    ap (λ row. after (body ++ end ∷ []) (outside statements conditions line.number row)) opens
    ∙ more_lines body (end ∷ []) _ _ _ (body_read body statements conditions line.number name [] texts)
    (ap (λ row. within statements conditions (record { line = line.number; name = name; body = map (λ text. text.bytes) body }) end row) ends)

mutual
  pub block_read : {lines : List Line} {items : List Statement} → IsBlock lines items → (statements : List Statement) (conditions : List Condition) → after lines (Ok (clear statements conditions)) ≡ Ok (clear (statements ++ items) conditions)
  block_read nothing statements conditions = ap (λ s. ok (clear s conditions)) (sym (append-nil statements))
  block_read (blank front line {statements = items} block row) statements conditions =
      more_lines front (line ∷ []) _ _ _ (block_read block statements conditions) (ap (outside (statements ++ items) conditions line.number) row)
  block_read (plain front line items what block row is_plain) statements conditions =
      more_lines front (line ∷ []) _ _ _ (block_read block statements conditions)
      (ap (outside (statements ++ items) conditions line.number) row
      ∙ said_plain (statements ++ items) conditions line.number what is_plain
      ∙ ap (λ s. ok (clear s conditions)) (append_assoc statements items (at_line line what ∷ [])))
  block_read (defined front line body end items name block row texts ends) statements conditions =
      ap (λ l. after l (Ok (clear statements conditions))) (append_assoc front (line ∷ body) (end ∷ []))
      ∙ more_lines front (line ∷ body ++ end ∷ []) _ _ _ (block_read block statements conditions)
      (definition_read line body end name (statements ++ items) conditions row texts ends
      ∙ ap (λ s. ok (clear s conditions)) (append_assoc statements items (at_line line (Define name (lines_text body)) ∷ [])))
  block_read (conditional front part end items branches {number = number} {past_else = past} block rest row) statements conditions =
      more_lines (front ++ part) (end ∷ []) _ _ _
      (more_lines front part _ _ _ (block_read block statements conditions) (branches_read rest (statements ++ items) conditions))
      (ap (outside ((statements ++ items) ++ branches) (record { line = number; past_else = past } ∷ conditions) end.number) row
      ∙ ap (λ s. ok (clear (s ++ at_line end EndIf ∷ []) conditions)) (append_assoc statements items branches)
      ∙ ap (λ s. ok (clear s conditions)) (append_assoc statements (items ++ branches) (at_line end EndIf ∷ [])))

  pub branches_read : {number : ℕ} {past_else : Bool} {lines : List Line} {items : List Statement} → IsBranches number past_else lines items → (statements : List Statement) (conditions : List Condition) → after lines (Ok (clear statements conditions)) ≡ Ok (clear (statements ++ items) (record { line = number; past_else = past_else } ∷ conditions))
  branches_read (first line block test items row inside_block) statements conditions =
      ap (λ r. after block (outside statements conditions line.number r)) row
      ∙ block_read inside_block (statements ++ at_line line (If test) ∷ []) (record { line = line.number; past_else = false } ∷ conditions)
      ∙ ap (λ s. ok (clear s (record { line = line.number; past_else = false } ∷ conditions))) (append_assoc statements (at_line line (If test) ∷ []) items)
  branches_read (further {number = number} part line block before test items branches row inside_block) statements conditions =
      more_lines part (line ∷ block) _ _ _ (branches_read branches statements conditions)
      (ap (λ r. after block (outside (statements ++ before) (record { line = number; past_else = false } ∷ conditions) line.number r)) row
      ∙ block_read inside_block ((statements ++ before) ++ at_line line (ElseIf test) ∷ []) (record { line = number; past_else = false } ∷ conditions)
      ∙ ap (λ s. ok (clear s (record { line = number; past_else = false } ∷ conditions))) (append_assoc (statements ++ before) (at_line line (ElseIf test) ∷ []) items ∙ append_assoc statements before (at_line line (ElseIf test) ∷ items)))
  branches_read (last {number = number} part line block before items branches row inside_block) statements conditions =
      more_lines part (line ∷ block) _ _ _ (branches_read branches statements conditions)
      (ap (λ r. after block (outside (statements ++ before) (record { line = number; past_else = false } ∷ conditions) line.number r)) row
      ∙ block_read inside_block ((statements ++ before) ++ at_line line Else ∷ []) (record { line = number; past_else = true } ∷ conditions)
      ∙ ap (λ s. ok (clear s (record { line = number; past_else = true } ∷ conditions))) (append_assoc (statements ++ before) (at_line line Else ∷ []) items ∙ append_assoc statements before (at_line line Else ∷ items)))

beginning_read : {lines : List Line} {statements : List Statement} {conditions : List Condition} → IsBeginning lines statements conditions → after lines (Ok start) ≡ Ok (clear statements conditions)
beginning_read (whole block) = block_read block [] []
beginning_read (branching front part statements branches beginning rest) =
    more_lines front part _ _ _ (beginning_read beginning) (branches_read rest statements _)

-- what lines leave open is what the reading of them has open
pub leaves_read : {lines : List Line} {reader : Reader} → Leaves lines reader → after lines (Ok start) ≡ Ok reader
leaves_read (undefined beginning) = beginning_read beginning
leaves_read (defining front line body {name = name} {statements = statements} {conditions = conditions} beginning row texts) =
    more_lines front (line ∷ body) _ _ _ (beginning_read beginning)
    (ap (λ r. after body (outside statements conditions line.number r)) row
    ∙ body_read body statements conditions line.number name [] texts)

-- a recipe is read
pub recipe_read : {lines : List Line} {items : List Statement} → IsBlock lines items → reading lines ≡ Ok items
recipe_read block = ap finished (block_read block [] [])

-- a first fault is found
pub fault_read : {lines : List Line} {fault : MkFault} → IsFirstFault lines fault → reading lines ≡ Err fault
fault_read (at_a_line front line back reader cut leaves refused) =
    ap reading cut
    ∙ ap finished (more_lines front (line ∷ back) _ _ _ (leaves_read leaves) (ap (after back) refused ∙ after_fault back _))
fault_read (at_the_end reader leaves unclosed) = ap finished (leaves_read leaves) ∙ ap (closed reader.statements) unclosed
