-- From the reading to the grammar: what is read is a recipe, and what is refused has its first fault there.
use Rattle.std.proofs.Common.{◌≡◌, ℕ, Bool, true, false, Option, Some, None, Result, Ok, Err, List, [], ◌∷◌, ◌++◌, map, sym, refl, ap, ◌∙◌, subst, append_assoc, arith}
use Rattle.std.specs.Prelude.{All}
use Rattle.std.proofs.lemmas.List.{append-nil, map-append}
use Rattle.std.proofs.lemmas.List.Elements.{All-push}
use Rattle.mk_syntax.specs.declared.lines.Line.{Line}
use Rattle.mk_syntax.specs.declared.recipe.Statement.{Statement}
use Rattle.mk_syntax.specs.declared.recipe.What.{What}
use Rattle.mk_syntax.specs.declared.recipe.What.TheVariants.{Set, Define, If, ElseIf, Else, EndIf, Make}
use Rattle.mk_syntax.specs.declared.recipe.Test.{Test}
use Rattle.mk_syntax.specs.declared.fault.MkFault.{MkFault}
use Rattle.mk_syntax.specs.declared.row.Row.{Row}
use Rattle.mk_syntax.specs.declared.row.Row.TheVariants.{Nothing, Says, Opens, Loose, Refused}
use Rattle.mk_syntax.specs.declared.row.Inside.{Inside}
use Rattle.mk_syntax.specs.declared.row.Inside.TheVariants as inside
use Rattle.mk_syntax.specs.declared.unfinished.Condition.{Condition}
use Rattle.mk_syntax.specs.declared.unfinished.Definition.{Definition}
use Rattle.mk_syntax.specs.declared.reader.Reader.{Reader}
use Rattle.mk_syntax.specs.Row.{row_of, inside_of}
use Rattle.mk_syntax.specs.Unfinished.{outermost}
use Rattle.mk_syntax.specs.Reading.{Run, else_if, plain_else, end_if, said, loose, outside, within, next, after, start, first_open, left_open, closed, finished, reading}
use Rattle.mk_syntax.specs.Grammar.{at_line, IsPlain, IsText, lines_text, IsBlock, IsBranches, IsBeginning, Leaves, IsFirstFault, nothing, blank, plain, defined, conditional, first, further, last, whole, branching, undefined, defining, at_a_line, at_the_end}
use Rattle.mk_syntax.proofs.Accepted.{clear, busy, ok, after_fault}

-- equal lines and statements serve as well
pub block_at : {a b : List Line} {s t : List Statement} → a ≡ b → s ≡ t → IsBlock a s → IsBlock b t
block_at {a = a} {t = t} e f block = subst (λ l. IsBlock l t) e (subst (λ x. IsBlock a x) f block)

branches_at : {number : ℕ} {past_else : Bool} {a b : List Line} {s t : List Statement} → a ≡ b → s ≡ t → IsBranches number past_else a s → IsBranches number past_else b t
branches_at {number = number} {past_else = past_else} {a = a} {t = t} e f branches = subst (λ l. IsBranches number past_else l t) e (subst (λ x. IsBranches number past_else a x) f branches)

beginning_at : {a b : List Line} {s t : List Statement} {conditions : List Condition} → a ≡ b → s ≡ t → IsBeginning a s conditions → IsBeginning b t conditions
beginning_at {a = a} {t = t} {conditions = conditions} e f beginning = subst (λ l. IsBeginning l t conditions) e (subst (λ x. IsBeginning a x conditions) f beginning)

leaves_at : {a b : List Line} {reader other : Reader} → a ≡ b → reader ≡ other → Leaves a reader → Leaves b other
leaves_at {a = a} {other = other} e f leaves = subst (λ l. Leaves l other) e (subst (λ r. Leaves a r) f leaves)

-- what may stand after every block
abbrev Follows : List Line → List Statement → Type 0
Follows lines items = (block : List Line) (statements : List Statement) → IsBlock block statements → IsBlock (block ++ lines) (statements ++ items)

grow_branches : {number : ℕ} {past_else : Bool} {part : List Line} {branches : List Statement} (lines : List Line) (items : List Statement) → Follows lines items → IsBranches number past_else part branches → IsBranches number past_else (part ++ lines) (branches ++ items)
grow_branches lines items follows (first line block test statements row inner) =
    first line (block ++ lines) test (statements ++ items) row (follows block statements inner)
grow_branches lines items follows (further part line block before test statements branches row inner) =
    branches_at (sym (append_assoc part (line ∷ block) lines)) (sym (append_assoc before (at_line line (ElseIf test) ∷ statements) items))
    (further part line (block ++ lines) before test (statements ++ items) branches row (follows block statements inner))
grow_branches lines items follows (last part line block before statements branches row inner) =
    branches_at (sym (append_assoc part (line ∷ block) lines)) (sym (append_assoc before (at_line line Else ∷ statements) items))
    (last part line (block ++ lines) before (statements ++ items) branches row (follows block statements inner))

-- and so after every beginning
grow : {front : List Line} {statements : List Statement} {conditions : List Condition} (lines : List Line) (items : List Statement) → Follows lines items → IsBeginning front statements conditions → IsBeginning (front ++ lines) (statements ++ items) conditions
grow lines items follows (whole block) = whole (follows _ _ block)
grow lines items follows (branching front part statements branches beginning rest) =
    beginning_at (sym (append_assoc front part lines)) (sym (append_assoc statements branches items))
    (branching front (part ++ lines) statements (branches ++ items) beginning (grow_branches lines items follows rest))

-- a line without effect
grow_blank : {front : List Line} {statements : List Statement} {conditions : List Condition} (line : Line) → row_of line.bytes ≡ Nothing → IsBeginning front statements conditions → IsBeginning (front ++ line ∷ []) statements conditions
grow_blank {statements = statements} line row beginning =
    beginning_at refl (append-nil statements) (grow (line ∷ []) [] (λ b t block. block_at refl (sym (append-nil t)) (blank b line block row)) beginning)

-- a plain statement
grow_plain : {front : List Line} {statements : List Statement} {conditions : List Condition} (line : Line) (what : What) → row_of line.bytes ≡ Says what → IsPlain what → IsBeginning front statements conditions → IsBeginning (front ++ line ∷ []) (statements ++ at_line line what ∷ []) conditions
grow_plain line what row is_plain beginning = grow (line ∷ []) (at_line line what ∷ []) (λ b t block. plain b line t what block row is_plain) beginning

-- a definition
pub grow_definition : {front : List Line} {statements : List Statement} {conditions : List Condition} (line : Line) (body : List Line) (end : Line) (name : List ℕ) → row_of line.bytes ≡ Opens name → All IsText body → inside_of end.bytes ≡ inside.Ends → IsBeginning front statements conditions → IsBeginning ((front ++ line ∷ body) ++ end ∷ []) (statements ++ at_line line (Define name (lines_text body)) ∷ []) conditions
grow_definition {front = front} line body end name row texts ends beginning =
    beginning_at (sym (append_assoc front (line ∷ body) (end ∷ []))) refl
    (grow (line ∷ body ++ end ∷ []) (at_line line (Define name (lines_text body)) ∷ [])
    (λ b t block. block_at (append_assoc b (line ∷ body) (end ∷ [])) refl (defined b line body end t name block row texts ends)) beginning)

-- a condition that ends
pub grow_condition : {front part : List Line} {statements branches : List Statement} {conditions : List Condition} {number : ℕ} {past_else : Bool} (line : Line) → row_of line.bytes ≡ Says EndIf → IsBeginning front statements conditions → IsBranches number past_else part branches → IsBeginning ((front ++ part) ++ line ∷ []) ((statements ++ branches) ++ at_line line EndIf ∷ []) conditions
grow_condition {front = front} {part = part} {statements = statements} {branches = branches} line row beginning rest =
    beginning_at (sym (append_assoc front part (line ∷ []))) (sym (append_assoc statements branches (at_line line EndIf ∷ [])))
    (grow (part ++ line ∷ []) (branches ++ at_line line EndIf ∷ [])
    (λ b t block. block_at (append_assoc b part (line ∷ [])) (append_assoc t branches (at_line line EndIf ∷ [])) (conditional b part line t branches block rest row)) beginning)

same_reader : {reader other : Reader} → ok reader ≡ ok other → reader ≡ other
same_reader e = cc

no_reader : {fault : MkFault} {reader : Reader} → Err fault ≡ Ok reader → ⊥
no_reader e = cc

-- the readers that a step gives
clear_step : {lines : List Line} {statements : List Statement} {conditions : List Condition} {reader : Reader} → IsBeginning lines statements conditions → ok (clear statements conditions) ≡ ok reader → Leaves lines reader
clear_step beginning e = leaves_at refl (same_reader e) (undefined beginning)

else_if_step : {front : List Line} {statements : List Statement} (conditions : List Condition) (line : Line) (test : Test) {reader : Reader} → IsBeginning front statements conditions → row_of line.bytes ≡ Says (ElseIf test) → else_if statements conditions line.number (ElseIf test) ≡ Ok reader → Leaves (front ++ line ∷ []) reader
else_if_step [] line test beginning row e = absurd (no_reader e)
else_if_step (_ ∷ _) line test (branching front part statements branches {conditions = conditions} {number = number} {past_else = true} beginning rest) row e = absurd (no_reader e)
else_if_step (_ ∷ _) line test (branching front part statements branches {conditions = conditions} {number = number} {past_else = false} beginning rest) row e =
    clear_step
    (beginning_at (sym (append_assoc front part (line ∷ []))) (sym (append_assoc statements branches (at_line line (ElseIf test) ∷ [])))
    (branching front (part ++ line ∷ []) statements (branches ++ at_line line (ElseIf test) ∷ []) beginning (further part line [] branches test [] rest row nothing)))
    e

else_step : {front : List Line} {statements : List Statement} (conditions : List Condition) (line : Line) {reader : Reader} → IsBeginning front statements conditions → row_of line.bytes ≡ Says Else → plain_else statements conditions line.number ≡ Ok reader → Leaves (front ++ line ∷ []) reader
else_step [] line beginning row e = absurd (no_reader e)
else_step (_ ∷ _) line (branching front part statements branches {conditions = conditions} {number = number} {past_else = true} beginning rest) row e = absurd (no_reader e)
else_step (_ ∷ _) line (branching front part statements branches {conditions = conditions} {number = number} {past_else = false} beginning rest) row e =
    clear_step
    (beginning_at (sym (append_assoc front part (line ∷ []))) (sym (append_assoc statements branches (at_line line Else ∷ [])))
    (branching front (part ++ line ∷ []) statements (branches ++ at_line line Else ∷ []) beginning (last part line [] branches [] rest row nothing)))
    e

end_step : {front : List Line} {statements : List Statement} (conditions : List Condition) (line : Line) {reader : Reader} → IsBeginning front statements conditions → row_of line.bytes ≡ Says EndIf → end_if statements conditions line.number ≡ Ok reader → Leaves (front ++ line ∷ []) reader
end_step [] line beginning row e = absurd (no_reader e)
end_step (_ ∷ _) line (branching front part statements branches beginning rest) row e = clear_step (grow_condition line row beginning rest) e

said_step : {front : List Line} {statements : List Statement} {conditions : List Condition} (line : Line) (what : What) {reader : Reader} → IsBeginning front statements conditions → row_of line.bytes ≡ Says what → said statements conditions line.number what ≡ Ok reader → Leaves (front ++ line ∷ []) reader
said_step line (Set name how text) beginning row e = clear_step (grow_plain line (Set name how text) row tt beginning) e
said_step line (Define name text) beginning row e = clear_step (grow_plain line (Define name text) row tt beginning) e
said_step line (Make host) beginning row e = clear_step (grow_plain line (Make host) row tt beginning) e
said_step {front = front} {statements = statements} line (If test) beginning row e =
    clear_step (branching front (line ∷ []) statements (at_line line (If test) ∷ []) beginning (first line [] test [] row nothing)) e
said_step line (ElseIf test) beginning row e = else_if_step _ line test beginning row e
said_step line Else beginning row e = else_step _ line beginning row e
said_step line EndIf beginning row e = end_step _ line beginning row e

loose_step : {P : Type 0} (conditions : List Condition) (number : ℕ) {reader : Reader} → loose conditions number ≡ Ok reader → P
loose_step [] number e = absurd (no_reader e)
loose_step (inner ∷ outer) number e = absurd (no_reader e)

outside_step : {front : List Line} {statements : List Statement} {conditions : List Condition} (line : Line) (row : Row) {reader : Reader} → IsBeginning front statements conditions → row_of line.bytes ≡ row → outside statements conditions line.number row ≡ Ok reader → Leaves (front ++ line ∷ []) reader
outside_step line Nothing beginning row e = clear_step (grow_blank line row beginning) e
outside_step line (Says what) beginning row e = said_step line what beginning row e
outside_step {front = front} line (Opens name) beginning row e =
    leaves_at refl (same_reader e) (defining front line [] beginning row (λ k d h. absurd (omega arith)))
outside_step {conditions = conditions} line Loose beginning row e = loose_step conditions line.number e
outside_step line (Refused kind) beginning row e = absurd (no_reader e)

within_step : {front : List Line} {statements : List Statement} {conditions : List Condition} (opening : Line) (body : List Line) (name : List ℕ) (line : Line) (row : Inside) {reader : Reader} → IsBeginning front statements conditions → row_of opening.bytes ≡ Opens name → All IsText body → inside_of line.bytes ≡ row → within statements conditions (record { line = opening.number; name = name; body = map (λ text. text.bytes) body }) line row ≡ Ok reader → Leaves ((front ++ opening ∷ body) ++ line ∷ []) reader
within_step {front = front} {statements = statements} {conditions = conditions} opening body name line inside.Text beginning opens texts row e =
    leaves_at (sym (append_assoc front (opening ∷ body) (line ∷ [])))
    (ap (busy statements conditions opening.number name) (map-append (λ text. text.bytes) body (line ∷ [])) ∙ same_reader e)
    (defining front opening (body ++ line ∷ []) beginning opens (All-push IsText body line texts row))
within_step opening body name line inside.Ends beginning opens texts row e =
    clear_step (grow_definition opening body line name opens texts row beginning) e
within_step opening body name line (inside.Refused kind) beginning opens texts row e = absurd (no_reader e)

-- a line that is allowed leaves open what the step says
step : {front : List Line} {reader : Reader} (line : Line) {onward : Reader} → Leaves front reader → next reader line ≡ Ok onward → Leaves (front ++ line ∷ []) onward
step line (undefined beginning) e = outside_step line (row_of line.bytes) beginning refl e
step line (defining front opening body {name = name} beginning opens texts) e =
    within_step opening body name line (inside_of line.bytes) beginning opens texts refl e

-- what a reading of lines comes to: what they leave open, or a line that is refused
pub data Reads (lines : List Line) : Run → Type 0 where
  on : (reader : Reader) → Leaves lines reader → Reads lines (Ok reader)
  off : (front : List Line) (line : Line) (back : List Line) (reader : Reader) (fault : MkFault) → lines ≡ front ++ line ∷ back → Leaves front reader → next reader line ≡ Err fault → Reads lines (Err fault)

reads_next : (line : Line) (lines : List Line) → ((front : List Line) (reader : Reader) → Leaves front reader → Reads (front ++ lines) (after lines (Ok reader))) → (front : List Line) (reader : Reader) → Leaves front reader → (run : Run) → next reader line ≡ run → Reads (front ++ line ∷ lines) (after lines run)
reads_next line lines onwards front reader leaves (Ok onward) e =
    subst (λ l. Reads l (after lines (Ok onward))) (append_assoc front (line ∷ []) lines)
    (onwards (front ++ line ∷ []) onward (step line leaves e))
reads_next line lines onwards front reader leaves (Err fault) e =
    subst (Reads (front ++ line ∷ lines)) (sym (after_fault lines fault)) (off front line lines reader fault refl leaves e)

reads_from : (lines : List Line) (front : List Line) (reader : Reader) → Leaves front reader → Reads (front ++ lines) (after lines (Ok reader))
reads_from [] front reader leaves = on reader (leaves_at (sym (append-nil front)) refl leaves)
reads_from (line ∷ lines) front reader leaves =
    reads_next line lines (λ f r l. reads_from lines f r l) front reader leaves (next reader line) refl

pub reads : (lines : List Line) → Reads lines (after lines (Ok start))
reads lines = reads_from lines [] start (undefined (whole nothing))

outermost_some : (inner : Condition) (outer : List Condition) → (condition : Condition) × (outermost (inner ∷ outer) ≡ Some condition)
outermost_some inner [] = (inner, refl)
outermost_some inner (condition ∷ outer) = outermost_some condition outer

no_some : {X : Type 0} {x : X} → Some x ≡ None → ⊥
no_some e = cc

some_open : (condition : Condition) (definition : Option Definition) → first_open (Some condition) definition ≡ None → ⊥
some_open condition definition e = no_some e

-- where nothing is open, the lines are a recipe
nothing_open : {lines : List Line} {reader : Reader} → Leaves lines reader → left_open reader.conditions reader.definition ≡ None → IsBlock lines reader.statements
nothing_open (undefined (whole block)) e = block
nothing_open (undefined (branching front part statements branches {conditions = conditions} {number = number} {past_else = past} beginning rest)) e =
    let h = outermost_some (record { line = number; past_else = past }) conditions in
    absurd (some_open h.0 None (sym (ap (λ o. first_open o None) h.1) ∙ e))
nothing_open (defining front opening body {name = name} {conditions = []} beginning opens texts) e = absurd (no_some e)
nothing_open (defining front opening body {name = name} {conditions = inner ∷ outer} beginning opens texts) e =
    let h = outermost_some inner outer in
    let definition : Option Definition = Some (record { line = opening.number; name = name; body = map (λ text. text.bytes) body }) in
    absurd (some_open h.0 definition (sym (ap (λ o. first_open o definition) h.1) ∙ e))

-- the end of a reading
abbrev pub Comes : List Line → Result (List Statement) MkFault → Type 0
Comes lines (Ok items) = IsBlock lines items
Comes lines (Err fault) = IsFirstFault lines fault

closes : (lines : List Line) (reader : Reader) → Leaves lines reader → (fault : Option MkFault) → left_open reader.conditions reader.definition ≡ fault → Comes lines (closed reader.statements fault)
closes lines reader leaves None e = nothing_open leaves e
closes lines reader leaves (Some fault) e = at_the_end reader leaves e

comes : {lines : List Line} {run : Run} → Reads lines run → Comes lines (finished run)
comes (on reader leaves) = closes _ reader leaves (left_open reader.conditions reader.definition) refl
comes (off front line back reader fault cut leaves denied) = at_a_line front line back reader cut leaves denied

-- what is read is a recipe, or has a first fault
pub read_is : (lines : List Line) → Comes lines (reading lines)
read_is lines = comes (reads lines)
