-- Tables of variables, and local names that hide them.
use Rattle.std.specs.Prelude.{ℕ, false, List, [], ◌∷◌, ◌++◌, reverse, Option, None, Some, if◌then◌else◌}
use Rattle.std.specs.Map.{lookup}
use Rattle.indexmap.specs.IndexMap.{insert_entry}
use Rattle.mk_expand.specs.declared.vars.Variable.{Variable}
use Rattle.mk_expand.specs.declared.locals.Local.{Local}
use Rattle.br_path.specs.Text.{is_text}

-- variables by name, in the order in which they were first set
abbrev pub Table : Type 0
Table = List (List ℕ × Variable)

-- the variable of a name
abbrev pub found : Table → List ℕ → Option Variable
found table name = lookup (is_text name) table

-- the table in which a name has this variable, in its old place or at the end
abbrev pub put : Table → List ℕ → Variable → Table
put table name variable = insert_entry is_text table name variable

-- a text with another after it, and a space between where the first isn't empty
abbrev pub lengthened : List ℕ → List ℕ → List ℕ
lengthened [] more = more
lengthened (b ∷ text) more = (b ∷ text) ++ 32 ∷ more

-- the variable of a name with a text appended; an unset one is made, to be expanded at use
abbrev pub with_more : Option Variable → List ℕ → Variable
with_more None more = record { simple = false; text = more }
with_more (Some old) more = record { simple = old.simple; text = lengthened old.text more }

-- the table in which a text is appended to the variable of a name
abbrev pub appended : Table → List ℕ → List ℕ → Table
appended table name more = put table name (with_more (found table name) more)

-- the text of the first local of a name in a list
abbrev pub first_local : List Local → List ℕ → Option (List ℕ)
first_local [] name = None
first_local (local ∷ locals) name = if is_text local.name name then Some local.bytes else first_local locals name

-- what a name stands for among locals: the last one of the name
abbrev pub hidden : List Local → List ℕ → Option (List ℕ)
hidden locals name = first_local (reverse locals) name
