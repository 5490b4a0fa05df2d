-- The variables before the first recipe.
use Rattle.std.specs.Prelude.{ℕ, true, List, [], ◌∷◌, ◌++◌, Option, Some, None, fold, bytes_eq, codes, if◌then◌else◌}
use Rattle.std.specs.Option.{option_map_or}
use Rattle.kc_values.specs.declared.kind.Kind.{Kind}
use Rattle.kc_values.specs.declared.kind.Kind.TheVariants.{Bool as BoolKind, Text, Int}
use Rattle.kc_values.specs.declared.values.Valued.{Valued}
use Rattle.kc_values.specs.Values.{Table as Values}
use Rattle.mk_expand.specs.declared.vars.Variable.{Variable}
use Rattle.mk_expand.specs.Vars.{Table, put}

-- a simple variable
abbrev pub simple : List ℕ → Variable
simple text = record { simple = true; text = text }

-- a bool that is y is `y`, and another isn't set; a string stands in double quotes, with its bytes as they are; an int is
-- its digits, also where it has none
abbrev pub symbol_text : Kind → List ℕ → Option (List ℕ)
symbol_text BoolKind text = if bytes_eq text (codes "y") then Some text else None
symbol_text Text text = Some (34 ∷ text ++ 34 ∷ [])
symbol_text Int text = Some text

-- a symbol as a variable
abbrev pub with_symbol : Table → List ℕ × Valued → Table
with_symbol vars symbol = option_map_or (λ text. put vars symbol.0 (simple text)) (symbol_text symbol.1.kind symbol.1.text) vars

-- a variable that is there from the start
abbrev pub with_preset : Table → List ℕ × List ℕ → Table
with_preset vars preset = put vars preset.0 (simple preset.1)

abbrev pub presets : List (List ℕ × List ℕ)
presets =
    (codes "TARGET_DIR", codes "/output/target") ∷ (codes "STAGING_DIR", codes "/output/staging") ∷ (codes "HOST_DIR", codes "/output/host")
    ∷ (codes "BUILD_DIR", codes "/output/build") ∷ (codes "INSTALL", codes "install") ∷ (codes "SED", codes "sed -i -e") ∷ []

-- the symbols as variables
abbrev pub symbol_vars : Values → Table
symbol_vars values = fold with_symbol [] values

-- the variables before the first recipe: the symbols, and then the presets, which win
abbrev pub first_vars : Values → Table
first_vars values = fold with_preset (symbol_vars values) presets
