-- The table of lines: what a line of each row looks like.
use Rattle.std.specs.Prelude.{ℕ, ◌≡◌, ◌==◌, true, List, [], ◌∷◌, ◌++◌, length, Some, None, codes}
use Rattle.kc_text.specs.declared.part.Part.{Part}
use Rattle.kc_text.specs.declared.part.Part.TheVariants.{Word as WordPart, Quoted as QuotedPart}
use Rattle.kc_expr.specs.Grammar.{IsCondition}
use Rattle.kc_values.specs.declared.kind.Kind.{Kind}
use Rattle.kc_values.specs.declared.kind.Kind.TheVariants.{Bool as BoolKind, Text as TextKind, Int as IntKind}
use Rattle.kc_expr.specs.declared.expr.Atom.TheVariants.{Word}
use Rattle.kc_expr.specs.declared.expr.Expr.{Expr, True, Holds}
use Rattle.kc_rows.specs.Row.{is_symbol}
use Rattle.kc_rows.specs.declared.row.Row.{Row}
use Rattle.kc_rows.specs.declared.row.Row.TheVariants.{MainMenu, Source, Menu, EndMenu, If, EndIf, Choice, EndChoice, Comment, Config, Typed, Prompt, DefBool, Default, Depends, Select, Help, DashedHelp}

-- a bare word
abbrev pub word : List ℕ → Part
word text = WordPart text

-- `[if E]`: nothing, which is the condition that always holds, or `if` and a condition
pub data IsTail : Expr → List Part → Type 0 where
  nothing : IsTail True []
  condition : (e : Expr) (text : List Part) → IsCondition e text → IsTail e (word (codes "if") ∷ text)

-- the word of a type
pub data IsType : Kind → List ℕ → Type 0 where
  bool : IsType BoolKind (codes "bool")
  string : IsType TextKind (codes "string")
  int : IsType IntKind (codes "int")

-- the rows of the table
pub data IsRow : Row → List Part → Type 0 where
  -- mainmenu "T"
  main_menu : (title : List ℕ) → IsRow MainMenu (word (codes "mainmenu") ∷ QuotedPart title ∷ [])
  -- source "P"
  source : (path : List ℕ) → IsRow (Source path) (word (codes "source") ∷ QuotedPart path ∷ [])
  -- menu "T"
  menu : (title : List ℕ) → IsRow Menu (word (codes "menu") ∷ QuotedPart title ∷ [])
  -- endmenu
  end_menu : IsRow EndMenu (word (codes "endmenu") ∷ [])
  -- if E
  begin_if : (e : Expr) (text : List Part) → IsCondition e text → IsRow (If e) (word (codes "if") ∷ text)
  -- endif
  end_if : IsRow EndIf (word (codes "endif") ∷ [])
  -- choice
  choice : IsRow Choice (word (codes "choice") ∷ [])
  -- endchoice
  end_choice : IsRow EndChoice (word (codes "endchoice") ∷ [])
  -- comment "T"
  comment : (text : List ℕ) → IsRow Comment (word (codes "comment") ∷ QuotedPart text ∷ [])
  -- config S
  config : (name : List ℕ) → is_symbol name ≡ true → IsRow (Config name) (word (codes "config") ∷ word name ∷ [])
  -- menuconfig S
  menu_config : (name : List ℕ) → is_symbol name ≡ true → IsRow (Config name) (word (codes "menuconfig") ∷ word name ∷ [])
  -- bool, string, int
  typed : (kind : Kind) (name : List ℕ) → IsType kind name → IsRow (Typed kind None) (word name ∷ [])
  -- bool "T" [if E], string "T" [if E], int "T" [if E]
  typed_prompt : (kind : Kind) (name title : List ℕ) (e : Expr) (tail : List Part) → IsType kind name → IsTail e tail → IsRow (Typed kind (Some e)) (word name ∷ QuotedPart title ∷ tail)
  -- prompt "T" [if E]
  prompt : (title : List ℕ) (e : Expr) (tail : List Part) → IsTail e tail → IsRow (Prompt e) (word (codes "prompt") ∷ QuotedPart title ∷ tail)
  -- def_bool E [if E]
  def_bool : (value e : Expr) (text tail : List Part) → IsCondition value text → IsTail e tail → IsRow (DefBool value e) (word (codes "def_bool") ∷ (text ++ tail))
  -- default V [if E], where V is a condition, perhaps of one part
  default : (value e : Expr) (text tail : List Part) → IsCondition value text → IsTail e tail → IsRow (Default value (length text == 1) e) (word (codes "default") ∷ (text ++ tail))
  -- default m [if E]: no condition has the bare word `m`, but it may name a symbol
  default_m : (e : Expr) (tail : List Part) → IsTail e tail → IsRow (Default (Holds (Word (codes "m"))) true e) (word (codes "default") ∷ word (codes "m") ∷ tail)
  -- depends on E
  depends : (e : Expr) (text : List Part) → IsCondition e text → IsRow (Depends e) (word (codes "depends") ∷ word (codes "on") ∷ text)
  -- select S [if E]
  select : (name : List ℕ) (e : Expr) (tail : List Part) → is_symbol name ≡ true → IsTail e tail → IsRow (Select name e) (word (codes "select") ∷ word name ∷ tail)
  -- help
  help : IsRow Help (word (codes "help") ∷ [])
  -- ---help---
  dashed_help : IsRow DashedHelp (word (codes "---help---") ∷ [])
