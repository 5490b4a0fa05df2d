-- What is read of a line stands in the table.
use Rattle.std.proofs.Common.{◌≡◌, ◌⊎◌, inl, inr, refl, Bool, true, false, ℕ, ◌+◌, ◌==◌, List, [], ◌∷◌, length, Option, Some, None, IfSome, option_map, codes, if◌then◌else◌, ◌++◌, append-nil, subst, sym, ◌∙◌}
use Rattle.std.proofs.lemmas.Option.{IfSome_then}
use Rattle.br_path.specs.Text.{is_text}
use Rattle.kc_text.specs.declared.part.Part.{Part}
use Rattle.kc_text.specs.declared.part.Part.TheVariants.{Word as WordPart, Quoted as QuotedPart}
use Rattle.kc_expr.specs.Read.{expression, given}
use Rattle.kc_values.specs.declared.kind.Kind.{Kind}
use Rattle.kc_values.specs.declared.kind.Kind.TheVariants.{Bool as BoolKind, Text as TextKind, Int as IntKind}
use Rattle.kc_expr.specs.declared.expr.Atom.TheVariants.{Word}
use Rattle.kc_expr.specs.declared.expr.Expr.{Expr, Holds}
use Rattle.kc_rows.specs.Keyword.{keyword}
use Rattle.kc_rows.specs.Row as line
use Rattle.kc_rows.specs.Row.{row, row_behind, whole, is_symbol}
use Rattle.kc_rows.specs.Table as table
use Rattle.kc_rows.specs.Table.{IsRow, IsTail, IsType, word}
use Rattle.kc_expr.specs.Grammar.{IsCondition}
use Rattle.kc_rows.specs.declared.keyword.Keyword.{Keyword}
use Rattle.kc_rows.specs.declared.keyword.Keyword.TheVariants.{MainMenu as KeyMainMenu, Source as KeySource, Menu as KeyMenu, EndMenu as KeyEndMenu, If as KeyIf, EndIf as KeyEndIf, Choice as KeyChoice, EndChoice as KeyEndChoice, Comment as KeyComment, Config as KeyConfig, Bool as KeyBool, Text as KeyText, Int as KeyInt, Prompt as KeyPrompt, DefBool as KeyDefBool, Default as KeyDefault, Depends as KeyDepends, Select as KeySelect, Help as KeyHelp, DashedHelp as KeyDashedHelp}
use Rattle.kc_rows.specs.declared.row.Row.{Row}
use Rattle.kc_rows.specs.declared.row.Row.TheVariants.{MainMenu, Source, Menu, EndMenu, If, EndIf, Choice, EndChoice, Comment, Config, Typed, Prompt, DefBool, Default, Depends, Select, Help, DashedHelp}
use Rattle.kc_expr.proofs.Sound.{condition_sound}
use Rattle.kc_rows.proofs.Found.{found_some, found_given, found_map}
use Rattle.kc_rows.proofs.Single.{one_part, one_word}
use Rattle.kc_rows.proofs.Words.{IsWordOf, keyword_found, same}

-- ---- shapes

alone_found : (P : Row → List Part → Type 0) (r : Row) (rest : List Part) → P r [] → IfSome (line.alone rest r) (λ s. P s rest)
alone_found P r [] h = h
alone_found P r (part ∷ parts) h = tt

quoted_found : (P : Row → List Part → Type 0) (r : Row) (rest : List Part) → ((t : List ℕ) → P r (QuotedPart t ∷ [])) → IfSome (line.quoted rest r) (λ s. P s rest)
quoted_found P r [] h = tt
quoted_found P r (QuotedPart t ∷ []) h = h t
quoted_found P r (QuotedPart t ∷ part ∷ parts) h = tt
quoted_found P r (_ ∷ rest) h = tt

behind_found : (wanted : List ℕ) (parts : List Part) → IfSome (line.behind_word wanted parts) (λ rest. parts ≡ word wanted ∷ rest)
behind_found wanted (WordPart w ∷ rest) = told (is_text w wanted) (same w wanted)
  where
    told : (b : Bool) → (b ≡ true → w ≡ wanted) → IfSome (if b then Some rest else None) (λ r. word w ∷ rest ≡ word wanted ∷ r)
    told true e = rw (e refl) refl
    told false e = tt
behind_found wanted [] = tt
behind_found wanted (_ ∷ rest) = tt

-- the name of a symbol at the front
abbrev IsNamed : List Part → List ℕ × List Part → Type 0
IsNamed parts s = (is_symbol s.0 ≡ true) × (parts ≡ word s.0 ∷ s.1)

symbol_found : (parts : List Part) → IfSome (line.symbol parts) (IsNamed parts)
symbol_found (WordPart w ∷ rest) = told (is_symbol w) refl
  where
    told : (b : Bool) → is_symbol w ≡ b → IfSome (if b then Some (w, rest) else None) (IsNamed (word w ∷ rest))
    told true e = (e, refl)
    told false e = tt
symbol_found [] = tt
symbol_found (_ ∷ rest) = tt

-- a condition at the front
abbrev IsBegun : List Part → Expr × List Part → Type 0
IsBegun parts r = (text : List Part) × (parts ≡ text ++ r.1) × IsCondition r.0 text

ended : (parts : List Part) → IfSome (whole parts) (λ e. expression parts ≡ Some (e, []))
unfolding whole
ended parts = cut (expression parts)
  where
    cut : (o : Option (Expr × List Part)) → IfSome (given o None (λ r. line.alone r.1 r.0)) (λ e. o ≡ Some (e, []))
    cut None = tt
    cut (Some (e, [])) = refl
    cut (Some (e, part ∷ parts)) = tt

begun_found : (parts : List Part) → IfSome (expression parts) (IsBegun parts)
begun_found parts = IfSome_then (expression parts) (found_some (expression parts)) (λ r h. condition_sound parts r.1 r.0 h)

whole_found : (parts : List Part) → IfSome (whole parts) (λ e. IsCondition e parts)
whole_found parts =
    IfSome_then (whole parts) (ended parts) (λ e h.
    let begun = condition_sound parts [] e h in
    subst (IsCondition e) (sym (begun.1 ∙ append-nil begun.0)) begun.2)

condition_found : (tail : List Part) → IfSome (line.condition tail) (λ e. IsTail e tail)
condition_found [] = table.nothing
condition_found (part ∷ parts) =
    found_given (line.behind_word (codes "if") (part ∷ parts)) whole (λ rest. part ∷ parts ≡ word (codes "if") ∷ rest) (λ e. IsTail e (part ∷ parts))
    (behind_found (codes "if") (part ∷ parts))
    (λ rest at. rw at (IfSome_then (whole rest) (whole_found rest) (λ e h. table.condition e rest h)))

-- a quoted text, and perhaps a condition
abbrev IsPrompted : List Part → Expr → Type 0
IsPrompted parts e = (title : List ℕ) × (tail : List Part) × (parts ≡ QuotedPart title ∷ tail) × IsTail e tail

prompted_found : (parts : List Part) → IfSome (line.prompted parts) (IsPrompted parts)
prompted_found (QuotedPart t ∷ rest) = IfSome_then (line.condition rest) (condition_found rest) (λ e h. (t, rest, refl, h))
prompted_found [] = tt
prompted_found (_ ∷ rest) = tt

-- the value of a default
abbrev IsValue : List Part → Expr × List Part → Type 0
IsValue parts r = IsBegun parts r ⊎ ((parts ≡ word (codes "m") ∷ r.1) × (r.0 ≡ Holds (Word (codes "m"))))

value_found : (parts : List Part) → IfSome (line.value parts) (IsValue parts)
value_found parts = told (line.behind_word (codes "m") parts) (behind_found (codes "m") parts)
  where
    told : (o : Option (List Part)) → IfSome o (λ rest. parts ≡ word (codes "m") ∷ rest) → IfSome (given o (expression parts) (λ rest. Some (Holds (Word (codes "m")), rest))) (IsValue parts)
    told None h = IfSome_then (expression parts) (begun_found parts) (λ r b. inl b)
    told (Some rest) h = inr (h, refl)

-- ---- lines by their first words

source_found : (rest : List Part) → IfSome (line.source rest) (λ r. IsRow r (word (codes "source") ∷ rest))
source_found (QuotedPart path ∷ rest) = alone_found (λ r parts. IsRow r (word (codes "source") ∷ QuotedPart path ∷ parts)) (Source path) rest (table.source path)
source_found [] = tt
source_found (_ ∷ rest) = tt

if_found : (rest : List Part) → IfSome (line.begin_if rest) (λ r. IsRow r (word (codes "if") ∷ rest))
if_found rest =
    found_map (whole rest) (λ e. If e) (λ e. IsCondition e rest) (λ r. IsRow r (word (codes "if") ∷ rest))
    (whole_found rest) (λ e h. table.begin_if e rest h)

config_found : (w : List ℕ) (rest : List Part) → ((name : List ℕ) → is_symbol name ≡ true → IsRow (Config name) (word w ∷ word name ∷ [])) → IfSome (line.config rest) (λ r. IsRow r (word w ∷ rest))
config_found w rest made =
    found_given (line.symbol rest) (λ s. line.alone s.1 (Config s.0)) (IsNamed rest) (λ r. IsRow r (word w ∷ rest))
    (symbol_found rest)
    (λ s h. rw h.1 (alone_found (λ r parts. IsRow r (word w ∷ word s.0 ∷ parts)) (Config s.0) s.1 (made s.0 h.0)))

typed_found : (kind : Kind) (w : List ℕ) (rest : List Part) → IsType kind w → IfSome (line.typed kind rest) (λ r. IsRow r (word w ∷ rest))
typed_found kind w [] t = table.typed kind w t
typed_found kind w (part ∷ parts) t =
    found_map (line.prompted (part ∷ parts)) (λ e. Typed kind (Some e)) (IsPrompted (part ∷ parts)) (λ r. IsRow r (word w ∷ part ∷ parts))
    (prompted_found (part ∷ parts))
    (λ e h. rw h.2 (table.typed_prompt kind w h.0 e h.1 t h.3))

prompt_found : (rest : List Part) → IfSome (line.prompt rest) (λ r. IsRow r (word (codes "prompt") ∷ rest))
prompt_found rest =
    found_map (line.prompted rest) (λ e. Prompt e) (IsPrompted rest) (λ r. IsRow r (word (codes "prompt") ∷ rest))
    (prompted_found rest)
    (λ e h. rw h.2 (table.prompt h.0 e h.1 h.3))

def_bool_found : (rest : List Part) → IfSome (line.def_bool rest) (λ r. IsRow r (word (codes "def_bool") ∷ rest))
def_bool_found rest =
    found_given (expression rest) (λ r. option_map (λ e. DefBool r.0 e) (line.condition r.1)) (IsBegun rest) (λ r. IsRow r (word (codes "def_bool") ∷ rest))
    (begun_found rest)
    (λ r b. found_map (line.condition r.1) (λ e. DefBool r.0 e) (λ e. IsTail e r.1) (λ s. IsRow s (word (codes "def_bool") ∷ rest))
    (condition_found r.1) (λ e t. rw b.1 (table.def_bool r.0 e b.0 r.1 b.2 t)))

default_is : (rest : List Part) (r : Expr × List Part) (e : Expr) → IsValue rest r → IsTail e r.1 → IsRow (Default r.0 (length r.1 + 1 == length rest) e) (word (codes "default") ∷ rest)
default_is rest r e (inl b) t = rw (b.1, one_part b.0 r.1) (table.default r.0 e b.0 r.1 b.2 t)
default_is rest r e (inr h) t = rw (h.0, h.1, one_word r.1) (table.default_m e r.1 t)

default_found : (rest : List Part) → IfSome (line.defaulted rest) (λ r. IsRow r (word (codes "default") ∷ rest))
default_found rest =
    found_given (line.value rest) (λ r. option_map (λ e. Default r.0 (length r.1 + 1 == length rest) e) (line.condition r.1)) (IsValue rest) (λ r. IsRow r (word (codes "default") ∷ rest))
    (value_found rest)
    (λ r h. found_map (line.condition r.1) (λ e. Default r.0 (length r.1 + 1 == length rest) e) (λ e. IsTail e r.1) (λ s. IsRow s (word (codes "default") ∷ rest))
    (condition_found r.1) (λ e t. default_is rest r e h t))

depends_found : (rest : List Part) → IfSome (line.depends rest) (λ r. IsRow r (word (codes "depends") ∷ rest))
depends_found rest =
    found_given (line.behind_word (codes "on") rest) line.depends_on (λ behind. rest ≡ word (codes "on") ∷ behind) (λ r. IsRow r (word (codes "depends") ∷ rest))
    (behind_found (codes "on") rest)
    (λ behind at. rw at (found_map (whole behind) (λ e. Depends e) (λ e. IsCondition e behind) (λ r. IsRow r (word (codes "depends") ∷ word (codes "on") ∷ behind))
    (whole_found behind) (λ e h. table.depends e behind h)))

select_found : (rest : List Part) → IfSome (line.select rest) (λ r. IsRow r (word (codes "select") ∷ rest))
select_found rest =
    found_given (line.symbol rest) (λ s. option_map (λ e. Select s.0 e) (line.condition s.1)) (IsNamed rest) (λ r. IsRow r (word (codes "select") ∷ rest))
    (symbol_found rest)
    (λ s h. rw h.1 (found_map (line.condition s.1) (λ e. Select s.0 e) (λ e. IsTail e s.1) (λ r. IsRow r (word (codes "select") ∷ word s.0 ∷ s.1))
    (condition_found s.1) (λ e t. table.select s.0 e s.1 h.0 t)))

-- ---- all lines

abbrev Line : List ℕ → Row → List Part → Type 0
Line w r rest = IsRow r (word w ∷ rest)

behind_keyword : (k : Keyword) (w : List ℕ) (rest : List Part) → IsWordOf k w → IfSome (row_behind k rest) (λ r. IsRow r (word w ∷ rest))
unfolding row_behind
behind_keyword KeyMainMenu w rest e = rw e (quoted_found (Line (codes "mainmenu")) MainMenu rest table.main_menu)
behind_keyword KeySource w rest e = rw e (source_found rest)
behind_keyword KeyMenu w rest e = rw e (quoted_found (Line (codes "menu")) Menu rest table.menu)
behind_keyword KeyEndMenu w rest e = rw e (alone_found (Line (codes "endmenu")) EndMenu rest table.end_menu)
behind_keyword KeyIf w rest e = rw e (if_found rest)
behind_keyword KeyEndIf w rest e = rw e (alone_found (Line (codes "endif")) EndIf rest table.end_if)
behind_keyword KeyChoice w rest e = rw e (alone_found (Line (codes "choice")) Choice rest table.choice)
behind_keyword KeyEndChoice w rest e = rw e (alone_found (Line (codes "endchoice")) EndChoice rest table.end_choice)
behind_keyword KeyComment w rest e = rw e (quoted_found (Line (codes "comment")) Comment rest table.comment)
behind_keyword KeyConfig w rest (inl e) = rw e (config_found (codes "config") rest table.config)
behind_keyword KeyConfig w rest (inr e) = rw e (config_found (codes "menuconfig") rest table.menu_config)
behind_keyword KeyBool w rest e = rw e (typed_found BoolKind (codes "bool") rest table.bool)
behind_keyword KeyText w rest e = rw e (typed_found TextKind (codes "string") rest table.string)
behind_keyword KeyInt w rest e = rw e (typed_found IntKind (codes "int") rest table.int)
behind_keyword KeyPrompt w rest e = rw e (prompt_found rest)
behind_keyword KeyDefBool w rest e = rw e (def_bool_found rest)
behind_keyword KeyDefault w rest e = rw e (default_found rest)
behind_keyword KeyDepends w rest e = rw e (depends_found rest)
behind_keyword KeySelect w rest e = rw e (select_found rest)
behind_keyword KeyHelp w rest e = rw e (alone_found (Line (codes "help")) Help rest table.help)
behind_keyword KeyDashedHelp w rest e = rw e (alone_found (Line (codes "---help---")) DashedHelp rest table.dashed_help)

pub row_found : (parts : List Part) → IfSome (row parts) (λ r. IsRow r parts)
unfolding row
row_found (WordPart w ∷ rest) =
    found_given (keyword w) (λ k. row_behind k rest) (λ k. IsWordOf k w) (λ r. IsRow r (word w ∷ rest)) (keyword_found w)
    (λ k at. behind_keyword k w rest at)
row_found [] = tt
row_found (_ ∷ rest) = tt

pub row_read : (r : Row) (parts : List Part) → row parts ≡ Some r → IsRow r parts
row_read r parts e = rw e at (row_found parts)
