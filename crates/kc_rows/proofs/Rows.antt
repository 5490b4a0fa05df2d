-- A line of the table is read as its row.
use Rattle.std.proofs.Common.{◌≡◌, refl, sym, ◌∙◌, ap, Bool, true, false, List, [], ◌∷◌, Some, None, codes, ◌++◌, subst, append-nil}
use Rattle.std.proofs.lemmas.Option.{none-some, same_Some}
use Rattle.br_path.specs.Text.{is_text}
use Rattle.kc_text.specs.declared.part.Part.{Part}
use Rattle.kc_text.specs.declared.part.Part.TheVariants.{Word as WordPart}
use Rattle.kc_expr.specs.Read.{expression, disjunction, conjunction, chain, item, simple, atom}
use Rattle.kc_expr.specs.Grammar.{IsCondition}
use Rattle.kc_expr.specs.declared.expr.Expr.{Expr}
use Rattle.kc_expr.proofs.Complete.{condition_reads}
use Rattle.kc_rows.specs.Keyword.{keyword, block_word, type_word, attribute_word}
use Rattle.kc_rows.specs.Row as line
use Rattle.kc_rows.specs.Row.{row, row_behind, whole}
use Rattle.kc_rows.specs.Table as table
use Rattle.kc_rows.specs.Table.{IsRow, IsTail, word}
use Rattle.kc_rows.specs.declared.row.Row.{Row}
use Rattle.kc_rows.proofs.Single.{one_part, one_word}
use Rattle.kc_rows.proofs.Words.{same}

-- a condition with a tail after it is read, and the tail is left
begun_is : (value e : Expr) (text tail : List Part) → IsCondition value text → IsTail e tail → expression (text ++ tail) ≡ Some (value, tail)
begun_is value _ text _ h table.nothing = condition_reads value text [] h tt
begun_is value _ text _ h (table.condition e behind t) = condition_reads value text (word (codes "if") ∷ behind) h tt

whole_is : (e : Expr) (text : List Part) → IsCondition e text → whole text ≡ Some e
unfolding whole
whole_is e text h =
    let read : expression text ≡ Some (e, []) = subst (λ parts. expression parts ≡ Some (e, [])) (append-nil text) (condition_reads e text [] h tt) in
    rw read refl

tail_is : (e : Expr) (tail : List Part) → IsTail e tail → line.condition tail ≡ Some e
tail_is _ _ table.nothing = refl
tail_is _ _ (table.condition e text h) = whole_is e text h

-- no condition begins with the bare word `m`
no_m : (rest : List Part) → expression (word (codes "m") ∷ rest) ≡ None
unfolding expression disjunction conjunction chain item simple atom
no_m rest = refl

value_is : (e : Expr) (parts tail : List Part) → expression parts ≡ Some (e, tail) → line.value parts ≡ Some (e, tail)
value_is e (WordPart w ∷ rest) tail h = told (is_text w (codes "m")) refl
  where
    told : (b : Bool) → is_text w (codes "m") ≡ b → line.value (WordPart w ∷ rest) ≡ Some (e, tail)
    told true m = absurd (none-some (e, tail) (sym (no_m rest) ∙ ap (λ v. expression (word v ∷ rest)) (sym (same w (codes "m") m)) ∙ h))
    told false m = rw m h
value_is e [] tail h = h
value_is e (_ ∷ rest) tail h = h

pub row_is : (r : Row) (parts : List Part) → IsRow r parts → row parts ≡ Some r
unfolding row row_behind keyword block_word type_word attribute_word
row_is _ _ (table.main_menu title) = refl
row_is _ _ (table.source path) = refl
row_is _ _ (table.menu title) = refl
row_is _ _ table.end_menu = refl
row_is _ _ (table.begin_if e parts h) = rw (whole_is e parts h) refl
row_is _ _ table.end_if = refl
row_is _ _ table.choice = refl
row_is _ _ table.end_choice = refl
row_is _ _ (table.comment text) = refl
row_is _ _ (table.config name h) = rw h refl
row_is _ _ (table.menu_config name h) = rw h refl
row_is _ _ (table.typed _ _ table.bool) = refl
row_is _ _ (table.typed _ _ table.string) = refl
row_is _ _ (table.typed _ _ table.int) = refl
row_is _ _ (table.typed_prompt _ _ title e tail table.bool t) = rw (tail_is e tail t) refl
row_is _ _ (table.typed_prompt _ _ title e tail table.string t) = rw (tail_is e tail t) refl
row_is _ _ (table.typed_prompt _ _ title e tail table.int t) = rw (tail_is e tail t) refl
row_is _ _ (table.prompt title e tail t) = rw (tail_is e tail t) refl
row_is _ _ (table.def_bool value e text tail h t) = rw (begun_is value e text tail h t, tail_is e tail t) refl
row_is _ _ (table.default value e text tail h t) = rw (value_is value (text ++ tail) tail (begun_is value e text tail h t), tail_is e tail t, one_part text tail) refl
row_is _ _ (table.default_m e tail t) = rw (tail_is e tail t, one_word tail) refl
row_is _ _ (table.depends e parts h) = rw (whole_is e parts h) refl
row_is _ _ (table.select name e tail h t) = rw (h, tail_is e tail t) refl
row_is _ _ table.help = refl
row_is _ _ table.dashed_help = refl

pub one_row : (r s : Row) (parts : List Part) → IsRow r parts → IsRow s parts → r ≡ s
one_row r s parts first second = same_Some r s (sym (row_is r parts first) ∙ row_is s parts second)
