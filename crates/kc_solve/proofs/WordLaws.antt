-- The words that are gathered are the symbols that stand in an equation.
use Rattle.std.proofs.Common.{ℕ, ◌≡◌, Bool, true, false, not, ◌&&◌, ◌||◌, List, [], ◌∷◌, ◌++◌, flat_map, refl, sym, ap, ap₂, ◌∙◌, ⊎_elim}
use Rattle.std.specs.Prelude.{if◌then◌else◌}
use Rattle.std.specs.List.{list_any}
use Rattle.std.proofs.lemmas.List.{append_assoc}
use Rattle.std.proofs.lemmas.List.Folds.{list_any-append}
use Rattle.std.proofs.lemmas.Bool.{cases_Bool}
use Rattle.br_path.specs.Text.{is_text}
use Rattle.kc_expr.specs.declared.expr.Atom.{Atom}
use Rattle.kc_expr.specs.declared.expr.Atom.TheVariants.{Word, Quoted}
use Rattle.kc_expr.specs.declared.expr.Expr.{Expr, True, And', Or', Not', Holds, Same, Differ, more_of-Expr}
use Rattle.kc_expr.specs.declared.expr.Expr.TheViews as views
use Rattle.kc_menu.specs.declared.menu.KcDefault.{KcDefault}
use Rattle.kc_menu.specs.declared.menu.SymbolIf.{SymbolIf}
use Rattle.kc_menu.specs.declared.menu.KcEntry.{KcEntry}
use Rattle.kc_menu.specs.declared.menu.KcChoice.{KcChoice}
use Rattle.kc_equations.specs.Names.{is_atom_of, mentions, some_mentions, names_shown, names_own, names_by_select, names_by_default, names_by_choice, is_declared}
use Rattle.kc_equations.proofs.Texts.{same_text}
use Rattle.kc_solve.specs.Words.{word_of, words, words_in, shown_words, default_words, own_words, select_words, taken_words, choice_words}

-- ---- what joined conditions have

pub words_and : (left right : Expr) → words (views.And left right) ≡ words left ++ words right
unfolding Rattle.kc_expr.specs.declared.expr.Expr.TheBlock.hidden-the_row-Expr-0 denote.Hole.Carrier.hidden
words_and left right = refl

pub words_or : (left right : Expr) → words (views.Or left right) ≡ words left ++ words right
unfolding Rattle.kc_expr.specs.declared.expr.Expr.TheBlock.hidden-the_row-Expr-0 denote.Hole.Carrier.hidden
words_or left right = refl

pub words_not : (inner : Expr) → words (views.Not inner) ≡ words inner
unfolding Rattle.kc_expr.specs.declared.expr.Expr.TheBlock.hidden-the_row-Expr-0 denote.Hole.Carrier.hidden
words_not inner = refl

-- the words of both sides, one after the other
pub both_and : (old new : List (List ℕ)) (whole left right near far : Expr) → whole ≡ views.And left right → near ≡ left → far ≡ right → new ≡ (old ++ words near) ++ words far → new ≡ old ++ words whole
both_and old new whole left right near far is near_is far_is new_is = rw (new_is, is, words_and left right, near_is, far_is) (append_assoc old (words left) (words right))

pub both_or : (old new : List (List ℕ)) (whole left right near far : Expr) → whole ≡ views.Or left right → near ≡ left → far ≡ right → new ≡ (old ++ words near) ++ words far → new ≡ old ++ words whole
both_or old new whole left right near far is near_is far_is new_is = rw (new_is, is, words_or left right, near_is, far_is) (append_assoc old (words left) (words right))

pub ruleset gathering = (words_and, words_or, words_not, both_and, both_or)

-- ---- whether a symbol is one of them

module _ (t : List ℕ) where
  abbrev pub has : List (List ℕ) → Bool
  has found = list_any (λ word. is_text word t) found

  pub has-append : (front back : List (List ℕ)) → has (front ++ back) ≡ (has front || has back)
  has-append front back = list_any-append (λ word. is_text word t) front back

  pub has-flat_map : {A : Type 0} (gather : A → List (List ℕ)) (named : A → Bool) → ((x : A) → has (gather x) ≡ named x) → (xs : List A) → has (flat_map gather xs) ≡ list_any named xs
  has-flat_map gather named same [] = refl
  has-flat_map gather named same (x ∷ xs) =
      has-append (gather x) (flat_map gather xs) ∙ ap₂ (λ a b. a || b) (same x) (has-flat_map gather named same xs)

  or_nothing : (b : Bool) → (b || false) ≡ b
  or_nothing true = refl
  or_nothing false = refl

  or_before : (a b c : Bool) → ((a || b) || c) ≡ (a || (b || c))
  or_before true b c = refl
  or_before false b c = refl

  has-atom : (atom : Atom) → has (word_of atom) ≡ is_atom_of atom t
  has-atom (Word word) = or_nothing (is_text word t)
  has-atom (Quoted text) = refl

  pub has-words : (e : Expr) → has (words e) ≡ mentions e t
  has-words True = refl
  has-words (And' s (more_of-Expr left r) u (more_of-Expr right q)) = has-append (words left) (words right) ∙ ap₂ (λ a b. a || b) (has-words left) (has-words right)
  has-words (Or' s (more_of-Expr left r) u (more_of-Expr right q)) = has-append (words left) (words right) ∙ ap₂ (λ a b. a || b) (has-words left) (has-words right)
  has-words (Not' s (more_of-Expr inner r)) = has-words inner
  has-words (Holds atom) = has-atom atom
  has-words (Same left right) = has-append (word_of left) (word_of right) ∙ ap₂ (λ a b. a || b) (has-atom left) (has-atom right)
  has-words (Differ left right) = has-append (word_of left) (word_of right) ∙ ap₂ (λ a b. a || b) (has-atom left) (has-atom right)

  pub has-conditions : (conditions : List Expr) → has (words_in conditions) ≡ some_mentions conditions t
  has-conditions conditions = has-flat_map words (λ e. mentions e t) has-words conditions

  pub has-shown : (e : KcEntry) → has (shown_words e) ≡ names_shown e t
  has-shown e = has-append (words_in e.prompts) (words_in e.depends) ∙ ap₂ (λ a b. a || b) (has-conditions e.prompts) (has-conditions e.depends)

  has-default : (d : KcDefault) → has (default_words d) ≡ (mentions d.value t || mentions d.condition t)
  has-default d = has-append (words d.value) (words d.condition) ∙ ap₂ (λ a b. a || b) (has-words d.value) (has-words d.condition)

  pub has-own : (e : KcEntry) → has (own_words e) ≡ names_own e t
  has-own e =
      has-append (shown_words e) (flat_map default_words e.defaults)
      ∙ ap₂ (λ a b. a || b) (has-shown e) (has-flat_map default_words (λ d. mentions d.value t || mentions d.condition t) has-default e.defaults)

  pub has-select : (e : KcEntry) (s : SymbolIf) → has (select_words e s) ≡ names_by_select e s t
  has-select e s =
      has-append (e.symbol ∷ words s.condition) (words_in e.depends)
      ∙ ap₂ (λ a b. (is_text e.symbol t || a) || b) (has-words s.condition) (has-conditions e.depends)

  -- a symbol that is left out where it is a member
  member_or : (b : Bool) (symbol : List ℕ) → has (if b then [] else symbol ∷ []) ≡ (is_text symbol t && not b)
  member_or true symbol = off (is_text symbol t)
    where
      off : (a : Bool) → false ≡ (a && false)
      off true = refl
      off false = refl
  member_or false symbol = or_nothing (is_text symbol t) ∙ on (is_text symbol t)
    where
      on : (a : Bool) → a ≡ (a && true)
      on true = refl
      on false = refl

  same_member : (test : List ℕ → Bool) (symbol : List ℕ) → (is_text symbol t && not (test symbol)) ≡ (is_text symbol t && not (test t))
  same_member test symbol =
      ⊎_elim
      (λ is. ap (λ z. is_text symbol t && not (test z)) (same_text symbol t is))
      (λ off. ap (λ b. b && not (test symbol)) off ∙ sym (ap (λ b. b && not (test t)) off))
      (cases_Bool (is_text symbol t))

  pub has-taken : (members : List KcEntry) (d : SymbolIf) → has (taken_words members d) ≡ names_by_default members d t
  has-taken members d =
      has-append (words d.condition) (if is_declared members d.symbol then [] else d.symbol ∷ [])
      ∙ ap₂ (λ a b. a || b) (has-words d.condition) (member_or (is_declared members d.symbol) d.symbol ∙ same_member (is_declared members) d.symbol)

  pub has-choice : (choice : KcChoice) (members : List KcEntry) → has (choice_words choice members) ≡ names_by_choice choice members t
  has-choice choice members =
      has-append ((words_in choice.prompts ++ words_in choice.depends) ++ flat_map (taken_words members) choice.defaults) (flat_map shown_words members)
      ∙ ap₂ (λ a b. a || b)
      (has-append (words_in choice.prompts ++ words_in choice.depends) (flat_map (taken_words members) choice.defaults)
      ∙ ap₂ (λ a b. a || b)
      (has-append (words_in choice.prompts) (words_in choice.depends) ∙ ap₂ (λ a b. a || b) (has-conditions choice.prompts) (has-conditions choice.depends))
      (has-flat_map (taken_words members) (λ d. names_by_default members d t) (has-taken members) choice.defaults))
      (has-flat_map shown_words (λ e. names_shown e t) has-shown members)
