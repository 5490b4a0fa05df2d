-- The value that an equation gives a declared symbol is fit for its type.
use Rattle.std.proofs.Common.{ℕ, ◌≡◌, ◌⊎◌, inl, inr, Bool, true, false, ◌||◌, List, [], codes, Option, Some, None, refl, sym, ap, subst, ◌∙◌}
use Rattle.std.specs.Option.{option_map_or}
use Rattle.br_path.specs.Text.{is_text}
use Rattle.kc_values.specs.Values.{Table, IsFit}
use Rattle.kc_values.specs.declared.kind.Kind.{Kind}
use Rattle.kc_values.specs.declared.kind.Kind.TheVariants.{Bool as BoolKind, Text as TextKind, Int as IntKind}
use Rattle.kc_menu.specs.Menu.{Declared}
use Rattle.kc_menu.specs.declared.menu.SymbolIf.{SymbolIf}
use Rattle.kc_menu.specs.declared.menu.KcEntry.{KcEntry}
use Rattle.kc_menu.specs.declared.wishes.Wish.{Wish}
use Rattle.kc_menu.specs.declared.wishes.WishValue.{WishValue}
use Rattle.kc_equations.specs.Equation.{entries_of, selects_of, wish_of, yes_or_no, base, is_selected, member_text, text_by_kind, taken_at, text_with, equation}
use Rattle.kc_equations.specs.Names.{is_declared}
use Rattle.kc_equations.specs.Solution.{kind_of, valued_by}
use Rattle.kc_equations.proofs.ChoiceLaws.{first_kept}

abbrev IsYesOrNo : List ℕ → Type 0
IsYesOrNo text = (text ≡ codes "y") ⊎ (text ≡ codes "n")

either : (b : Bool) → IsYesOrNo (yes_or_no b)
either true = inl refl
either false = inr refl

by_kind : (values : Table) (kind : Kind) (wish : Option WishValue) (own : List KcEntry) (selects : List (KcEntry × SymbolIf)) → kind ≡ BoolKind → IsYesOrNo (text_by_kind values kind wish own selects)
by_kind values BoolKind wish own selects is = either (base values wish own || is_selected values selects)
by_kind values TextKind wish own selects is = absurd (cc)
by_kind values IntKind wish own selects is = absurd (cc)

module _ (menu : Declared) (wishes : List Wish) (values : Table) (s : List ℕ) where
  placed : (place : Option ℕ) (kind : Kind) → kind ≡ BoolKind
      → IsYesOrNo (option_map_or (λ at. member_text (taken_at menu wishes values at) s) place (text_by_kind values kind (wish_of wishes s) (entries_of menu.entries s) (selects_of menu.entries s)))
  placed None kind is = by_kind values kind (wish_of wishes s) (entries_of menu.entries s) (selects_of menu.entries s) is
  placed (Some at) kind is = either (option_map_or (λ member. is_text member s) (taken_at menu wishes values at) false)

  pub valued_fit : is_declared menu.entries s ≡ true → IsFit (valued_by menu wishes values s)
  unfolding kind_of equation entries_of
  valued_fit declared is_bool =
      let (e, first, e_in, same) = first_kept (λ x. is_text x.symbol s) menu.entries declared in
      let kind : e.kind ≡ BoolKind = sym (ap (λ o. option_map_or (λ x. x.kind) o BoolKind) first) ∙ is_bool in
      subst (λ o. IsYesOrNo (option_map_or (text_with menu wishes values s) o [])) (sym first) (placed e.choice e.kind kind)
