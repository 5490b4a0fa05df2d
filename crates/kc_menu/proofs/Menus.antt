-- A menu of two bools outside choices.
use Rattle.std.proofs.Common.{◌≡◌, List, [], ◌∷◌, None, sym, subst, ◌∙◌}
use Rattle.std.specs.Prelude.{All}
use Rattle.std.proofs.lemmas.List.Elements.{All-nil, All-cons, All-contains}
use Rattle.kc_values.specs.declared.kind.Kind.TheVariants.{Bool as BoolKind}
use Rattle.kc_menu.specs.declared.menu.KcEntry.{KcEntry}
use Rattle.kc_menu.specs.declared.menu.KcChoice.{KcChoice}
use Rattle.kc_menu.specs.Menu.{IsMenu}

-- a bool outside choices
abbrev pub IsPlain : KcEntry → Type 0
IsPlain e = (e.kind ≡ BoolKind) × (e.choice ≡ None)

all_plain : (entries : List KcEntry) (choices : List KcChoice) → All IsPlain entries → IsMenu (record { entries = entries; choices = choices })
all_plain entries choices all = record {
  kinds = λ e f here there same. (All-contains IsPlain entries e all here).0 ∙ sym (All-contains IsPlain entries f all there).0;
  places = λ e f here there same. (All-contains IsPlain entries e all here).1 ∙ sym (All-contains IsPlain entries f all there).1;
  there = λ e place here is. let none : e.choice ≡ None = (All-contains IsPlain entries e all here).1 in absurd (cc);
  members = λ e place here is. (All-contains IsPlain entries e all here).0;
  atoms = λ e here other. absurd (other (All-contains IsPlain entries e all here).0);
}

pub two_plain : (entries : List KcEntry) (choices : List KcChoice) (first second : KcEntry) → entries ≡ first ∷ second ∷ [] → IsPlain first → IsPlain second → IsMenu (record { entries = entries; choices = choices })
two_plain entries choices first second are one two =
    all_plain entries choices (subst (All IsPlain) (sym are) (All-cons IsPlain first (second ∷ []) one (All-cons IsPlain second [] two (All-nil IsPlain))))
