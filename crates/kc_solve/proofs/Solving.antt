-- What is solved, and which fault comes first.
use Rattle.std.proofs.Common.{ℕ, ◌≡◌, ◌&&◌, true, false, List, filter, find, Some, None, sym, ap, subst, ◌∙◌}
use Rattle.std.specs.List.{list_any}
use Rattle.std.specs.Cmp.Lexicographic.{slice_cmp, nat_list_eq_equiv}
use Rattle.std.specs.Ordering.{nat_cmp}
use Rattle.std.proofs.lemmas.Bool.{and_parts, and_from}
use Rattle.std.proofs.lemmas.List.Kept.{IsStrictlySortedBy-filter}
use Rattle.std.proofs.lemmas.Map.Views.{any-filter_same, list_any-from_Contains, Contains-from_any}
use Rattle.br_path.specs.Text.{is_text}
use Rattle.kc_values.specs.Values.{Table}
use Rattle.kc_menu.specs.Menu.{Declared}
use Rattle.kc_menu.specs.declared.wishes.Wish.{Wish}
use Rattle.kc_equations.specs.Faults.{IsLeast, is_named_member, is_named_value, is_bad_number, is_forced, NoNamedMember, NoNamedValue, NoCycle, AreForced, IsSolved}
use Rattle.kc_equations.specs.Solution.{IsSolution}
use Rattle.kc_equations.proofs.Texts.{same_text}
use Rattle.kc_solve.specs.Index.{AreDeclared}
use Rattle.kc_solve.specs.Symbols.{AreSymbols}
use Rattle.kc_solve.proofs.Declares.{named_member_there, named_value_there, bad_number_there, forced_there}
use Rattle.kc_solve.proofs.Places.{least_of, none_of}

module _ (menu : Declared) (symbols : List (List ℕ)) (are : AreSymbols symbols) (declared : AreDeclared menu symbols) where
  pub least_member : (least : List ℕ) → find (is_named_member menu.entries) symbols ≡ Some least → IsLeast (λ s. is_named_member menu.entries s ≡ true) least
  least_member = least_of (is_named_member menu.entries) symbols are.rising (λ s is. declared s ∙ named_member_there menu.entries s is)

  pub no_member : find (is_named_member menu.entries) symbols ≡ None → NoNamedMember menu
  no_member = none_of (is_named_member menu.entries) symbols (λ s is. declared s ∙ named_member_there menu.entries s is)

  pub least_value : (least : List ℕ) → find (is_named_value menu.entries) symbols ≡ Some least → IsLeast (λ s. is_named_value menu.entries s ≡ true) least
  least_value = least_of (is_named_value menu.entries) symbols are.rising (λ s is. declared s ∙ named_value_there menu.entries s is)

  pub no_value : find (is_named_value menu.entries) symbols ≡ None → NoNamedValue menu
  no_value = none_of (is_named_value menu.entries) symbols (λ s is. declared s ∙ named_value_there menu.entries s is)

  module _ (wishes : List Wish) (values : Table) (solution : IsSolution menu wishes values) where
    pub least_number : (least : List ℕ) → find (is_bad_number values) symbols ≡ Some least → IsLeast (λ s. is_bad_number values s ≡ true) least
    least_number = least_of (is_bad_number values) symbols are.rising (λ s is. declared s ∙ bad_number_there menu wishes values solution s is)

    pub no_number : find (is_bad_number values) symbols ≡ None → (s : List ℕ) → is_bad_number values s ≡ false
    no_number = none_of (is_bad_number values) symbols (λ s is. declared s ∙ bad_number_there menu wishes values solution s is)

    in_forced : (s : List ℕ) → list_any (is_text s) (filter (is_forced menu values) symbols) ≡ (is_forced menu values s && list_any (is_text s) symbols)
    in_forced s = any-filter_same (is_text s) (is_forced menu values) (is_forced menu values s) (λ t is. ap (is_forced menu values) (sym (same_text s t is))) symbols

    pub forced_are : AreForced menu values (filter (is_forced menu values) symbols)
    forced_are = record {
      sorted = IsStrictlySortedBy-filter (slice_cmp nat_cmp) (is_forced menu values) symbols are.rising;
      forced_is = λ s. (
        λ there. (and_parts (is_forced menu values s) (list_any (is_text s) symbols) (sym (in_forced s) ∙ list_any-from_Contains nat_list_eq_equiv s (filter (is_forced menu values) symbols) there)).0,
        λ is. Contains-from_any same_text s (filter (is_forced menu values) symbols)
            (in_forced s ∙ and_from (is_forced menu values s) (list_any (is_text s) symbols) is (declared s ∙ forced_there menu wishes values solution s is)),
      );
    }

    pub solved_is : (forced : List (List ℕ)) → find (is_named_member menu.entries) symbols ≡ None → find (is_named_value menu.entries) symbols ≡ None → NoCycle menu → find (is_bad_number values) symbols ≡ None
        → forced ≡ filter (is_forced menu values) symbols → IsSolved menu wishes values forced
    solved_is forced members plain acyclic numbers is = record {
      members = no_member members;
      plain = no_value plain;
      acyclic = acyclic;
      solution = solution;
      numbers = no_number numbers;
      listed = subst (AreForced menu values) (sym is) forced_are;
    }
