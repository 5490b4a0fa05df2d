-- The member that a choice takes stays the same while values are added, once all that the choice names has its value.
use Rattle.std.proofs.Common.{ℕ, ◌≡◌, ◌<◌, ◌||◌, Bool, true, false, List, [], ◌∷◌, length, get_or, set, replicate, Option, Some, None, is_some, option_and_then, slice_get, map, option_map, option_copied, refl, sym, ap, subst, ◌∙◌, inl, inr, ⊎_elim, zero, suc, arith}
use Rattle.std.specs.Borrow.{Bor}
use Rattle.std.specs.List.{list_any}
use Rattle.std.specs.Option.{option_map_or}
use Rattle.std.proofs.lemmas.Bool.{cases_Bool, cases_eq, cases_lt, or_right}
use Rattle.std.proofs.lemmas.List.{get_or-set_same, get_or-set_other, get_or-replicate, get_or_past, length-replicate, length-set, map-set, get_or-map}
use Rattle.kc_values.specs.Values.{Table, find as valued}
use Rattle.kc_menu.specs.Menu.{Declared}
use Rattle.kc_menu.specs.declared.wishes.Wish.{Wish}
use Rattle.kc_equations.specs.Equation.{entries_of, selects_of, choice_at, taken_at}
use Rattle.kc_equations.specs.Names.{is_declared, names, names_own, names_by_select, names_by_choice, choice_of, stands_in}
use Rattle.kc_equations.proofs.Agree.{taken_at_agrees}
use Rattle.kc_equations.proofs.Parts.{IsPart, kept, off}
use Rattle.kc_equations.proofs.Runs.{is_named}
use Rattle.kc_solve.specs.Filled.{with_value}
use Rattle.kc_solve.specs.Taken.{Known, AreTaken, choice_place, with_taken}
use Rattle.kc_solve.proofs.Chosen.{some_of}

-- the symbol stands in what the choice at a place asks
abbrev choice_names : Declared → ℕ → List ℕ → Bool
choice_names menu place t = option_map_or (λ c. names_by_choice c.0 c.1 t) (choice_at menu place) false

-- each symbol that stands in it has its value
abbrev pub IsSettled : Declared → Table → ℕ → Type 0
IsSettled menu values place = (t : List ℕ) → is_declared menu.entries t ≡ true → choice_names menu place t ≡ true → is_some (valued t values) ≡ true

-- what is known of choices is what they take now, and what they will
pub record IsKept (menu : Declared) (wishes : List Wish) (values : Table) (known : Known) : Type 0 where
  pub count : length known ≡ length menu.choices
  pub each : (place : ℕ) (found : Option (List ℕ)) → get_or known place None ≡ Some found → IsSettled menu values place × (found ≡ taken_at menu wishes values place)

-- ---- what is known, after references

abbrev pub seen : List (Option (Option (Bor (List ℕ)))) → Known
seen items = map (option_map option_copied) items

pub none_seen : (count : ℕ) → seen (replicate count None) ≡ replicate count None
none_seen zero = refl
none_seen (suc count) = ap (λ known. None ∷ known) (none_seen count)

pub seen_at : (items : List (Option (Option (Bor (List ℕ))))) (place : ℕ) (d : Option (Option (Bor (List ℕ)))) (member : Option (Bor (List ℕ))) → place < length items → get_or items place d ≡ Some member
    → get_or (seen items) place None ≡ Some (option_copied member)
seen_at items place d member short at = get_or-map (option_map option_copied) items place d None short ∙ ap (option_map option_copied) at

pub seen_set : (items : List (Option (Option (Bor (List ℕ))))) (place : ℕ) (member : Option (Bor (List ℕ))) → seen (set items place (Some member)) ≡ set (seen items) place (Some (option_copied member))
seen_set items place member = map-set (option_map option_copied) items place (Some member)

-- ---- what is kept

nothing_known : (count place : ℕ) (found : Option (List ℕ)) → get_or (replicate {A = Option (Option (List ℕ))} count None) place None ≡ Some found → ⊥
nothing_known count place found is =
    elim (cases_lt place count) [
      | inl short ↦ let none = get_or-replicate {A = Option (Option (List ℕ))} count place None None short in cc
      | inr past ↦ let none = get_or_past (replicate {A = Option (Option (List ℕ))} count None) place None (omega (arith, past, length-replicate {A = Option (Option (List ℕ))} count None)) in cc
    ]

module _ (menu : Declared) (wishes : List Wish) where
  pub kept_now : (values : Table) (known : Known) → IsKept menu wishes values known → AreTaken menu wishes values known
  kept_now values known is = record {
    count = is.count;
    each = λ place found at. (is.each place found at).1;
  }

  pub kept_nil : IsKept menu wishes [] (replicate (length menu.choices) None)
  kept_nil = record {
    count = length-replicate {A = Option (Option (List ℕ))} (length menu.choices) None;
    each = λ place found at. absurd (nothing_known (length menu.choices) place found at);
  }

  module _ (values : Table) (part : IsPart menu wishes values) (s : List ℕ) (is_here : is_declared menu.entries s ≡ true) (fresh : valued s values ≡ None)
      (named : (t : List ℕ) → names menu s t ≡ true → is_some (valued t values) ≡ true) where
    abbrev new : Table
    new = with_value menu wishes values s

    same_taken : (place : ℕ) → IsSettled menu values place → taken_at menu wishes values place ≡ taken_at menu wishes new place
    same_taken place settled =
        taken_at_agrees values new menu wishes place (λ t stands.
        ⊎_elim
        (λ declared. kept menu wishes values part s is_here fresh named t (settled t declared stands))
        (λ none. off menu wishes values part s is_here fresh named t none)
        (cases_Bool (is_declared menu.entries t)))

    still_settled : (place : ℕ) → IsSettled menu values place → IsSettled menu new place
    still_settled place settled t declared stands =
        let there : is_some (valued t values) ≡ true = settled t declared stands in
        sym (ap is_some (kept menu wishes values part s is_here fresh named t there)) ∙ there

    -- the equation of a member names all that its choice does
    own_settled : (place : ℕ) → choice_place menu.entries s ≡ Some place → IsSettled menu values place
    unfolding stands_in
    own_settled place is t declared stands =
        let (e, first, chosen) = some_of (λ x. x.choice) (slice_get (entries_of menu.entries s) 0) place is in
        let here : choice_of menu s ≡ choice_at menu place =
        ap (option_and_then (λ x. option_and_then (choice_at menu) x.choice)) first ∙ ap (option_and_then (choice_at menu)) chosen in
        named t (is_named menu wishes s t is_here declared
        (or_right (list_any (λ x. names_own x t) (entries_of menu.entries s) || list_any (λ x. names_by_select x.0 x.1 t) (selects_of menu.entries s)) (option_map_or (λ c. names_by_choice c.0 c.1 t) (choice_of menu s) false)
        (ap (λ o. option_map_or (λ c. names_by_choice c.0 c.1 t) o false) here ∙ stands)))

    module _ (known : Known) (is : IsKept menu wishes values known) where
      old_kept : (place : ℕ) (found : Option (List ℕ)) → get_or known place None ≡ Some found → IsSettled menu new place × (found ≡ taken_at menu wishes new place)
      old_kept place found at =
          let (settled, now) = is.each place found at in
          (still_settled place settled, now ∙ same_taken place settled)

      now_kept : (choice : ℕ) → choice_place menu.entries s ≡ Some choice → (place : ℕ) (found : Option (List ℕ))
          → get_or (set known choice (Some (taken_at menu wishes values choice))) place None ≡ Some found → IsSettled menu new place × (found ≡ taken_at menu wishes new place)
      now_kept choice mine place found at =
          elim (cases_eq place choice) [
            | inl same ↦
                let settled : IsSettled menu values choice = own_settled choice mine in
                let at_choice : get_or (set known choice (Some (taken_at menu wishes values choice))) choice None ≡ Some found =
                subst (λ p. get_or (set known choice (Some (taken_at menu wishes values choice))) p None ≡ Some found) same at in
                let now : found ≡ taken_at menu wishes values choice = set_found known choice (taken_at menu wishes values choice) found at_choice in
                subst (λ p. IsSettled menu new p × (found ≡ taken_at menu wishes new p)) (sym same) (still_settled choice settled, now ∙ same_taken choice settled)
            | inr apart ↦ old_kept place found (sym (get_or-set_other known choice place (Some (taken_at menu wishes values choice)) None apart) ∙ at)
          ]
        where
          set_found : (known : Known) (choice : ℕ) (taken found : Option (List ℕ)) → get_or (set known choice (Some taken)) choice None ≡ Some found → found ≡ taken
          set_found known choice taken found at =
              elim (cases_lt choice (length known)) [
                | inl short ↦ let one = get_or-set_same known choice (Some taken) None short in cc
                | inr past ↦ absurd (let none = get_or_past (set known choice (Some taken)) choice None (omega (arith, past, length-set known choice (Some taken))) in cc)
              ]

      -- with a value more, and with what the choice of its symbol takes
      pub kept_more : IsKept menu wishes new (with_taken menu wishes values known (choice_place menu.entries s))
      kept_more = by (choice_place menu.entries s) refl
        where
          by : (o : Option ℕ) → choice_place menu.entries s ≡ o → IsKept menu wishes new (with_taken menu wishes values known o)
          by None mine = record { count = is.count; each = old_kept }
          by (Some choice) mine = record {
            count = length-set known choice (Some (taken_at menu wishes values choice)) ∙ is.count;
            each = now_kept choice mine;
          }
