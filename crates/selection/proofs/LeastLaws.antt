-- The first of names that rise is the least.
use Rattle.std.proofs.Common.{ℕ, ◌+◌, ◌≡◌, ◌<◌, ◌≤◌, ◌↔◌, Bool, true, false, not, ◌&&◌, List, [], ◌∷◌, ◌++◌, length, get_or, Option, Some, None, is_some, IsTrue, Ordering, Less, Equal, Greater, refl, sym, ap, subst, ◌∙◌, ⊎_elim, arith}
use Rattle.std.specs.Prelude.{codes}
use Rattle.std.specs.Borrow.{Bor}
use Rattle.std.specs.List.{Contains}
use Rattle.std.specs.List.Sorted.{IsStrictlySortedBy}
use Rattle.std.specs.Cmp.Lexicographic.{texts_ties}
use Rattle.std.specs.Option.{IsSome, option_copied}
use Rattle.std.specs.Ordering.{is_le, is_eq}
use Rattle.std.proofs.lemmas.Bool.{cases_eq, cases_lt, false≢true}
use Rattle.std.proofs.lemmas.List.{get_or_default}
use Rattle.std.proofs.lemmas.Map.Keys.{Less-from_sorted}
use Rattle.br_path.specs.Files.{FileMap, IsFile, IsChild}
use Rattle.kc_values.specs.Values.{Table as Values}
use Rattle.recipe_set.specs.declared.packages.Made.{Made}
use Rattle.selection.specs.Names.{is_asked, is_target}
use Rattle.selection.specs.Selecting.{LacksRecipe, IsLeast}
use Rattle.selection.proofs.TextLaws.{cmp, text_same}

le_less : (o : Ordering) → o ≡ Less → is_le o ≡ true
le_less o less = ap is_le less

le_self : (s : List ℕ) → is_le (cmp s s) ≡ true
le_self s = by (cmp s s) (sym (texts_ties s s) ∙ text_same s s refl)
  where
    by : (o : Ordering) → is_eq o ≡ true → is_le o ≡ true
    by Less is = refl
    by Equal is = refl
    by Greater is = absurd (false≢true is)

-- none of the first names passes
abbrev pub AreOff : (List ℕ → Type 0) → List (List ℕ) → ℕ → Type 0
AreOff P names i = (k : ℕ) (d : List ℕ) → k < i → P (get_or names k d) → ⊥

module _ (P : List ℕ → Type 0) (names : List (List ℕ)) (among : (s : List ℕ) → P s → Contains names s) where
  pub off_more : (i : ℕ) (name : List ℕ) → AreOff P names i → i < length names → name ≡ get_or names i name → (P name → ⊥) → AreOff P names (i + 1)
  off_more i name off short is here k d less passes =
      ⊎_elim
      (λ same.
      let at : get_or names k d ≡ name = ap (λ j. get_or names j d) same ∙ (get_or_default names i d name short ∙ sym is) in
      here (subst P at passes))
      (λ apart. off k d (omega (arith, less, apart)) passes)
      (cases_eq k i)

  pub off_all : (i : ℕ) → AreOff P names i → length names ≤ i → (s : List ℕ) → P s → ⊥
  off_all i off over s passes =
      let (k, short, is) = among s passes in
      off k s (omega (arith, short, over)) (subst P (sym is) passes)

  pub least_at : IsStrictlySortedBy cmp names → (i : ℕ) (name : List ℕ) → AreOff P names i → i < length names → name ≡ get_or names i name → P name → IsLeast P name
  least_at rising i name off short here passes = record {
    holds = passes;
    below = λ other good.
        let (k, inside, is) = among other good in
        ⊎_elim
        (λ before. absurd (off k other before (subst P (sym is) good)))
        (λ behind.
        ⊎_elim
        (λ same.
        let at : name ≡ other = here ∙ (get_or_default names i name other short ∙ (ap (λ j. get_or names j other) (sym same) ∙ is)) in
        subst (λ o. is_le (cmp name o) ≡ true) at (le_self name))
        (λ apart.
        let less : cmp (get_or names i other) (get_or names k other) ≡ Less = Less-from_sorted cmp names i k other rising (omega (arith, behind, apart)) inside in
        let at : get_or names i other ≡ name = get_or_default names i other name short ∙ sym here in
        le_less (cmp name other) (subst (λ o. cmp name o ≡ Less) is (subst (λ n. cmp n (get_or names k other) ≡ Less) at less)))
        (cases_eq k i))
        (cases_lt k i);
  }

-- ---- folders without recipes

pub child_of : (files : FileMap) (values : Values) (made : List Made) (name : List ℕ) → LacksRecipe files values made name → IsChild files (codes "package" ∷ []) name
child_of files values made name lacks = (codes "Config.in" ∷ [], lacks.config)

pub among_children : (files : FileMap) (values : Values) (made : List Made) (folder names : List (List ℕ)) → folder ≡ codes "package" ∷ [] → ((name : List ℕ) → IsChild files folder name → Contains names name) →
    (name : List ℕ) → LacksRecipe files values made name → Contains names name
among_children files values made folder names is all name lacks = all name (subst (λ f. IsChild files f name) (sym is) (child_of files values made name lacks))

both_parts : (a b : Bool) → (a && b) ≡ true → (a ≡ true) × (b ≡ true)
both_parts true b both = (refl, both)
both_parts false b both = absurd (false≢true both)

off_by : (b : Bool) → not b ≡ true → b ≡ false
off_by true is = absurd (false≢true is)
off_by false is = refl

pub lacks_is : (files : FileMap) (values : Values) (made : List Made) (name : List ℕ) (asked target : Bool) → IsFile files (codes "package" ∷ name ∷ codes "Config.in" ∷ []) →
    asked ≡ is_asked values name → target ≡ is_target made name → IsTrue (asked && not target) ↔ LacksRecipe files values made name
lacks_is files values made name asked target config asked_is target_is = (
  λ both.
      let parts = both_parts asked (not target) both in
      record { config = config; asked = sym asked_is ∙ parts.0; not_made = sym target_is ∙ off_by target parts.1 },
  λ lacks.
      let first : asked ≡ true = asked_is ∙ lacks.asked in
      let second : target ≡ false = target_is ∙ lacks.not_made in
      ap (λ a. a && not target) first ∙ ap not second,
)

pub lacks_not : (files : FileMap) (values : Values) (made : List Made) (name : List ℕ) → (IsFile files (codes "package" ∷ name ∷ codes "Config.in" ∷ []) → ⊥) → IsTrue false ↔ LacksRecipe files values made name
lacks_not files values made name none = (λ off. absurd (false≢true off), λ lacks. absurd (none lacks.config))

-- ---- files and their paths

pub some_file : (found : Option (Bor (List ℕ))) (at : Option (List ℕ)) → option_copied found ≡ at → IsTrue (is_some found) ↔ IsSome at
some_file None at is = (λ off. absurd (false≢true off), λ there. absurd (false≢true (subst IsSome (sym is) there)))
some_file (Some bytes) at is = (λ there. subst IsSome is refl, λ there. refl)

pub config_path : (folder below config : List (List ℕ)) (name : List ℕ) → folder ≡ codes "package" ∷ [] → below ≡ folder ++ name ∷ [] → config ≡ below ++ codes "Config.in" ∷ [] →
    config ≡ codes "package" ∷ name ∷ codes "Config.in" ∷ []
config_path folder below config name first second third = third ∙ ap (λ b. b ++ codes "Config.in" ∷ []) (second ∙ ap (λ f. f ++ name ∷ []) first)
