-- Lists of packages, from the words of their variables.
use Rattle.std.proofs.Common.{ℕ, ◌≡◌, ◌≢◌, List, [], ◌∷◌, ◌++◌, Result, Ok, Err, refl, sym, ap, ap₂, subst, add-one, drop-cons, ◌∙◌, ◌<◌, ◌≤◌, ◌+◌, length, drop, get_or, IfErr, append_assoc, append-nil}
use Rattle.std.proofs.lemmas.List.{drop_all}
use Rattle.mk_expand.specs.declared.locals.Local.{Local}
use Rattle.mk_expand.specs.declared.fault.ExpandFault.{ExpandFault}
use Rattle.mk_expand.specs.declared.fault.ExpandFault.TheVariants.{Memory as no_room}
use Rattle.mk_expand.specs.Words.{words}
use Rattle.mk_expand.specs.Vars.{Table, found}
use Rattle.mk_expand.specs.Value.{depth_limit}
use Rattle.mk_expand.specs.Answer.{IsValue, IsFault, outside}
use Rattle.recipe_set.specs.declared.fault.PlanFault.{PlanFault}
use Rattle.recipe_set.specs.declared.fault.PlanFault.TheVariants.{Memory as no_memory, Expand}
use Rattle.selection.specs.Each.{Each, none_left, one_more, fails, later_fails}
use Rattle.selection.specs.Lists.{HasList, value, reference}
use Rattle.selection.specs.Lists.{fails as no_value}

module _ (vars : Table) (owner variable : List ℕ) where
  -- the words of a value
  pub list_value : (text bytes : List ℕ) (locals : List Local) (names : List (List ℕ)) → IsValue (found vars) depth_limit (outside locals) text bytes → text ≡ reference variable → locals ≡ [] → names ≡ words bytes →
      HasList vars owner variable (λ more. more) (Ok names)
  list_value text bytes locals names has is none are =
      let at : IsValue (found vars) depth_limit (outside []) (reference variable) bytes =
      subst (λ l. IsValue (found vars) depth_limit (outside l) (reference variable) bytes) none (subst (λ t. IsValue (found vars) depth_limit (outside locals) t bytes) is has) in
      subst (λ n. HasList vars owner variable (λ more. more) (Ok n)) (sym are) (value bytes at)

  -- the fault of an expansion
  pub list_fault : (text : List ℕ) (locals : List Local) (fault : ExpandFault) (given : PlanFault) → (fault ≢ no_room → IsFault (found vars) depth_limit (outside locals) text fault) →
      text ≡ reference variable → locals ≡ [] → (given ≢ no_memory → given ≡ Expand owner variable fault) → (fault ≡ no_room → given ≡ no_memory) → given ≢ no_memory →
      HasList vars owner variable (λ more. more) (Err given)
  list_fault text locals fault given has is none at memory some =
      let had : IsFault (found vars) depth_limit (outside []) (reference variable) fault =
      subst (λ l. IsFault (found vars) depth_limit (outside l) (reference variable) fault) none
      (subst (λ t. IsFault (found vars) depth_limit (outside locals) t fault) is (has (λ room. some (memory room)))) in
      subst (λ g. HasList vars owner variable (λ more. more) (Err g)) (sym (at some)) (no_value fault had)

module _ (vars : Table) (owner : List ℕ) (becomes : List (List ℕ) → List (List ℕ)) where
  becomes_ok : (variable : List ℕ) (names : List (List ℕ)) → HasList vars owner variable (λ more. more) (Ok names) → HasList vars owner variable becomes (Ok (becomes names))
  becomes_ok variable names (value bytes has) = value bytes has

  becomes_err : (variable : List ℕ) (fault : PlanFault) → HasList vars owner variable (λ more. more) (Err fault) → HasList vars owner variable becomes (Err fault)
  becomes_err variable fault (no_value given has) = no_value given has

  -- what the words become
  pub list_becomes : (variable other : List ℕ) (names list : List (List ℕ)) → HasList vars owner variable (λ more. more) (Ok names) → variable ≡ other → list ≡ becomes names → HasList vars owner other becomes (Ok list)
  list_becomes variable other names list has is are =
      subst (λ v. HasList vars owner v becomes (Ok list)) is (subst (λ l. HasList vars owner variable becomes (Ok l)) (sym are) (becomes_ok variable names has))

  pub list_fails : (variable other : List ℕ) (fault : PlanFault) → HasList vars owner variable (λ more. more) (Err fault) → variable ≡ other → HasList vars owner other becomes (Err fault)
  list_fails variable other fault has is = subst (λ v. HasList vars owner v becomes (Err fault)) is (becomes_err variable fault has)

-- ---- faults that stand for others

pub err_maps : {A : Type 0} (P Q : PlanFault → Type 0) (r : Result A PlanFault) → IfErr r (λ f. f ≢ no_memory → P f) → ((f : PlanFault) → P f → Q f) → IfErr r (λ f. f ≢ no_memory → Q f)
err_maps P Q (Ok list) given maps = tt
err_maps P Q (Err fault) given maps = λ some. maps fault (given some)

-- ---- each of a list

pub drop_item : {X : Type 0} (xs : List X) (i : ℕ) (x : X) → i < length xs → x ≡ get_or xs i x → drop i xs ≡ x ∷ drop (i + 1) xs
drop_item xs i x short is = drop-cons xs i x short ∙ ap₂ (λ y n. y ∷ drop n xs) (sym is) (sym (add-one i))

-- an answer for what is left, after what there is
abbrev pub behind : {Y F : Type 0} → List Y → Result (List Y) F → Result (List Y) F
behind there (Ok more) = Ok (there ++ more)
behind there (Err fault) = Err fault

module _ {X Y F : Type 0} (Gives : X → Result Y F → Type 0) where
  -- whatever is given for what is left is given, after what there is, for the whole
  abbrev pub IsAhead : List X → List Y → List X → Type 0
  IsAhead all there left = (answer : Result (List Y) F) → Each Gives left answer → Each Gives all (behind there answer)

  pub ahead_start : (all : List X) → IsAhead all [] all
  ahead_start all (Ok more) given = given
  ahead_start all (Err fault) given = given

  each_more : (x : X) (y : Y) (left : List X) (answer : Result (List Y) F) → Gives x (Ok y) → Each Gives left answer → Each Gives (x ∷ left) (behind (y ∷ []) answer)
  each_more x y left (Ok more) one rest = one_more one rest
  each_more x y left (Err fault) one rest = later_fails one rest

  behind_more : (there : List Y) (y : Y) (answer : Result (List Y) F) → behind there (behind (y ∷ []) answer) ≡ behind (there ++ y ∷ []) answer
  behind_more there y (Ok more) = ap Ok (sym (append_assoc there (y ∷ []) more))
  behind_more there y (Err fault) = refl

  pub ahead_more : (all : List X) (there : List Y) (x : X) (y : Y) (left : List X) → IsAhead all there (x ∷ left) → Gives x (Ok y) → IsAhead all (there ++ y ∷ []) left
  ahead_more all there x y left ahead one answer rest =
      subst (Each Gives all) (behind_more there y answer) (ahead (behind (y ∷ []) answer) (each_more x y left answer one rest))

  pub ahead_fails : (all : List X) (there : List Y) (x : X) (left : List X) (fault : F) → IsAhead all there (x ∷ left) → Gives x (Err fault) → Each Gives all (Err fault)
  ahead_fails all there x left fault ahead one = ahead (Err fault) (fails one)

  pub ahead_ends : (all : List X) (there : List Y) → IsAhead all there [] → Each Gives all (Ok there)
  ahead_ends all there ahead = subst (λ ys. Each Gives all (Ok ys)) (append-nil there) (ahead (Ok []) none_left)

  -- the same in a loop over the list

  pub loop_start : (all : List X) (there : List Y) → there ≡ [] → IsAhead all there all
  loop_start all there none = subst (λ ys. IsAhead all ys all) (sym none) (ahead_start all)

  pub loop_step : (all : List X) (there more : List Y) (i : ℕ) (x : X) (y : Y) → IsAhead all there (drop i all) → i < length all → x ≡ get_or all i x → Gives x (Ok y) → more ≡ there ++ y ∷ [] →
      IsAhead all more (drop (i + 1) all)
  loop_step all there more i x y ahead short is one are =
      subst (λ ys. IsAhead all ys (drop (i + 1) all)) (sym are)
      (ahead_more all there x y (drop (i + 1) all) (subst (IsAhead all there) (drop_item all i x short is) ahead) one)

  pub loop_exit : (all : List X) (there : List Y) (i : ℕ) (x : X) (fault : F) → IsAhead all there (drop i all) → i < length all → x ≡ get_or all i x → Gives x (Err fault) → Each Gives all (Err fault)
  loop_exit all there i x fault ahead short is one =
      ahead_fails all there x (drop (i + 1) all) fault (subst (IsAhead all there) (drop_item all i x short is) ahead) one

  pub loop_end : (all : List X) (there : List Y) (i : ℕ) → IsAhead all there (drop i all) → length all ≤ i → Each Gives all (Ok there)
  loop_end all there i ahead over = ahead_ends all there (subst (IsAhead all there) (drop_all i all over) ahead)
