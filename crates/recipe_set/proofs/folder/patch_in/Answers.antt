use Rattle.std.proofs.Common.{◌≡◌, ◌++◌, ◌∷◌, [], ℕ, List, ap, sym, ◌∙◌, subst, ◌↔◌}
use Rattle.std.specs.Prelude.{All, Contains}
use Rattle.std.specs.List.Sorted.{IsStrictlySortedBy}
use Rattle.std.specs.Ordering.{nat_cmp}
use Rattle.std.specs.Cmp.Lexicographic.{slice_cmp}
use Rattle.std.proofs.lemmas.List.{take_all}
use Rattle.br_path.specs.Files.{IsChild}
use Rattle.recipe_set.specs.Found.{IsPatchOf}
use Rattle.recipe_set.proofs.Patches.{no_patch}
use Rattle.recipe_set.proofs.FoundPatches.{first_of, All-next, some_is}
use Rattle.recipe_set.proofs.folder.patch_in.Goals as goal

pub returns-in-Some-clause-some : goal.returns-in-Some-clause-some
returns-in-Some-clause-some c =
    let names : List (List ℕ) = c.deref-name-items.result.now in
    let items : names ≡ c.in_ok-names.names = c.deref-name-items.ensures.value ∙ c.names.view_is in
    let found = some_is (λ at. (at ≡ c.args.folder.now ++ c.as_slice.result.now ∷ []) × IsPatchOf c.args.files.now c.args.folder.now c.as_slice.result.now) c.in_ok-patch.field-0 c.in-Some.patch c.in-Some.is c.in_ok-patch.ensures.some in
    first_of c.args.files.now c.args.folder.now names c.loop-name.name-index c.name-item.result c.in-Some.patch c.loop-name-test.true c.name-item.is
    (subst (IsStrictlySortedBy (slice_cmp nat_cmp)) (sym items) c.in_ok-names.ensures.order)
    (subst (λ (ns : List (List ℕ)). (name : List ℕ) → Contains ns name ↔ IsChild c.args.files.now c.args.folder.now name) (sym items) c.in_ok-names.ensures.names)
    c.loop-name.invariant (found.0 ∙ ap (λ n. c.args.folder.now ++ n ∷ []) c.as_slice.ensures) (subst (IsPatchOf c.args.files.now c.args.folder.now) c.as_slice.ensures found.1)

pub loop-name-preserved : goal.loop-name-preserved
loop-name-preserved c =
    All-next (λ name. IsPatchOf c.args.files.now c.args.folder.now name → ⊥) c.deref-name-items.result.now c.loop-name.name-index c.name-item.result c.loop-name-test.true c.name-item.is c.loop-name.invariant
    (subst (λ name. IsPatchOf c.args.files.now c.args.folder.now name → ⊥) c.as_slice.ensures (c.in_ok-patch.ensures.none c.in_default.is))

pub returns-clause-none : goal.returns-clause-none
returns-clause-none c = λ _.
    let names : List (List ℕ) = c.deref-name-items.result.now in
    let items : names ≡ c.in_ok-names.names = c.deref-name-items.ensures.value ∙ c.names.view_is in
    no_patch c.args.files.now c.args.folder.now names
    (subst (λ (ns : List (List ℕ)). (name : List ℕ) → Contains ns name ↔ IsChild c.args.files.now c.args.folder.now name) (sym items) c.in_ok-names.ensures.names)
    (subst (All (λ name. IsPatchOf c.args.files.now c.args.folder.now name → ⊥)) (take_all c.loop-name.name-index names c.loop-name-test.false) c.loop-name.invariant)
