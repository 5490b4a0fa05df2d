-- Where a package stands in the rows of a plan.
use Rattle.std.proofs.Common.{◌≡◌, ℕ, ◌+◌, ◌-◌, ◌<◌, ◌≤◌, Bool, true, false, List, [], ◌∷◌, get_or, Some, None, length, refl, sym, ap, ◌∙◌, arith}
use Rattle.std.specs.Prelude.{slice_get, position}
use Rattle.std.specs.List.{position_or_len}
use Rattle.std.specs.Cmp.Lexicographic.{same_text, bytes_decides}
use Rattle.std.proofs.lemmas.Grind.{common_steps}
use Rattle.std.proofs.lemmas.List.Quantifiers.{position-Some}
use Rattle.std.proofs.lemmas.List.Sums.{fails_before_first}
use Rattle.std.proofs.lemmas.Option.{slice_get-get_or, get_or_from_slice_get, slice_get_within}
use Rattle.plan_rows.specs.declared.rows.Part.{Part}
use Rattle.plan_rows.specs.declared.rows.Part.TheVariants.{Prep, Make}
use Rattle.plan_rows.specs.declared.rows.TaskRow.{TaskRow}
use Rattle.plan_rows.specs.Plan.{Planned, HasRow, IsPlan, IsPackage, IsPrepOf, part_of}
use Rattle.plan_rows.specs.Rows.{is_of}

-- ---- the numbers of prep and make tasks

make_behind_prep : (task : ℕ) → part_of task ≡ Make → (1 ≤ task) × (part_of (task - 1) ≡ Prep)
make_behind_prep task is = (grind arith, grind arith)

-- ---- the first row that passes a test

first_at : {X : Type 0} (test : X → Bool) (rows : List X) (place : ℕ) → position test rows ≡ Some place
    → (row : X) × (slice_get rows place ≡ Some row) × (test row ≡ true) × ((k : ℕ) (other : X) → k < place → slice_get rows k ≡ Some other → test other ≡ false)
first_at test [] place is = absurd (cc)
first_at test (x ∷ xs) place is =
    let at = position-Some test (x ∷ xs) place x is in (
      get_or (x ∷ xs) place x,
      slice_get-get_or (x ∷ xs) place x at.0,
      at.1,
      λ k other lt there. ap test (sym (get_or_from_slice_get (x ∷ xs) k other x there)) ∙ at.2 k lt,
    )

no_row : {X : Type 0} (test : X → Bool) (rows : List X) (k : ℕ) (row : X) → position test rows ≡ None → slice_get rows k ≡ Some row → test row ≡ false
no_row test rows k row is at =
    let inside = slice_get_within rows k row at in
    let far : length rows ≤ position_or_len test rows = grind (arith, common_steps) in
    ap test (sym (get_or_from_slice_get rows k row row at)) ∙ fails_before_first test rows k row (omega arith)

-- ---- the first row of a package

-- the row before a make is the prep of the same package
pub prep_before : (plan : Planned) (task : ℕ) (row : TaskRow) → IsPlan plan → HasRow plan task row → row.part ≡ Make
    → (prep : TaskRow) × (task - 1 < task) × HasRow plan (task - 1) prep × (row.package ≡ prep.package)
prep_before plan task row is has made =
    let before = make_behind_prep task (sym ((is.rows task row has).part) ∙ made) in
    let inside = slice_get_within plan.rows task row has in
    let prep = get_or plan.rows (task - 1) row in
    let there : HasRow plan (task - 1) prep = slice_get-get_or plan.rows (task - 1) row (omega arith) in
    let pair = is.pairs (task - 1) prep there ((is.rows (task - 1) prep there).part ∙ before.1) in
    let next : task - 1 + 1 ≡ task = omega arith in
    let same : row ≡ pair.0 = cc in
    (prep, omega arith, there, ap (λ r. r.package) same ∙ pair.2)

pub first_is_prep : (plan : Planned) (name : List ℕ) (task : ℕ) → IsPlan plan → position (is_of name) plan.rows ≡ Some task → IsPrepOf plan name task
first_is_prep plan name task is at =
    let first = first_at (is_of name) plan.rows task at in
    let named : first.0.package ≡ name = same_text first.0.package name (sym first.2) in
    let by : (part : Part) → first.0.part ≡ part → IsPrepOf plan name task = λ part made. elim part as (λ p. first.0.part ≡ p → IsPrepOf plan name task) [
      | Prep ↦ λ prep. (first.0, first.1, prep, named)
      | Make ↦ λ make.
          let before = prep_before plan task first.0 is first.1 make in
          let yes : is_of name before.0 ≡ true = (bytes_decides before.0.package name).1 (sym before.3 ∙ named) in
          let off : is_of name before.0 ≡ false = first.3 (task - 1) before.0 before.1 before.2 in
          absurd (cc)
    ] made in
    by first.0.part refl

pub no_package : (plan : Planned) (name : List ℕ) → position (is_of name) plan.rows ≡ None → IsPackage plan name → ⊥
no_package plan name at package-is =
    let yes : is_of name package-is.1 ≡ true = (bytes_decides package-is.1.package name).1 package-is.3 in
    let off : is_of name package-is.1 ≡ false = no_row (is_of name) plan.rows package-is.0 package-is.1 at package-is.2 in
    absurd (cc)
