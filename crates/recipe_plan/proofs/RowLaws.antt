-- The rows of the tasks: two for each selected package, in the order of the packages.
use Rattle.std.proofs.Common.{◌≡◌, ℕ, zero, suc, ◌+◌, ◌*◌, ◌<◌, List, [], ◌∷◌, ◌++◌, length, get_or, drop, Result, Ok, Err, Some, refl, sym, ap, subst, ◌∙◌, arith}
use Rattle.std.specs.Prelude.{slice_get}
use Rattle.std.proofs.lemmas.List.{append-nil, append_assoc, length-append, at_drop_more}
use Rattle.dep_graph.specs.Needs.{Needs}
use Rattle.mk_expand.specs.Vars.{Table}
use Rattle.plan_rows.specs.declared.rows.Part.{Part}
use Rattle.plan_rows.specs.declared.rows.Part.TheVariants.{Prep, Make}
use Rattle.plan_rows.specs.declared.rows.TaskRow.{TaskRow}
use Rattle.recipe_set.specs.declared.fault.PlanFault.{PlanFault}
use Rattle.selection.specs.declared.listed.Listed.{Listed}
use Rattle.recipe_plan.specs.Answers.{◌>>=◌, in_turn}
use Rattle.recipe_plan.specs.Needs.{task_at}
use Rattle.recipe_plan.specs.Rows.{all_rows, put_rows, put_task, task_row}
use Rattle.recipe_plan.proofs.TextLimits.{bind_ok}

-- ---- the rows of one package

-- a package's two tasks are put one after the other
puts_in_turn : (vars : Table) (needs : Needs) (rows : List TaskRow) (item : Listed)
    → put_rows vars needs rows item ≡ (put_task vars needs rows item Prep >>= λ more. put_task vars needs more item Make)
puts_in_turn vars needs rows item = made (task_row vars needs item Prep (length rows))
  where
    made : (prep : Result TaskRow PlanFault) → (prep >>= λ prep. task_row vars needs item Make (length rows + 1) >>= λ make. Ok (rows ++ prep ∷ make ∷ []))
        ≡ (prep >>= (λ row. Ok (rows ++ row ∷ [])) >>= λ more. put_task vars needs more item Make)
    made (Err fault) = refl
    made (Ok prep) = λ i. task_row vars needs item Make (sym (length-append rows (prep ∷ [])) i) >>= λ make. Ok (sym (append_assoc rows (prep ∷ []) (make ∷ [])) i)

module _ {own vars : Table} (needs : Needs) (rows : List TaskRow) (item : Listed) (same : own ≡ vars) where
  pub prep_fails : (fault : PlanFault) → put_task own needs rows item Prep ≡ Err fault → put_rows vars needs rows item ≡ Err fault
  prep_fails fault fails =
      subst (λ table. put_rows table needs rows item ≡ Err fault) same (puts_in_turn own needs rows item ∙ ap (λ r. r >>= λ more. put_task own needs more item Make) fails)

  pub prep_put : (more : List TaskRow) → put_task own needs rows item Prep ≡ Ok more → put_task own needs more item Make ≡ put_rows vars needs rows item
  prep_put more is =
      sym (subst (λ table. put_rows table needs rows item ≡ put_task own needs more item Make) same (puts_in_turn own needs rows item ∙ ap (λ r. r >>= λ more. put_task own needs more item Make) is))

module _ (vars : Table) (needs : Needs) (item : Listed) (part : Part) {items rows : List TaskRow} (held : items ≡ rows) where
  -- the row of a task is put after the others, or its fault ends it
  pub row_fails : (fault : PlanFault) → task_row vars needs item part (length items) ≡ Err fault → put_task vars needs rows item part ≡ Err fault
  row_fails fault fails = subst (λ list. put_task vars needs list item part ≡ Err fault) held (ap (λ r. r >>= λ row. Ok (items ++ row ∷ [])) fails)

  pub row_put : (row : TaskRow) (more : List TaskRow) → task_row vars needs item part (length items) ≡ Ok row → more ≡ items ++ row ∷ [] → put_task vars needs rows item part ≡ Ok more
  row_put row more made is =
      subst (λ list. put_task vars needs list item part ≡ Ok more) held (ap (λ r. r >>= λ row. Ok (items ++ row ∷ [])) made ∙ ap Ok (sym is))

-- two rows are put after the others
put_is : (vars : Table) (needs : Needs) (rows : List TaskRow) (item : Listed) (more : List TaskRow) → put_rows vars needs rows item ≡ Ok more
    → (prep make : TaskRow) × (task_row vars needs item Prep (length rows) ≡ Ok prep) × (task_row vars needs item Make (length rows + 1) ≡ Ok make) × (rows ++ prep ∷ make ∷ [] ≡ more)
put_is vars needs rows item more is =
    let (prep, prep_is, rest) = bind_ok (task_row vars needs item Prep (length rows)) _ more is in
    let (make, make_is, end) = bind_ok (task_row vars needs item Make (length rows + 1)) _ more rest in
    let whole : rows ++ prep ∷ make ∷ [] ≡ more = cc in
    (prep, make, prep_is, make_is, whole)

pub put_count : (vars : Table) (needs : Needs) (rows : List TaskRow) (item : Listed) (more : List TaskRow) → put_rows vars needs rows item ≡ Ok more → length more ≡ length rows + 2
put_count vars needs rows item more is =
    let (prep, make, prep_is, make_is, whole) = put_is vars needs rows item more is in
    omega (arith, ap length whole, length-append rows (prep ∷ make ∷ []))

-- ---- packages one after another

-- the next package is put, or its fault ends it
pub next_put : {S X : Type 0} (put : S → X → Result S PlanFault) (made more : S) (xs : List X) (place : ℕ) (x : X) → place < length xs → x ≡ get_or xs place x → put made x ≡ Ok more
    → in_turn put made (drop place xs) ≡ in_turn put more (drop (place + 1) xs)
next_put put made more xs place x inside is put_ok =
    at_drop_more (in_turn put made) xs place x inside
    ∙ (ap (λ y. in_turn put made (y ∷ drop (place + 1) xs)) (sym is) ∙ ap (λ r. r >>= λ now. in_turn put now (drop (place + 1) xs)) put_ok)

pub next_fails : {S X : Type 0} (put : S → X → Result S PlanFault) (made : S) (xs : List X) (place : ℕ) (x : X) (fault : PlanFault) → place < length xs → x ≡ get_or xs place x
    → put made x ≡ Err fault → in_turn put made (drop place xs) ≡ Err fault
next_fails put made xs place x fault inside is fails =
    at_drop_more (in_turn put made) xs place x inside
    ∙ (ap (λ y. in_turn put made (y ∷ drop (place + 1) xs)) (sym is) ∙ ap (λ r. r >>= λ now. in_turn put now (drop (place + 1) xs)) fails)

-- ---- the rows of all packages

module _ (vars : Table) (needs : Needs) where
  -- rows are those of packages' tasks, which are numbered from one on
  data AreRows : ℕ → List Listed → List TaskRow → Type 0 where
    none_left : {first : ℕ} → AreRows first [] []
    one_more : {first : ℕ} {item : Listed} {chosen : List Listed} {prep make : TaskRow} {rows : List TaskRow}
        → task_row vars needs item Prep first ≡ Ok prep → task_row vars needs item Make (first + 1) ≡ Ok make → AreRows (first + 2) chosen rows
        → AreRows first (item ∷ chosen) (prep ∷ make ∷ rows)

  -- the rows after others
  rows_behind : (before : List TaskRow) (chosen : List Listed) (rows : List TaskRow) → in_turn (put_rows vars needs) before chosen ≡ Ok rows
      → (behind : List TaskRow) × (rows ≡ before ++ behind) × AreRows (length before) chosen behind
  rows_behind before [] rows is =
      let same : before ≡ rows = cc in
      ([], sym same ∙ sym (append-nil before), none_left)
  rows_behind before (item ∷ chosen) rows is =
      let (more, put, later) = bind_ok (put_rows vars needs before item) (λ more. in_turn (put_rows vars needs) more chosen) rows is in
      let (prep, make, prep_is, make_is, pair) = put_is vars needs before item more put in
      let (behind, rows_are, are) = rows_behind more chosen rows later in
      let count = put_count vars needs before item more put in (
        prep ∷ make ∷ behind,
        rows_are ∙ (ap (λ front. front ++ behind) (sym pair) ∙ append_assoc before (prep ∷ make ∷ []) behind),
        one_more prep_is make_is (subst (λ first. AreRows first chosen behind) count are),
      )

  rows_count : {first : ℕ} {chosen : List Listed} {rows : List TaskRow} → AreRows first chosen rows → length rows ≡ 2 * length chosen
  rows_count none_left = refl
  rows_count (one_more prep_is make_is are) = omega (arith, rows_count are)

  -- a row is that of a task of one of the packages
  pub record IsRowOf (chosen : List Listed) (first task : ℕ) (row : TaskRow) : Type 0 where
    pub part : Part
    pub place : ℕ
    pub item : Listed
    pub number : task ≡ first + task_at part place
    pub at : slice_get chosen place ≡ Some item
    pub made : task_row vars needs item part task ≡ Ok row

  next_place : (part : Part) (place : ℕ) → task_at part (suc place) ≡ task_at part place + 2
  next_place Prep place = omega arith
  next_place Make place = omega arith

  row_at : {first : ℕ} {chosen : List Listed} {rows : List TaskRow} → AreRows first chosen rows → (n : ℕ) (row : TaskRow) → slice_get rows n ≡ Some row → IsRowOf chosen first (first + n) row
  row_at none_left n row at = absurd (cc)
  row_at {first} (one_more {item = item} {prep = prep} prep_is make_is are) zero row at =
      let same : prep ≡ row = cc in
      let number : first + 0 ≡ first = omega arith in
      record { part = Prep; place = 0; item = item; number = refl; at = refl; made = ap (task_row vars needs item Prep) number ∙ (prep_is ∙ ap Ok same) }
  row_at (one_more {item = item} {make = make} prep_is make_is are) (suc zero) row at =
      let same : make ≡ row = cc in
      record { part = Make; place = 0; item = item; number = refl; at = refl; made = make_is ∙ ap Ok same }
  row_at {first} (one_more prep_is make_is are) (suc (suc n)) row at =
      let later = row_at are n row at in
      let same : first + 2 + n ≡ first + suc (suc n) = omega arith in
      record {
        part = later.part;
        place = suc later.place;
        item = later.item;
        number = omega (arith, later.number, next_place later.part later.place);
        at = later.at;
        made = subst (λ task. task_row vars needs later.item later.part task ≡ Ok row) same later.made;
      }

  -- the rows of all tasks: two for each package, each that of its task
  pub rows_are : (chosen : List Listed) (rows : List TaskRow) → all_rows vars needs chosen ≡ Ok rows
      → (length rows ≡ 2 * length chosen) × ((task : ℕ) (row : TaskRow) → slice_get rows task ≡ Some row → IsRowOf chosen 0 task row)
  rows_are chosen rows is =
      let (behind, whole, are) = rows_behind [] chosen rows is in
      let are_rows = subst (AreRows 0 chosen) (sym whole) are in (
        rows_count are_rows,
        λ task row at. let same : 0 + task ≡ task = omega arith in subst (λ t. IsRowOf chosen 0 t row) same (row_at are_rows task row at),
      )
