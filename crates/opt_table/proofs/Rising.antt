-- Letters that rise.
use Rattle.std.proofs.Common.{◌≡◌, zero, suc, Bool, true, false, ◌&&◌, [], ◌∷◌, refl, sym, ap, ◌∙◌, arith, add-one}
use Rattle.std.specs.Prelude.{nat_lt}
use Rattle.std.specs.List.{IsAllAdjacentAnswer}
use Rattle.opt_table.specs.declared.table.OptRow.{OptRow}
use Rattle.opt_table.specs.Table.{Rows, is_rising}

abbrev pub is_below : OptRow → OptRow → Bool
is_below row next = nat_lt row.letter next.letter

and-false : (b : Bool) → b && false ≡ false
and-false true = refl
and-false false = refl

-- what a test of each two neighbours answers
pub rising-adjacent : (rows : Rows) (answer : Bool) → IsAllAdjacentAnswer (λ row next b. b ≡ is_below row next) rows answer → answer ≡ is_rising rows
rising-adjacent [] true all = refl
rising-adjacent [] false (k, within, not_below) = absurd (omega arith)
rising-adjacent (row ∷ []) true all = refl
rising-adjacent (row ∷ []) false (k, within, not_below) = absurd (omega arith)
rising-adjacent (row ∷ next ∷ rows) true all =
    rising-adjacent (next ∷ rows) true (λ k d within. rw add-one (rw add-one at (all (suc k) d (omega arith))))
    ∙ ap (λ b. b && is_rising (next ∷ rows)) (all 0 row (omega arith))
rising-adjacent (row ∷ next ∷ rows) false (zero, within, not_below) = ap (λ b. b && is_rising (next ∷ rows)) (not_below row)
rising-adjacent (row ∷ next ∷ rows) false (suc k, within, not_below) =
    sym (and-false (is_below row next))
    ∙ ap (λ b. is_below row next && b) (rising-adjacent (next ∷ rows) false (k, omega arith, λ d. rw add-one (rw add-one at (not_below d))))
