-- Words that are put one by one.
use Rattle.std.proofs.Common.{◌≡◌, ℕ, List, [], ◌∷◌, ◌++◌, Ok, Err, ap, sym, ◌∙◌, append_assoc}
use Rattle.mk_expand.specs.declared.fault.ExpandFault.{ExpandFault}
use Rattle.mk_expand.specs.Draft.{State, put}
use Rattle.mk_expand.specs.Words.{row_behind}
use Rattle.mk_expand.proofs.Puts.{put_on, put_stop}

pub row_on : (gap word : List ℕ) (others : List (List ℕ)) (s t : State) → put (gap ++ word) s ≡ Ok t → put (row_behind gap (word ∷ others)) s ≡ put (row_behind (32 ∷ []) others) t
row_on gap word others s t e =
    ap (λ b. put b s) (sym (append_assoc gap word (row_behind (32 ∷ []) others))) ∙ put_on (gap ++ word) (row_behind (32 ∷ []) others) s t e

pub row_stop : (gap word : List ℕ) (others : List (List ℕ)) (s : State) (f : ExpandFault) → put (gap ++ word) s ≡ Err f → put (row_behind gap (word ∷ others)) s ≡ Err f
row_stop gap word others s f e =
    ap (λ b. put b s) (sym (append_assoc gap word (row_behind (32 ∷ []) others))) ∙ put_stop (gap ++ word) (row_behind (32 ∷ []) others) s f e

pub ruleset rows = (row_on, row_stop)
