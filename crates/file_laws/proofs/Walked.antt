-- A walk leads where it led, after names were added.
use Rattle.std.proofs.Common.{ℕ, zero, suc, ◌≡◌, Bool, true, false, cond, List, [], ◌∷◌, ◌++◌, Option, Some, None, Result, Ok, Err, refl, sym, ap, ◌∙◌}
use Rattle.std.specs.Prelude.{codes}
use Rattle.std.proofs.lemmas.Bool.{true≢false}
use Rattle.br_path.specs.Path.{Names, parent_of}
use Rattle.br_path.specs.Text.{is_text}
use Rattle.tree_ops.specs.declared.change.ChangeFault.TheVariants.{Outside, Loop, TooLong}
use Rattle.tree_ops.specs.declared.entry.Node.{Node}
use Rattle.tree_ops.specs.declared.entry.Node.TheVariants.{Dir, Link, File}
use Rattle.tree_ops.specs.Tree.{Tree, node_at, is_dir}
use Rattle.tree_ops.specs.Walk.{Onward, walk_on, walk_through, resolved, past_name, past_parent, through, is_name_too_long, components, begins_at_root, steps_of}
use Rattle.file_laws.proofs.Stays.{KeepsNodes}
use Rattle.file_laws.proofs.Through.{same_Ok}

pub dir-node : (node : Option Node) → is_dir node ≡ true → (mode : ℕ) × (node ≡ Some (Dir mode))
dir-node None is = absurd (true≢false (sym is))
dir-node (Some (Dir mode)) is = (mode, refl)
dir-node (Some (Link text)) is = absurd (true≢false (sym is))
dir-node (Some (File label)) is = absurd (true≢false (sym is))

-- a test that is the same for both
either : {A E : Type 0} {goal : A} (test : Bool) (one other new_one new_other : Result A E) → (one ≡ Ok goal → new_one ≡ Ok goal) → (other ≡ Ok goal → new_other ≡ Ok goal) → cond test one other ≡ Ok goal → cond test new_one new_other ≡ Ok goal
either true one other new_one new_other first second is = first is
either false one other new_one new_other first second is = second is

module _ (old new : Tree) (kept : KeepsNodes old new) (path : Names) (folder : is_dir (node_at new path) ≡ true) where
  module _ (first second : Onward) (onward : (from steps : Names) → first from steps ≡ Ok path → second from steps ≡ Ok path) where
    -- the folder at the end of a walk
    at-end : (from place : Names) → place ≡ path → past_name (walk_on second new true []) second true from place [] (node_at new place) ≡ Ok path
    at-end from place is =
        let there = dir-node (node_at new place) (ap (λ (p : Names). is_dir (node_at new p)) is ∙ folder) in
        ap (past_name (walk_on second new true []) second true from place []) there.1 ∙ ap Ok is

    no-file : (place : Names) (node : Node) → is_dir (Some node) ≡ false → node_at old place ≡ Some node → place ≡ path → ⊥
    no-file place node file there is = true≢false (sym folder ∙ ap (λ (p : Names). is_dir (node_at new p)) (sym is) ∙ ap is_dir (kept place node there) ∙ file)

    past-link : (from place : Names) (text : List ℕ) (rest : Names) → through first true from place text rest ≡ Ok path → through second true from place text rest ≡ Ok path
    past-link from place text [] is = either (begins_at_root text) (Err Outside) (first from (components text ++ [])) (Err Outside) (second from (components text ++ [])) (λ same. same) (onward from (components text ++ [])) is
    past-link from place text (name ∷ rest) is =
        either (begins_at_root text) (Err Outside) (first from (components text ++ name ∷ rest)) (Err Outside) (second from (components text ++ name ∷ rest)) (λ same. same) (onward from (components text ++ name ∷ rest)) is

    at-name : (rest : Names) → ((from : Names) → walk_on first old true rest from ≡ Ok path → walk_on second new true rest from ≡ Ok path) → (from place : Names) (node : Option Node) → node_at old place ≡ node
        → past_name (walk_on first old true rest) first true from place rest node ≡ Ok path → past_name (walk_on second new true rest) second true from place rest (node_at new place) ≡ Ok path
    at-name [] more from place None there is = at-end from place (same_Ok place path is)
    at-name (name ∷ rest) more from place None there is = cc
    at-name rest more from place (Some (Dir mode)) there is =
        ap (past_name (walk_on second new true rest) second true from place rest) (kept place (Dir mode) there) ∙ more place is
    at-name rest more from place (Some (Link text)) there is =
        ap (past_name (walk_on second new true rest) second true from place rest) (kept place (Link text) there) ∙ past-link from place text rest is
    at-name [] more from place (Some (File label)) there is = absurd (no-file place (File label) refl there (same_Ok place path is))
    at-name (name ∷ rest) more from place (Some (File label)) there is = cc

    at-parent : (rest : Names) → ((from : Names) → walk_on first old true rest from ≡ Ok path → walk_on second new true rest from ≡ Ok path) → (parent : Option Names)
        → past_parent (walk_on first old true rest) parent ≡ Ok path → past_parent (walk_on second new true rest) parent ≡ Ok path
    at-parent rest more None is = is
    at-parent rest more (Some parent) is = more parent is

    on-steps : (steps from : Names) → walk_on first old true steps from ≡ Ok path → walk_on second new true steps from ≡ Ok path
    on-steps [] from is = is
    on-steps (name ∷ rest) from is =
        let place : Names = from ++ name ∷ [] in
        either (is_text name (codes ".")) (walk_on first old true rest from)
        (cond (is_text name (codes "..")) (past_parent (walk_on first old true rest) (parent_of from)) (cond (is_name_too_long from name) (Err TooLong) (past_name (walk_on first old true rest) first true from place rest (node_at old place))))
        (walk_on second new true rest from)
        (cond (is_text name (codes "..")) (past_parent (walk_on second new true rest) (parent_of from)) (cond (is_name_too_long from name) (Err TooLong) (past_name (walk_on second new true rest) second true from place rest (node_at new place))))
        (on-steps rest from)
        (either (is_text name (codes "..")) (past_parent (walk_on first old true rest) (parent_of from))
        (cond (is_name_too_long from name) (Err TooLong) (past_name (walk_on first old true rest) first true from place rest (node_at old place)))
        (past_parent (walk_on second new true rest) (parent_of from))
        (cond (is_name_too_long from name) (Err TooLong) (past_name (walk_on second new true rest) second true from place rest (node_at new place)))
        (at-parent rest (on-steps rest) (parent_of from))
        (either (is_name_too_long from name) (Err TooLong) (past_name (walk_on first old true rest) first true from place rest (node_at old place)) (Err TooLong)
        (past_name (walk_on second new true rest) second true from place rest (node_at new place)) (λ same. same) (at-name rest (on-steps rest) from place (node_at old place) refl)))
        is

  on-links : (links : ℕ) (from steps : Names) → walk_through links old true from steps ≡ Ok path → walk_through links new true from steps ≡ Ok path
  unfolding walk_through
  on-links zero from steps is = on-steps (λ _ _. Err Loop) (λ _ _. Err Loop) (λ from steps same. same) steps from is
  on-links (suc links) from steps is = on-steps (walk_through links old true) (walk_through links new true) (on-links links) steps from is

  -- a walk to what is a folder now leads there still
  pub still-resolved : (walk : List ℕ) → resolved old walk true ≡ Ok path → resolved new walk true ≡ Ok path
  still-resolved walk is = on-links 40 [] (steps_of walk) is
