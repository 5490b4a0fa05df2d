use Rattle.std.proofs.Common.{ℕ, List, ◌≤◌, length, sym, ap, subst, ◌∙◌}
use Rattle.sh_files.specs.Goals as goals
use Rattle.sh_files.proofs.Last.{last-holds}
use Rattle.sh_files.proofs.goal.base_of.Goals as goal

pub plain-requires : goal.plain-requires
plain-requires c = record {
  filled = subst (λ (name : List ℕ). 1 ≤ length name) (sym c.in_ok-copy-in-Some.ensures)
      (last-holds (λ (name : List ℕ). 1 ≤ length name) c.in_ok-names.names c.in-Some.name.now c.in_ok-names.ensures.filled (c.in-Some.ensures ∙ ap goals.last_of (c.as_slice.ensures.value ∙ c.names.view_is)));
}
