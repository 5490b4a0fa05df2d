use Rattle.std.proofs.Common.{ℕ, ◌+◌, ◌≡◌, List, length, sym, ap, ◌∙◌, add-zero}
use Rattle.std.specs.FinMap as fin
use Rattle.std.specs.List.{sum_by}
use Rattle.br_path.specs.Path.{Names, rooted_text}
use Rattle.br_path.proofs.Maps.{entries-of, len-of}
use Rattle.br_path.proofs.PathOrder.{path_total}
use Rattle.tree_ops.specs.declared.entry.Node.{Node}
use Rattle.tree_map.specs.NameTable.{NameMap}
use Rattle.tree_map.proofs.names.NameTable.measure.Goals as goal

pub returns-clause-is : goal.returns-clause-is
returns-clause-is c =
    let text : List (Names × Node) → ℕ = sum_by (λ entry. length (rooted_text entry.0)) in
    let names = c.len.ensures.len ∙ sym (len-of path_total c.self.inside.names c.len.ensures.ordered) ∙ ap fin.len c.self.view_is in
    let left : c.loop-at.bytes + text c.loop-at.at-iterator ≡ c.loop-at.bytes = ap (λ es. c.loop-at.bytes + text es) c.in-None.ensures.steps.0 ∙ add-zero c.loop-at.bytes in
    let bytes = sym left ∙ c.loop-at.invariant.all ∙ ap text (sym (entries-of path_total c.self.inside.names c.len.ensures.ordered)) ∙ ap (λ (m : NameMap). text (fin.entries m)) c.self.view_is in
    λ i. (names i, bytes i)
