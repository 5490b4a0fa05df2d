use Rattle.std.proofs.Common.{◌≡◌, inl, inr, List, refl, sym, ap, ◌∙◌}
use Rattle.std.specs.FinMap as fin
use Rattle.std.specs.FinMap.Entries.{where_key}
use Rattle.std.specs.List.{list_any}
use Rattle.std.proofs.lemmas.Result.{IfOk-weaker, IfErr-weaker}
use Rattle.br_path.proofs.Maps.{entries-of}
use Rattle.br_path.proofs.PathOrder.{path_total}
use Rattle.br_path.specs.Path.{Names, path_cmp}
use Rattle.tree_ops.specs.Change.{is_below}
use Rattle.tree_ops.specs.declared.entry.Node.{Node}
use Rattle.tree_ops.proofs.Sound.{is_there}
use Rattle.tree_map.specs.Moving.{moves_below}
use Rattle.tree_map.specs.NameTable.{NameMap}
use Rattle.tree_map.specs.Parts.{leads_too_far}
use Rattle.tree_map.proofs.Gathered.{far-itself, far-below, far-none}
use Rattle.tree_map.proofs.names.NameTable.moves.Goals as goal

pub returns-then-leads_too_far-clause-err : goal.returns-then-leads_too_far-clause-err
returns-then-leads_too_far-clause-err c =
    let name = is_there (fin.get c.args.self.now c.args.old.now) c.requires in
    inr (refl, far-itself c.args.old.now c.args.at.now c.args.self.now name.0 name.1 (sym c.leads_too_far.ensures ∙ c.if-leads_too_far.true))

pub returns-clause-ok : goal.returns-clause-ok
returns-clause-ok c =
    let entries : c.self.inside.names.entries ≡ fin.entries c.args.self.now = sym (entries-of path_total c.self.inside.names c.moves_listed.ensures.ordered) ∙ ap (λ (m : NameMap). fin.entries m) c.self.view_is in
    IfOk-weaker c.moves_listed.result _ _ (λ moves is. is.1 ∙ ap (moves_below c.args.old.now c.args.at.now) entries) c.moves_listed.ensures.ok

pub returns-clause-fits : goal.returns-clause-fits
returns-clause-fits c =
    let name = is_there (fin.get c.args.self.now c.args.old.now) c.requires in
    let entries : c.self.inside.names.entries ≡ fin.entries c.args.self.now = sym (entries-of path_total c.self.inside.names c.moves_listed.ensures.ordered) ∙ ap (λ (m : NameMap). fin.entries m) c.self.view_is in
    IfOk-weaker c.moves_listed.result _ _ (λ moves is.
    far-none c.args.old.now c.args.at.now c.args.self.now name.0 name.1 (sym c.leads_too_far.ensures ∙ c.if-leads_too_far.false)
    (ap (λ (es : List (Names × Node)). list_any (leads_too_far c.args.old.now c.args.at.now) (where_key path_cmp (is_below c.args.old.now) es)) (sym entries) ∙ is.0)) c.moves_listed.ensures.ok

pub returns-clause-err : goal.returns-clause-err
returns-clause-err c =
    let name = is_there (fin.get c.args.self.now c.args.old.now) c.requires in
    let entries : c.self.inside.names.entries ≡ fin.entries c.args.self.now = sym (entries-of path_total c.self.inside.names c.moves_listed.ensures.ordered) ∙ ap (λ (m : NameMap). fin.entries m) c.self.view_is in
    IfErr-weaker c.moves_listed.result _ _ (λ fault is.
    elim is [
      | inl memory ↦ inl memory
      | inr far ↦
          inr (far.0, far-below c.args.old.now c.args.at.now c.args.self.now name.0 name.1 (ap (λ (es : List (Names × Node)). list_any (leads_too_far c.args.old.now c.args.at.now) (where_key path_cmp (is_below c.args.old.now) es)) (sym entries) ∙ far.1))
    ]) c.moves_listed.ensures.err
