use Rattle.std.proofs.Common.{Some, ap, ◌∙◌}
use Rattle.std.specs.FinMap as fin
use Rattle.root_image.specs.declared.root.RootEntry.TheVariants.{Same}
use Rattle.root_merge.specs.Firsts.{firsts_in, named_file, with_first}
use Rattle.root_merge.proofs.Adding.{first-found, first-put}
use Rattle.root_merge.proofs.Files.{contents-some, on-ok, whole-named}
use Rattle.root_merge.proofs.entry.file_entry.Goals as goal

pub returns-in-Some-clause-entry : goal.returns-in-Some-clause-entry
returns-in-Some-clause-entry g c =
    ap Same c.in_ok-copy.ensures ∙ ap (λ o. named_file o (fin.get (g.T.TreeOps.tree c.args.tree.now).labels c.args.label)) (first-found c.args.firsts.now c.args.label (Some c.in-Some.first.now) c.in-Some.ensures.value)

pub returns-in-Some-clause-firsts : goal.returns-in-Some-clause-firsts
returns-in-Some-clause-firsts g c =
    ap (λ o. with_first o c.args.label c.args.path.now (firsts_in c.args.firsts.now)) (first-found c.args.firsts.now c.args.label (Some c.in-Some.first.now) c.in-Some.ensures.value)

pub whole_file-requires : goal.whole_file-requires
whole_file-requires g c = contents-some (g.T.TreeOps.tree c.args.tree.now) c.args.path.now c.args.label c.requires.sound c.requires.file

pub returns-clause-entry : goal.returns-clause-entry
returns-clause-entry g c =
    whole-named c.whole_file.result (g.T.TreeOps.tree c.args.tree.now) c.args.path.now c.args.label c.args.firsts.now c.requires.file c.in_default.ensures.value c.whole_file.ensures.entry

pub returns-clause-firsts : goal.returns-clause-firsts
returns-clause-firsts g c =
    on-ok c.whole_file.result _ (first-put c.args.firsts.now c.insert.new.self c.args.label c.in_ok-copy-2.field-0 c.args.path.now c.in_ok-copy-2.ensures c.in_ok-insert.ensures.updates.0 c.in_default.ensures.value)
