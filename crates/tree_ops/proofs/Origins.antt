-- Where the contents of other tasks' labels come from.
use Rattle.std.proofs.Common.{◌≡◌, inl, inr, false, Some, Ok, refl, sym, ap, ◌∙◌}
use Rattle.std.specs.FinMap as fin
use Rattle.std.specs.FinMap.{FinMap}
use Rattle.std.specs.Option.{option_or}
use Rattle.tree_ops.specs.declared.entry.Contents.{Contents}
use Rattle.tree_ops.specs.declared.entry.Label.{Label}
use Rattle.tree_ops.specs.Tree.{label_cmp, is_used, over}
use Rattle.tree_ops.specs.Change.{Change, MakeFile, Write, Append, SetMode, AddName, MakeLink, MakeDir, Remove, Rename, Populate, State, changed, tree_after, is_own}
use Rattle.tree_ops.specs.Laws.{contents_before}
use Rattle.tree_ops.proofs.Foreign.{StaysOrGoes, stays-after}
use Rattle.tree_ops.proofs.Laying.{label-over, chosen}
use Rattle.tree_ops.proofs.Outcomes.{after-changed}

still : (old new : FinMap label_cmp Contents) (label : Label) (contents : Contents) → StaysOrGoes old new label → fin.get new label ≡ Some contents → fin.get old label ≡ Some contents
still old new label contents (inl same) there = sym same ∙ there
still old new label contents (inr gone) there = cc

before-after : (change : Change) (old : State) (label : Label) (contents : Contents) → is_own old.1 label ≡ false → fin.get (tree_after change old).labels label ≡ Some contents → contents_before change old.0 label ≡ Some contents
before-after (MakeFile at mode bytes) old label contents other = still old.0.labels _ label contents (stays-after (MakeFile at mode bytes) old label refl other)
before-after (Write at bytes) old label contents other = still old.0.labels _ label contents (stays-after (Write at bytes) old label refl other)
before-after (Append at bytes) old label contents other = still old.0.labels _ label contents (stays-after (Append at bytes) old label refl other)
before-after (SetMode at mode) old label contents other = still old.0.labels _ label contents (stays-after (SetMode at mode) old label refl other)
before-after (AddName first at) old label contents other = still old.0.labels _ label contents (stays-after (AddName first at) old label refl other)
before-after (MakeLink at text) old label contents other = still old.0.labels _ label contents (stays-after (MakeLink at text) old label refl other)
before-after (MakeDir at mode) old label contents other = still old.0.labels _ label contents (stays-after (MakeDir at mode) old label refl other)
before-after (Remove at) old label contents other = still old.0.labels _ label contents (stays-after (Remove at) old label refl other)
before-after (Rename first at) old label contents other = still old.0.labels _ label contents (stays-after (Rename first at) old label refl other)
before-after (Populate from) old label contents other = λ there. (chosen (is_used (over old.0 from).names label) (option_or (fin.get from.labels label) (fin.get old.0.labels label)) contents (sym (label-over old.0 from label) ∙ there)).1

pub before-changed : (change : Change) (old new : State) (label : Label) (contents : Contents) → is_own old.1 label ≡ false → changed change old ≡ Ok new → fin.get new.0.labels label ≡ Some contents
    → contents_before change old.0 label ≡ Some contents
before-changed change old new label contents other is there =
    before-after change old label contents other (ap (λ (s : State). fin.get s.0.labels label) (after-changed change old new is).2 ∙ there)
