use Rattle.std.proofs.Common.{drop}
use Rattle.selection.specs.Lists.{HasLists}
use Rattle.selection.proofs.ListLaws.{IsAhead}
use Rattle.selection.proofs.lists.all_lists.Given as goal

-- what the packages that are left give is given, after what there is
abbrev pub invariant-loop-made : goal.invariant-loop-made
invariant-loop-made l = IsAhead (HasLists l.vars) l.packages l.all.items (drop l.made-index l.packages)
