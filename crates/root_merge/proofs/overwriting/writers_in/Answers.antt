use Rattle.std.proofs.Common.{ap, ◌∙◌}
use Rattle.std.specs.FinMap as fin
use Rattle.br_path.specs.Path.{path_cmp}
use Rattle.root_merge.specs.Found.{Makes}
use Rattle.root_merge.proofs.Prefixes.{writers-next, writers-same}
use Rattle.root_merge.proofs.overwriting.writers_in.Goals as goal
use Rattle.root_merge.proofs.overwriting.writers_in.Goals.{in-Some+in_ok-add_all, in_default}

pub loop-make-init : goal.loop-make-init
loop-make-init g c = λ path. ap (λ (m : Makes). fin.get m path) c.new-writers.ensures ∙ fin.get-empty path_cmp path

pub loop-make-preserved : goal.loop-make-preserved
loop-make-preserved g c =
    let plan = c.args.plan.now in
    let shelves = g.S.Shelves.shelves c.args.shelves.now in
    elim c.match-left_by.branch [
      | in-Some+in_ok-add_all w ↦ writers-next plan shelves c.args.area c.loop-make.make _ c.loop-make.writers c.match-left_by.writers w.in-Some.ensures.left (w.writers-is ∙ w.in_ok-add_all.ensures) c.loop-make.invariant
      | in_default w ↦ writers-same plan shelves c.args.area c.loop-make.make c.loop-make.writers c.match-left_by.writers w.in_default.ensures.left w.writers-is c.loop-make.invariant
    ]
