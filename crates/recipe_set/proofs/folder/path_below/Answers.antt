use Rattle.recipe_set.proofs.Paths.{child_fault-path, no_answer}
use Rattle.recipe_set.proofs.folder.path_below.Goals as goal

pub returns-in_default : goal.returns-in_default
returns-in_default c = record {
  none = λ _ path. no_answer _ c.in-Err.fault c.in_default.not-Memory c.in-Err.ensures.fault (child_fault-path c.args.path.now c.args.name.now path);
  some = tt;
}
