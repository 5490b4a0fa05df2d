use Rattle.sh_places.proofs.Children.{children-answer-same, children-answer-paths}
use Rattle.sh_places.proofs.looks.input_names.Goals as goal

pub returns-clause-names : goal.returns-clause-names
returns-clause-names c = children-answer-same c.args.files.now c.args.path.now c.children.result c.children.ensures.order c.children.ensures.names

pub returns-clause-paths : goal.returns-clause-paths
returns-clause-paths c = children-answer-paths c.args.files.now c.args.path.now c.children.result c.len-count.ensures.input c.children.ensures.names
