use Rattle.tree_map.proofs.Sealed.{sealed-none, sealed-owner}
use Rattle.tree_map.proofs.ops.MapTreeTreeOps.is_sealed.Goals as goal

pub returns-in-None : goal.returns-in-None
returns-in-None c = sealed-none c.args.self.now c.in-None.is

pub returns-in-Some : goal.returns-in-Some
returns-in-Some c = sealed-owner c.args.self.now c.in-Some.task c.has_label_of.result c.in-Some.is c.has_label_of.ensures
