use Rattle.root_merge.proofs.Adding.{owner-stays, owner-put}
use Rattle.root_merge.proofs.owners.add.Goals as goal

pub returns-then-contains_key : goal.returns-then-contains_key
returns-then-contains_key c = owner-stays c.args.owners.now c.args.path.now c.args.owner c.contains_key.result c.contains_key.ensures c.if-contains_key.true

pub returns : goal.returns
returns c =
    owner-put c.args.owners.now c.insert.new.self c.in_ok-copy.field-0 c.args.path.now c.args.owner c.contains_key.result c.in_ok-copy.ensures c.in_ok-insert.ensures.updates.0 c.contains_key.ensures c.if-contains_key.false
