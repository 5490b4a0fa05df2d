use Rattle.tree_worlds.proofs.Refusals.{refused-no_path}
use Rattle.tree_worlds.proofs.input.path_of.Goals as goal

pub returns-in-Err : goal.returns-in-Err
returns-in-Err c =
    refused-no_path c.args.names.now c.loop-name.path c.as_slice.result.now c.name-item.result c.loop-name.name-index c.in-Err.fault c.no_path.result
    c.loop-name.invariant c.loop-name-test.true c.name-item.is c.as_slice.ensures c.in-Err.ensures.fault c.no_path.ensures
