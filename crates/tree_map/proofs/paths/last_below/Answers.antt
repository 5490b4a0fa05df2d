use Rattle.std.proofs.Common.{◌≤◌, length, arith}
use Rattle.br_path.specs.Path.{rooted_text}
use Rattle.tree_map.proofs.Greatest.{reach-more, reach-last, room_used}
use Rattle.tree_map.proofs.paths.last_below.Goals as goal

pub loop-alloc-preserved : goal.loop-alloc-preserved
loop-alloc-preserved c =
    reach-more c.args.head.now c.loop-alloc.last c.in_ok-last-2.last c.min.result c.loop-alloc.invariant c.in_ok-last-2.ensures
    (room_used (length (rooted_text c.loop-alloc.last)) c.rooted_length-room.result c.min.result c.rooted_length-room.ensures.length c.min.ensures)

pub returns-clause-greatest : goal.returns-clause-greatest
returns-clause-greatest c = let full : 1024 ≤ length (rooted_text c.loop-alloc.last) = omega arith in reach-last c.args.head.now c.loop-alloc.last c.loop-alloc.invariant full
