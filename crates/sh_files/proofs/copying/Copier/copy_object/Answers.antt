use Rattle.std.proofs.Common.{Ok}
use Rattle.tree_worlds.specs.World.{world_data}
use Rattle.sh_files.specs.Goals.{base_for, place_for}
use Rattle.sh_files.specs.Copying.{places_of}
use Rattle.sh_files.proofs.Copies.{ran_given, object_on}
use Rattle.sh_files.proofs.copying.Copier.copy_object.Goals as goal

pub returns-clause-ran : goal.returns-clause-ran
returns-clause-ran g c =
    let world = world_data g.T.TreeOps.tree c.args.world.now in
    object_on c.args.self.now.files.now c.args.self.now.manner c.args.goal.now (places_of c.args.copied.now) (places_of c.copy_kind.new.copied) c.args.word.now c.in_ok-base.base c.as_slice.result.now c.in_ok-source.source c.in_ok-place.place c.in_ok-kind.kind c.copy_kind.result
    world (world_data g.T.TreeOps.tree c.copy_kind.new.world) c.as_slice.ensures
    (ran_given (base_for c.args.goal.now c.args.word.now) (Ok c.in_ok-base.base) world c.in_ok-base.ensures.base) c.in_ok-source.ensures c.in_ok-kind.ensures.ran
    (ran_given (place_for c.args.goal.now c.as_slice.result.now) (Ok c.in_ok-place.place) world c.in_ok-place.ensures) c.copy_kind.ensures.ran
