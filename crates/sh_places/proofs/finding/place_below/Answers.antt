use Rattle.sh_places.proofs.Walking.{below-refused}
use Rattle.sh_places.proofs.finding.place_below.Goals as goal

pub returns-in-Err : goal.returns-in-Err
returns-in-Err c = below-refused c.args.folder.now c.args.name.now c.in-Err.fault c.refused.result c.requires.name c.in-Err.ensures.fault c.refused.ensures
