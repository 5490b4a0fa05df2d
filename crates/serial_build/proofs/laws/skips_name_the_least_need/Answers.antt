use Rattle.serial_build.proofs.Unbuilt.{serial_skips}
use Rattle.serial_build.proofs.laws.skips_name_the_least_need.Goals as goal

pub returns : goal.returns
returns c = serial_skips
