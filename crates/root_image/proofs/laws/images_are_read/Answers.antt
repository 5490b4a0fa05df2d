use Rattle.std.proofs.Common.{◌≡◌, Ok, sym, subst}
use Rattle.root_image.specs.Reading.{image_of}
use Rattle.root_image.proofs.Readable.{image_of-image_text}
use Rattle.root_image.proofs.Whole.{image_of-is}
use Rattle.root_image.proofs.laws.images_are_read.Goals as goal

pub returns : goal.returns
returns g = λ text root few. (image_of-is text root few, λ said. subst (λ t. image_of t ≡ Ok root) (sym said.1) (image_of-image_text root said.0))
