use Rattle.std.proofs.Common.{◌↔◌, IsTrue, subst, sym}
use Rattle.br_path.specs.Files.{IsFile}
use Rattle.selection.proofs.LeastLaws.{some_file}
use Rattle.selection.proofs.missing.is_file.Goals as goal

pub returns : goal.returns
returns c = subst (λ some. IsTrue some ↔ IsFile c.args.files.now c.args.at.now) (sym c.is_some.ensures) (some_file c.get.result _ c.get.ensures)
