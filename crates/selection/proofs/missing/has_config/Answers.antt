use Rattle.std.proofs.Common.{◌↔◌, IsTrue, subst}
use Rattle.br_path.specs.Files.{IsFile}
use Rattle.selection.proofs.LeastLaws.{config_path}
use Rattle.selection.proofs.missing.has_config.Goals as goal

pub returns : goal.returns
returns c =
    subst (λ at. IsTrue c.is_file.result ↔ IsFile c.args.files.now at)
    (config_path c.args.folder.now c.in_ok-below.below c.in_ok-config.config c.args.name.now c.requires c.in_ok-below.ensures c.in_ok-config.ensures) c.is_file.ensures
