use Rattle.std.proofs.Common.{◌≡◌, is_some, rules, sym, ◌∙◌}
use Rattle.std.specs.List.{position}
use Rattle.br_path.specs.Text.{is_text}
use Rattle.selection.proofs.PlaceLaws.{among}
use Rattle.selection.proofs.places.has_name.Goals as goal

pub returns : goal.returns
returns c =
    let found : c.is_some.result ≡ is_some (position (λ one. is_text c.args.name.now one.made.name) c.args.packages.now) = search rules in
    found ∙ sym (among (λ one. one.made.name) c.args.name.now c.args.packages.now)
