use Rattle.std.proofs.Common.{◌≡◌, is_some, rules, sym, ◌∙◌}
use Rattle.selection.specs.Chains.{place_of}
use Rattle.selection.proofs.PlaceLaws.{among}
use Rattle.selection.proofs.places.is_made.Goals as goal

pub returns : goal.returns
returns c =
    let found : c.is_some.result ≡ is_some (place_of c.args.packages.now c.args.name.now) = search rules in
    found ∙ sym (among (λ one. one.name) c.args.name.now c.args.packages.now)
