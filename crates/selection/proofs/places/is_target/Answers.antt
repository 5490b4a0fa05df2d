use Rattle.std.proofs.Common.{sym, ◌∙◌}
use Rattle.selection.proofs.PlaceLaws.{target_none, target_some}
use Rattle.selection.proofs.places.is_target.Goals as goal

pub returns-in-Some : goal.returns-in-Some
returns-in-Some c =
    sym (target_some (λ one. one.name) c.args.name.now (λ one. one.host) c.args.packages.now c.requires c.in-Some.place c.index-packages-place.result (sym c.place_of.ensures.place ∙ c.in-Some.is))

pub returns-in-None : goal.returns-in-None
returns-in-None c = sym (target_none (λ one. one.name) c.args.name.now (λ one. one.host) c.args.packages.now (sym c.place_of.ensures.place ∙ c.in-None.is))
