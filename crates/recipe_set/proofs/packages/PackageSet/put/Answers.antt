use Rattle.std.proofs.Common.{◌∙◌, ap, map}
use Rattle.recipe_set.specs.Effect.{with_package}
use Rattle.recipe_set.proofs.Places.{made, made-insert_entry}
use Rattle.recipe_set.proofs.packages.PackageSet.put.Goals as goal

pub returns : goal.returns
returns c =
    ap (map made) c.in_ok-insert.ensures.entries
    ∙ made-insert_entry c.self.inside.places.entries c.args.name (record { folder = c.args.folder; host = c.args.host })
    ∙ ap (with_package (record { name = c.args.name; folder = c.args.folder; host = c.args.host })) c.self.view_is
