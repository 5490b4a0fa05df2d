use Rattle.std.proofs.Common.{ℕ, ◌≡◌, ◌≤◌, subst, sym, ap, ◌∙◌}
use Rattle.tree_worlds.specs.World.{world_data}
use Rattle.sh_places.specs.Looks.{mode_in, tree_of}
use Rattle.sh_places.proofs.Sound.{mode-modest, mode-elsewhere}
use Rattle.sh_places.proofs.looks.mode_at.Goals as goal

pub returns-in_default : goal.returns-in_default
returns-in_default g c =
    let world = world_data g.T.TreeOps.tree c.args.world.now in
    let same : c.mode_in.result ≡ mode_in c.args.spot.now.path (tree_of world c.args.spot.now.site) = c.mode_in.ensures ∙ ap (mode_in c.args.spot.now.path) c.tree_of.ensures in
    record {
      mode = same ∙ sym (mode-elsewhere world c.args.spot.now.path c.args.spot.now.site c.in_default.not-Input);
      modest = subst (λ (m : ℕ). m ≤ 4095) (sym same) (mode-modest g.T.TreeOps.tree g.T.TreeOps.sealed c.args.world.now c.args.spot.now.site c.args.spot.now.path c.requires.held);
    }
