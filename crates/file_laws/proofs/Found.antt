-- The place of a word that was read.
use Rattle.std.proofs.Common.{ℕ, ◌≡◌, Bool, List, Result, Ok, sym, ap, ◌∙◌}
use Rattle.br_path.specs.Files.{FileMap}
use Rattle.br_path.specs.Gives.{◌>>=◌}
use Rattle.tree_worlds.specs.World.{WorldData}
use Rattle.tree_worlds.specs.Operand.{operand_of}
use Rattle.tree_worlds.specs.declared.operand.Operand.{Operand}
use Rattle.tree_worlds.specs.declared.reason.Reason.{Reason}
use Rattle.sh_places.specs.Finding.{found, spot_of}
use Rattle.sh_places.specs.declared.spot.Spot.{Spot}

pub found-spot : (files : FileMap) (word : List ℕ) (follow : Bool) (operand : Operand) (place : Spot) (world : WorldData)
    → operand_of world files word ≡ Ok operand → found world files word follow ≡ Ok place → spot_of world follow operand ≡ Ok place
found-spot files word follow operand place world is finds = sym (ap (λ (o : Result Operand Reason). o >>= spot_of world follow) is) ∙ finds
