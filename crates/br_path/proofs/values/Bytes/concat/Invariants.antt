use Rattle.std.proofs.Common.{◌≡◌}
use Rattle.std.specs.Prelude.{take}
use Rattle.std.specs.List.{flat_map}
use Rattle.br_path.proofs.values.Bytes.concat.Given as goal

abbrev pub invariant-loop-piece : goal.invariant-loop-piece
invariant-loop-piece l = l.items.items ≡ flat_map (λ piece. piece.now) (take l.piece-index l.pieces)
