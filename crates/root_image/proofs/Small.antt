-- Texts whose lines can be numbered.
use Rattle.std.proofs.Common.{ℕ, ◌≤◌, ◌<◌, ◌^◌, ◌==◌, List, length, arith}
use Rattle.std.proofs.lemmas.List.Splits.{length-slice_split}
use Rattle.std.proofs.lemmas.List.Sums.{count_by-le-length}
use Rattle.root_image.specs.Reading.{lines_of}

-- a text of at most 2^30 bytes has fewer than 2^32 lines
pub lines_of_small : (text : List ℕ) → length text ≤ 2 ^ 30 → length (lines_of text) < 2 ^ 32
lines_of_small text few = omega (arith, length-slice_split (λ byte. byte == 10) text, count_by-le-length (λ byte. byte == 10) text)
