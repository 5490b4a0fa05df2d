-- The files of a list are small.
use Rattle.std.proofs.Common.{ℕ, ◌≡◌, ◌+◌, ◌≤◌, true, false, cond, List, [], ◌∷◌, length, map, Some, sym, ap, ◌∙◌, arith}
use Rattle.std.proofs.lemmas.List.Sums.{sum_by-append}
use Rattle.std.specs.FinMap as fin
use Rattle.std.specs.Ordering.{eq_by_cmp}
use Rattle.br_path.specs.Path.{Names, path_cmp}
use Rattle.br_path.specs.Files.{FileMap, AreSmall}
use Rattle.br_path.proofs.PathOrder.{path_total}
use Rattle.feed_io.specs.declared.feed.FeedFile.{FeedFile}
use Rattle.feed_io.specs.Reading.{IsFaultless, files_of, place_of, total_size}

found_small : (list : List FeedFile) (at : Names) (bytes : List ℕ) → fin.find path_cmp at (map (λ file. (place_of file, file.bytes)) list) ≡ Some bytes → length bytes ≤ total_size list
found_small [] at bytes found = absurd cc
found_small (file ∷ list) at bytes found =
    let split = sum_by-append (λ f. length f.bytes) (file ∷ []) list in
    let small : length bytes ≤ length file.bytes + total_size list =
    elim (eq_by_cmp path_cmp at (place_of file)) as (λ b. cond b (Some file.bytes) (fin.find path_cmp at (map (λ f. (place_of f, f.bytes)) list)) ≡ Some bytes → length bytes ≤ length file.bytes + total_size list) [
      | true ↦ λ here. let same : file.bytes ≡ bytes = cc in omega (arith, ap length same)
      | false ↦ λ later. let small = found_small list at bytes later in omega (arith, small)
    ] found in
    omega (arith, small, split)

pub faultless_small : (list : List FeedFile) (files : FileMap) → IsFaultless list → files ≡ files_of list → AreSmall files
faultless_small list files faultless same at bytes found =
    let told : fin.find path_cmp at (map (λ file. (place_of file, file.bytes)) list) ≡ Some bytes =
    sym (fin.get-from_entries path_total (map (λ file. (place_of file, file.bytes)) list) at) ∙ ap (λ m. fin.get m at) (sym same) ∙ found in
    let small = found_small list at bytes told in
    omega (arith, small, faultless.small)
