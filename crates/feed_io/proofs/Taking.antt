-- Facts on what reading has taken.
use Rattle.std.proofs.Common.{ℕ, ◌+◌, ◌-◌, ◌^◌, ◌≤◌, ◌≡◌, ◌≢◌, min, List, [], ◌∷◌, ◌++◌, length, sym, ap, subst, ◌∙◌, Option, Some, None, Ok, append_assoc, length-append, arith}
use Rattle.std.specs.FinMap as fin
use Rattle.br_path.specs.Path.{Names}
use Rattle.br_path.specs.PathFault.{path_fault}
use Rattle.br_path.specs.Files.{Clashes}
use Rattle.feed_io.specs.declared.feed.FeedFile.{FeedFile}
use Rattle.feed_io.specs.declared.read.Taken.{Taken}
use Rattle.feed_io.specs.Feed.{Takes}
use Rattle.feed_io.specs.Reading.{place_of, files_of, total_size}
use Rattle.feed_io.specs.Taken.{IsTaken, IsBegun}
use Rattle.feed_io.proofs.Faultless.{IsFaultless-push, files_of-push, total_size-push}

-- one more file is taken: its path is a path and free, it is put into the map, and the sizes' sum stays small
pub IsTaken-push : (before : List FeedFile) (file : FeedFile) (number : ℕ) (old new : Taken) (at : Names) → IsTaken before number old → number ≢ 65536
    → at ≡ place_of file → path_fault file.path ≡ None → (Clashes old.files at → ⊥)
    → new.files ≡ fin.insert old.files at file.bytes → new.size ≡ min (old.size + length file.bytes) (2 ^ 64 - 1) → new.size ≤ 67108864
    → IsTaken (before ++ file ∷ []) (number + 1) new
IsTaken-push before file number old new at taken few place path free files size small =
    let free' : Clashes (files_of before) (place_of file) → ⊥ = subst (λ q. Clashes (files_of before) q → ⊥) place (subst (λ m. Clashes m at → ⊥) taken.files free) in
    let full : new.size ≡ total_size before + length file.bytes = omega (arith, taken.size) in
    record {
      faultless = IsFaultless-push before file taken.faultless (omega (arith, taken.faultless.few, taken.count)) path free' (omega arith);
      files = files ∙ (λ i. fin.insert (taken.files i) (place i) file.bytes) ∙ sym (files_of-push before file free');
      size = full ∙ sym (total_size-push before file);
      count = omega (arith, taken.count, length-append before (file ∷ []));
    }

-- one more file is taken of a feed that gave it
pub IsBegun-push : (told left rest : Option (List FeedFile)) (before : List FeedFile) (file : FeedFile) (number : ℕ) (old new : Taken)
    → IsBegun told left before number old → Takes left (Ok (Some file)) rest → IsTaken (before ++ file ∷ []) (number + 1) new → IsBegun told rest (before ++ file ∷ []) (number + 1) new
IsBegun-push told left rest before file number old new begun takes taken = record {
  rest = λ list is.
      let (behind, cut, left-is) = begun.rest list is in
      let (after, first, rest-is) = takes behind left-is in
      (after, cut ∙ ap (λ ys. before ++ ys) first ∙ sym (append_assoc before (file ∷ []) after), rest-is);
  front = taken;
}
