-- Sizes that are read.
use Rattle.std.proofs.Common.{ℕ, ◌≡◌, ◌+◌, ◌-◌, ◌*◌, ◌<◌, min, List, [], ◌∷◌, ◌++◌, length, take, get_or, Option, Some, None, Result, refl, sym, ap, subst, ◌∙◌, append_assoc, arith}
use Rattle.std.proofs.lemmas.List.{take_more}
use Rattle.std.specs.Option.{option_map, option_and_then}
use Rattle.br_path.specs.Path.{Names}
use Rattle.root_image.specs.declared.fault.Refusal.{Refusal}
use Rattle.root_image.specs.declared.place.Stand.{Stand}
use Rattle.root_image.specs.Lines.{FileLine, Entries}
use Rattle.root_image.specs.Words.{path_at, number_on, byte_of, bytes_of, size_word, sized_line}
use Rattle.root_image.specs.Reading.{Between, on_line}
use Rattle.root_image.specs.Reader.{Stepped, capped, capped_word, most}

capped-path : (mode size : ℕ) (o : Option Names) → option_map (λ path. FileLine mode (min size most) path) o ≡ option_map capped (option_map (λ path. FileLine mode size path) o)
capped-path mode size None = refl
capped-path mode size (Some path) = refl

-- the size that was read is that of the line
pub sized-steps : (entries new : Entries) (mode size : ℕ) (text rest : List ℕ) (result : Result Stand Refusal) → Some (size, rest) ≡ capped_word (size_word text)
    → Stepped (on_line entries Between (option_map (λ path. FileLine mode size path) (path_at rest))) result new → Stepped (on_line entries Between (option_map capped (sized_line mode text))) result new
sized-steps entries new mode size text rest result is steps = by (size_word text) is
  where
    by : (o : Option (ℕ × List ℕ)) → Some (size, rest) ≡ capped_word o
        → Stepped (on_line entries Between (option_map capped (option_and_then (λ word. option_map (λ path. FileLine mode word.0 path) (path_at word.1)) o))) result new
    by None is = cc
    by (Some word) is =
        let pair : ◌≡◌ {A = ℕ × List ℕ} (size, rest) (min word.0 most, word.1) = cc in
        let same : option_map (λ path. FileLine mode size path) (path_at rest) ≡ option_map capped (option_map (λ path. FileLine mode word.0 path) (path_at word.1)) =
        (λ i. option_map (λ path. FileLine mode (pair i).0 path) (path_at (pair i).1)) ∙ capped-path mode word.0 (path_at word.1) in
        subst (λ o. Stepped (on_line entries Between o) result new) same steps

number_on-push : (number : ℕ) (digits : List ℕ) (digit : ℕ) → number_on number (digits ++ digit ∷ []) ≡ number_on number digits * 10 + (digit - 48)
number_on-push number [] digit = refl
number_on-push number (d ∷ digits) digit = number_on-push (number * 10 + (d - 48)) digits digit

-- one digit more is read
pub digit-turn : (digits : List ℕ) (index number times new : ℕ) → index < length digits → number ≡ min (number_on 0 (take index digits)) most
    → times ≡ min (number * 10) most → new ≡ min (times + (get_or digits index 0 - 48)) most → new ≡ min (number_on 0 (take (index + 1) digits)) most
digit-turn digits index number times new within so_far by_ten plus =
    let value : number_on 0 (take (index + 1) digits) ≡ number_on 0 (take index digits) * 10 + (get_or digits index 0 - 48) =
    ap (number_on 0) (take_more digits index 0 within) ∙ number_on-push 0 (take index digits) (get_or digits index 0) in
    omega arith

-- one byte more is read
pub pair-turn : (done new rest more : List ℕ) (all : Option (List ℕ)) (high low byte : ℕ) → rest ≡ high ∷ low ∷ more → Some byte ≡ byte_of high low → new ≡ done ++ byte ∷ []
    → option_map (λ tail. done ++ tail) (bytes_of rest) ≡ all → option_map (λ tail. new ++ tail) (bytes_of more) ≡ all
pair-turn done new rest more all high low byte cut is pushed so_far =
    ap (λ n. option_map (λ tail. n ++ tail) (bytes_of more)) pushed
    ∙ by (bytes_of more)
    ∙ ap (λ o. option_map (λ tail. done ++ tail) (option_and_then (λ byte. option_map (λ bytes. byte ∷ bytes) (bytes_of more)) o)) is
    ∙ ap (λ r. option_map (λ tail. done ++ tail) (bytes_of r)) (sym cut) ∙ so_far
  where
    by : (o : Option (List ℕ)) → option_map (λ tail. (done ++ byte ∷ []) ++ tail) o ≡ option_map (λ tail. done ++ tail) (option_map (λ bytes. byte ∷ bytes) o)
    by None = refl
    by (Some tail) = ap Some (append_assoc done (byte ∷ []) tail)

pub pair-none : (done rest more : List ℕ) (all : Option (List ℕ)) (high low : ℕ) → rest ≡ high ∷ low ∷ more → None ≡ byte_of high low → option_map (λ tail. done ++ tail) (bytes_of rest) ≡ all → None ≡ all
pair-none done rest more all high low cut is so_far =
    ap (λ o. option_map (λ tail. done ++ tail) (option_and_then (λ byte. option_map (λ bytes. byte ∷ bytes) (bytes_of more)) o)) is
    ∙ ap (λ r. option_map (λ tail. done ++ tail) (bytes_of r)) (sym cut) ∙ so_far
