-- Words have one command, or one place of the first that doesn't fit.
use Rattle.std.proofs.Common.{◌≡◌, ℕ, ◌+◌, ◌<◌, ◌≤◌, ◌⊎◌, inl, inr, ◌++◌, length, take, drop, Ok, Err, refl, sym, ap, ◌∙◌, subst, arith, append_assoc, length-take}
use Rattle.std.proofs.lemmas.List.{take-append-drop, take-append-le}
use Rattle.br_path.specs.Path.{Names}
use Rattle.br_words.specs.declared.command.Words.{Words}
use Rattle.br_words.specs.Command.{IsCommand, Begins, IsMisfit, HasOneAnswer}
use Rattle.br_words.specs.Reading.{Reading, read}
use Rattle.br_words.proofs.Right.{command-read, IsRead, read-read, Stands-IsMisfit}

one_command : (words : Names) (a b : Words) → IsCommand words a → IsCommand words b → a ≡ b
one_command words a b first second = let both : ◌≡◌ {A = Reading} (Ok a) (Ok b) = sym (command-read words a first) ∙ command-read words b second in cc

-- where a command begins with words, one begins with fewer of them
begins_less : (words : Names) (p q : ℕ) → p < q → q ≤ length words → Begins (take q words) → Begins (take (p + 1) words)
begins_less words p q less within begins =
    let front = take q words in
    let long : p + 1 ≤ length front = omega (arith, length-take q words) in
    let same : take (p + 1) words ≡ take (p + 1) front = ap (take (p + 1)) (sym (take-append-drop q words)) ∙ take-append-le (p + 1) front (drop q words) long in
    let whole : front ++ begins.rest ≡ take (p + 1) words ++ (drop (p + 1) front ++ begins.rest) =
    ap (λ xs. xs ++ begins.rest) (sym (take-append-drop (p + 1) front)) ∙ append_assoc (take (p + 1) front) (drop (p + 1) front) begins.rest
    ∙ ap (λ xs. xs ++ (drop (p + 1) front ++ begins.rest)) (sym same) in
    record { rest = drop (p + 1) front ++ begins.rest; command = begins.command; is = subst (λ ws. IsCommand ws begins.command) whole begins.is }

not_before : (words : Names) (p q : ℕ) → IsMisfit words p → IsMisfit words q → p < q → ⊥
not_before words p q first second less = first.no_further (omega (arith, less, second.within)) (begins_less words p q less second.within second.front)

one_place : (words : Names) (p q : ℕ) → IsMisfit words p → IsMisfit words q → p ≡ q
one_place words p q first second =
    let no_less = not_before words p q first second in
    let no_more = not_before words q p second first in
    by_order (p_or words)
  where
    p_or : Names → (p < q) ⊎ ((q < p) ⊎ (p ≡ q))
    p_or words = grind arith

    by_order : (p < q) ⊎ ((q < p) ⊎ (p ≡ q)) → p ≡ q
    by_order (inl less) = absurd (not_before words p q first second less)
    by_order (inr (inl more)) = absurd (not_before words q p second first more)
    by_order (inr (inr same)) = same

-- there is one or the other
some_answer : (words : Names) → ((command : Words) × IsCommand words command) ⊎ ((place : ℕ) × IsMisfit words place)
some_answer words = by_reading (read words) refl (read-read words)
  where
    by_reading : (reading : Reading) → read words ≡ reading → IsRead words reading → ((command : Words) × IsCommand words command) ⊎ ((place : ℕ) × IsMisfit words place)
    by_reading (Ok command) is right = inl (command, right)
    by_reading (Err place) is right = inr (place, Stands-IsMisfit words place is right)

pub has_one_answer : (words : Names) → HasOneAnswer words
has_one_answer words = record {
  some = some_answer words;
  command = one_command words;
  place = one_place words;
  apart = λ command place is misfit. misfit.no_command command is;
}
