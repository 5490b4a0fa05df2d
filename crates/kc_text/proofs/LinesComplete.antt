-- Lines are read as they are written.
use Rattle.std.proofs.Common.{◌≡◌, ℕ, ◌+◌, true, false, List, [], ◌∷◌, ◌++◌, length, sym, ap, ◌∙◌, append_assoc, append-nil, length-append, arith}
use Rattle.std.specs.Prelude.{◌==◌, IsTrue}
use Rattle.std.specs.List.{list_all}
use Rattle.std.proofs.lemmas.Bool.{ne_eqb, and_parts}
use Rattle.kc_text.specs.Lexer.{parts}
use Rattle.kc_text.specs.Lines.{joins, is_blank_line, indent, put_line, finish}
use Rattle.kc_text.specs.TextLines.{IsFirst, IsFlush, IsHelpBlock, EndsInside, IsLines, is_inside}
use Rattle.kc_text.specs.declared.part.Line.{Line}
use Rattle.kc_text.specs.declared.lines.Help.TheVariants.{Out, First, Indent}
use Rattle.kc_text.proofs.RawLines.{state, run, joins_front, waiting_joins, waiting_whole, between_joins, between_whole, put_empty, put_full, finish_waiting, finish_none, help_line, other_line, first_blank, first_flush, first_indented, inside_stays, inside_ends, take_first, take_inside, take_out}

-- the raw lines of a line are joined after those that wait
waiting_runs : (raws rest : List (List ℕ)) (text : List ℕ) (count : ℕ) (done : List Line) (front : List ℕ) (first number : ℕ) → IsFirst raws text count rest →
    run (state done (front ++ 92 ∷ []) first Out) number raws ≡ run (put_line (state done (front ++ 32 ∷ text) first Out)) (number + count) rest
waiting_runs raws rest text count done front first number (IsFirst.whole raw more isnt) = ap (λ g. run g (number + 1) more) (waiting_whole done front first number raw isnt)
waiting_runs raws rest text count done front first number (IsFirst.last raw is) =
    ap finish (waiting_joins done front first number raw is) ∙ finish_waiting done front raw 32 first
waiting_runs raws rest text count done front first number (IsFirst.joined f t more r c is) =
    let longer : front ++ 32 ∷ (f ++ 92 ∷ []) ≡ (front ++ 32 ∷ f) ++ 92 ∷ [] = sym (append_assoc front (32 ∷ f) (92 ∷ [])) in
    let counted : number + 1 + c ≡ number + (c + 1) = omega arith in
    ap (λ g. run g (number + 1) more) (waiting_joins done front first number (f ++ 92 ∷ []) (joins_front f) ∙ ap (λ carry. state done carry first Out) longer)
    ∙ (waiting_runs more r t c done (front ++ 32 ∷ f) first (number + 1) is
    ∙ (ap (λ text. run (put_line (state done text first Out)) (number + 1 + c) r) (append_assoc front (32 ∷ f) (32 ∷ t))
    ∙ ap (λ n. run (put_line (state done (front ++ 32 ∷ (f ++ 32 ∷ t)) first Out)) n r) counted))

-- the first line of raw lines is read, with the number of its first raw line
first_runs : (raws rest : List (List ℕ)) (text : List ℕ) (count : ℕ) (done : List Line) (first number : ℕ) → IsFirst raws text count rest →
    run (state done [] first Out) number raws ≡ run (put_line (state done text number Out)) (number + count) rest
first_runs raws rest text count done first number (IsFirst.whole raw more isnt) = ap (λ g. run g (number + 1) more) (between_whole done first number raw isnt)
first_runs raws rest text count done first number (IsFirst.last raw is) = ap finish (between_joins done first number raw is) ∙ last_line raw is
  where
    last_line : (raw : List ℕ) → joins raw ≡ true → finish (state done raw number Out) ≡ finish (put_line (state done raw number Out))
    last_line [] is = absurd (cc)
    last_line (b ∷ bytes) is = finish_waiting done [] bytes b number
first_runs raws rest text count done first number (IsFirst.joined f t more r c is) =
    let counted : number + 1 + c ≡ number + (c + 1) = omega arith in
    ap (λ g. run g (number + 1) more) (between_joins done first number (f ++ 92 ∷ []) (joins_front f))
    ∙ (waiting_runs more r t c done f number (number + 1) is ∙ ap (λ n. run (put_line (state done (f ++ 32 ∷ t) number Out)) n r) counted)

-- a raw line more
longer : (number : ℕ) (raw : List ℕ) (raws : List (List ℕ)) → number + 1 + length raws ≡ number + length (raw ∷ raws)
longer number raw raws = omega arith

blanks_run : (blanks more : List (List ℕ)) (done : List Line) (first number : ℕ) → IsTrue (list_all is_blank_line blanks) →
    run (state done [] first First) number (blanks ++ more) ≡ run (state done [] first First) (number + length blanks) more
blanks_run [] more done first number all = ap (λ n. run (state done [] first First) n more) (omega arith)
blanks_run (raw ∷ blanks) more done first number all =
    let p = and_parts (is_blank_line raw) (list_all is_blank_line blanks) all in
    ap (λ g. run g (number + 1) (blanks ++ more)) (take_first done first number raw First (first_blank raw p.0))
    ∙ (blanks_run blanks more done first (number + 1) p.1 ∙ ap (λ n. run (state done [] first First) n more) (longer number raw blanks))

flush_runs : (rest : List (List ℕ)) (done : List Line) (first number : ℕ) → IsFlush rest → run (state done [] first First) number rest ≡ run (state done [] first Out) number rest
flush_runs [] done first number flush = finish_none done first First ∙ sym (finish_none done first Out)
flush_runs (raw ∷ rest) done first number flush =
    ap (λ g. run g (number + 1) rest) (take_first done first number raw Out (first_flush raw flush.0 flush.1) ∙ sym (take_out done [] first number raw))

inside_runs : (more rest : List (List ℕ)) (done : List Line) (first number least : ℕ) → IsTrue (list_all (is_inside least) more) → EndsInside least rest →
    run (state done [] first (Indent least)) number (more ++ rest) ≡ run (state done [] first Out) (number + length more) rest
inside_runs [] [] done first number least all ends = finish_none done first (Indent least) ∙ sym (finish_none done first Out)
inside_runs [] (raw ∷ rest) done first number least all ends =
    let same : number + 1 ≡ number + 0 + 1 = omega arith in
    ap (λ g. run g (number + 1) rest) (take_inside done first number least raw Out (inside_ends least raw ends) ∙ sym (take_out done [] first number raw))
    ∙ ap (λ n. run (state done [] first Out) n (raw ∷ rest)) (omega arith)
inside_runs (raw ∷ more) rest done first number least all ends =
    let p = and_parts (is_inside least raw) (list_all (is_inside least) more) all in
    ap (λ g. run g (number + 1) (more ++ rest)) (take_inside done first number least raw (Indent least) (inside_stays least raw p.0))
    ∙ (inside_runs more rest done first (number + 1) least p.1 ends ∙ ap (λ n. run (state done [] first Out) n rest) (longer number raw more))

-- a block of help gives no line
block_runs : (block rest : List (List ℕ)) (done : List Line) (first number : ℕ) → IsHelpBlock block rest →
    run (state done [] first First) number (block ++ rest) ≡ run (state done [] first Out) (number + length block) rest
block_runs block rest done first number (IsHelpBlock.bare blanks r all flush) = blanks_run blanks r done first number all ∙ flush_runs r done first (number + length blanks) flush
block_runs block rest done first number (IsHelpBlock.indented blanks more r raw all filled some inside ends) =
    let apart : (indent raw == 0) ≡ false = ne_eqb (indent raw) 0 (λ none. absurd (omega (arith, none, some))) in
    let counted : number + length blanks + 1 + length more ≡ number + length (blanks ++ raw ∷ more) = omega (arith, length-append blanks (raw ∷ more)) in
    ap (run (state done [] first First) number) (append_assoc blanks (raw ∷ more) r)
    ∙ (blanks_run blanks (raw ∷ (more ++ r)) done first number all
    ∙ (ap (λ g. run g (number + length blanks + 1) (more ++ r)) (take_first done first (number + length blanks) raw (Indent (indent raw)) (first_indented raw filled apart))
    ∙ (inside_runs more r done first (number + length blanks + 1) (indent raw) inside ends ∙ ap (λ n. run (state done [] first Out) n r) counted)))

pub lines_run : (raws : List (List ℕ)) (found : List Line) (done : List Line) (first number : ℕ) → IsLines number raws found → run (state done [] first Out) number raws ≡ done ++ found
lines_run raws found done first number (IsLines.end n) = finish_none done first Out ∙ sym (append-nil done)
lines_run raws found done first number (IsLines.empty n count r rest text more is none behind) =
    first_runs r rest text count done first n is ∙ (ap (λ g. run g (n + count) rest) (put_empty done text n none) ∙ lines_run rest more done n (n + count) behind)
lines_run raws found done first number (IsLines.line n count r rest text more is some other behind) =
    first_runs r rest text count done first n is
    ∙ (ap (λ g. run g (n + count) rest) (put_full done text n some ∙ ap (λ h. state (done ++ record { number = n; parts = parts text } ∷ []) [] n h) (other_line (parts text) other))
    ∙ (lines_run rest more (done ++ record { number = n; parts = parts text } ∷ []) n (n + count) behind ∙ append_assoc done (record { number = n; parts = parts text } ∷ []) more))
lines_run raws found done first number (IsLines.help n count r block rest text more is help is_block behind) =
    let line = help_line (parts text) help in
    first_runs r (block ++ rest) text count done first n is
    ∙ (ap (λ g. run g (n + count) (block ++ rest)) (put_full done text n line.0 ∙ ap (λ h. state (done ++ record { number = n; parts = parts text } ∷ []) [] n h) line.1)
    ∙ (block_runs block rest (done ++ record { number = n; parts = parts text } ∷ []) n (n + count) is_block
    ∙ (lines_run rest more (done ++ record { number = n; parts = parts text } ∷ []) n (n + count + length block) behind ∙ append_assoc done (record { number = n; parts = parts text } ∷ []) more)))
