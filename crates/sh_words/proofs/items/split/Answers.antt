use Rattle.std.proofs.Common.{◌≡◌, true, false, Ok, sym, ap, ◌∙◌, rules}
use Rattle.std.proofs.lemmas.Result.{err_from_is_err_and}
use Rattle.br_path.specs.Gives.{◌>>=◌}
use Rattle.sh_words.specs.Bytes.{is_over}
use Rattle.sh_words.specs.Lines.{item, line_of}
use Rattle.sh_words.specs.Shown.{shown}
use Rattle.sh_words.proofs.Repeats.{repeated_step, repeated_done, repeated_fault}
use Rattle.sh_words.proofs.LineLaws.{line_shrinks}
use Rattle.sh_words.proofs.items.split.Goals as goal

pub loop-reader-smaller : goal.loop-reader-smaller
loop-reader-smaller c =
    let more : is_over c.loop-reader.reader.rest.now ≡ false = search rules in
    line_shrinks.shrinks c.loop-reader.line c.item.new.line (shown c.loop-reader.reader) (shown c.item.new.self) more c.in_ok-item.ensures

pub loop-reader-preserved : goal.loop-reader-preserved
loop-reader-preserved c =
    let more : is_over c.loop-reader.reader.rest.now ≡ false = search rules in
    sym (repeated_step is_over item line_shrinks c.loop-reader.line c.item.new.line (shown c.loop-reader.reader) (shown c.item.new.self) more c.in_ok-item.ensures)
    ∙ c.loop-reader.invariant

pub returns-in_err-item : goal.returns-in_err-item
unfolding line_of
returns-in_err-item c =
    let more : is_over c.loop-reader.reader.rest.now ≡ false = search rules in
    let p = err_from_is_err_and c.from_residual.result c.from_residual.ensures.1 in
    rw (p.1, p.2)
    (λ free. ap (λ r. r >>= λ done. Ok done.0)
    (sym c.loop-reader.invariant ∙ repeated_fault is_over item line_shrinks c.loop-reader.line (shown c.loop-reader.reader) c.in_err-item.field-0.0 more (c.in_err-item.ensures free)))

pub returns : goal.returns
unfolding line_of
returns c =
    let over : is_over c.loop-reader.reader.rest.now ≡ true = search rules in
    ap (λ r. r >>= λ done. Ok done.0)
    (sym c.loop-reader.invariant ∙ repeated_done is_over item line_shrinks c.loop-reader.line (shown c.loop-reader.reader) over)
