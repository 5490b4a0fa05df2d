use Rattle.std.proofs.Common.{◌≡◌, true, false, [], sym, ap, ◌∙◌, rules}
use Rattle.std.proofs.lemmas.Result.{err_from_is_err_and}
use Rattle.sh_words.specs.Left.{repeated}
use Rattle.sh_words.specs.Bytes.{ends_word}
use Rattle.sh_words.specs.Words.{piece, word_unless, word_of}
use Rattle.sh_words.specs.Shown.{shown}
use Rattle.sh_words.proofs.Repeats.{repeated_step, repeated_done, repeated_fault}
use Rattle.sh_words.proofs.PieceLaws.{word_shrinks}
use Rattle.sh_words.proofs.reader.Reader.word.Goals as goal

pub loop-self-smaller : goal.loop-self-smaller
loop-self-smaller c =
    let more : ends_word c.loop-self.self.rest.now ≡ false = search rules in
    word_shrinks.shrinks c.loop-self.word.items c.piece.new.word.items (shown c.loop-self.self) (shown c.piece.new.self) more c.in_ok-piece.ensures

pub loop-self-preserved : goal.loop-self-preserved
loop-self-preserved c =
    let more : ends_word c.loop-self.self.rest.now ≡ false = search rules in
    sym (repeated_step ends_word piece word_shrinks c.loop-self.word.items c.piece.new.word.items (shown c.loop-self.self) (shown c.piece.new.self) more c.in_ok-piece.ensures)
    ∙ c.loop-self.invariant

pub returns-in_err-piece : goal.returns-in_err-piece
unfolding word_of
returns-in_err-piece c =
    let more : ends_word c.loop-self.self.rest.now ≡ false = search rules in
    let whole : word_of (shown c.args.self.now) ≡ repeated ends_word piece [] (shown c.args.self.now) = ap (λ o. word_unless o (shown c.args.self.now)) (sym c.in_default.ensures) in
    let p = err_from_is_err_and c.from_residual.result c.from_residual.ensures.1 in
    rw (p.1, p.2)
    (λ free. whole ∙ (sym c.loop-self.invariant ∙ repeated_fault ends_word piece word_shrinks c.loop-self.word.items (shown c.loop-self.self) c.in_err-piece.field-0.0 more (c.in_err-piece.ensures free)))

pub returns : goal.returns
unfolding word_of
returns c =
    let over : ends_word c.loop-self.self.rest.now ≡ true = search rules in
    let whole : word_of (shown c.args.self.now) ≡ repeated ends_word piece [] (shown c.args.self.now) = ap (λ o. word_unless o (shown c.args.self.now)) (sym c.in_default.ensures) in
    whole ∙ (sym c.loop-self.invariant ∙ repeated_done ends_word piece word_shrinks c.loop-self.word.items (shown c.loop-self.self) over)
