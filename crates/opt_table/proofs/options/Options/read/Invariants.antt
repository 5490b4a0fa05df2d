use Rattle.std.proofs.Common.{◌≡◌, ◌+◌, length}
use Rattle.opt_table.specs.Reading.{behind, options_of, words_from}
use Rattle.opt_table.proofs.options.Options.read.Given as goal

abbrev pub invariant-loop-word : goal.invariant-loop-word
invariant-loop-word l = record {
  meant : behind l.self (words_from l.rows l.rest l.place l.waiting) ≡ behind l.fn.self (options_of l.rows l.words);
  place : l.place + length l.rest ≡ length l.words;
}

abbrev pub decreases-loop-word : goal.decreases-loop-word
decreases-loop-word l = length l.rest
