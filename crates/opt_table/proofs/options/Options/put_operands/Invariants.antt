use Rattle.std.proofs.Common.{◌≡◌, ◌++◌, take}
use Rattle.opt_table.proofs.options.Options.put_operands.Given as goal

abbrev pub invariant-loop-word : goal.invariant-loop-word
invariant-loop-word l = record {
  given : l.self-inside.given.items ≡ l.fn.self.given;
  operands : l.self-inside.operands.items ≡ l.fn.self.operands ++ take l.word-index l.words;
}
