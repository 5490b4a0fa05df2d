use Rattle.std.proofs.Common.{◌≡◌, drop, fold}
use Rattle.kc_text.specs.Lexer.{step, start}
use Rattle.kc_text.specs.Shown.{shown}
use Rattle.kc_text.proofs.lexer.parts_of.Given as goal

-- the steps that are left lead to where all steps lead
abbrev pub invariant-loop-byte : goal.invariant-loop-byte
invariant-loop-byte l = fold step (shown l.lexer) (drop l.byte-index l.line) ≡ fold step start l.line
