use Rattle.std.proofs.Common.{◌≡◌, ◌++◌, ◌∷◌, [], drop, map}
use Rattle.sh_text.specs.Editing.{edited_lines}
use Rattle.sh_text.proofs.script.Script.put_lines.Given as goal

abbrev pub invariant-loop-line : goal.invariant-loop-line
invariant-loop-line l =
    l.fn.out.items ++ edited_lines l.self (map (λ line. line.now) l.lines) ≡ l.out.items ++ edited_lines l.self (map (λ line. line.now) (drop l.line-index l.front) ++ l.last.now ∷ [])
