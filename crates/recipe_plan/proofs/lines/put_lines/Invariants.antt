use Rattle.std.proofs.Common.{◌≡◌, ◌++◌, map}
use Rattle.std.specs.Prelude.{filter}
use Rattle.recipe_plan.specs.Lines.{command_line, is_filled_line}
use Rattle.recipe_plan.proofs.lines.put_lines.Given as goal

-- the lines of the parts that came stand after the others
abbrev pub invariant-loop-line : goal.invariant-loop-line
invariant-loop-line l = l.lines.items ≡ l.fn.lines.items ++ map command_line (filter is_filled_line (map (λ line. line.now) l.yielded))
