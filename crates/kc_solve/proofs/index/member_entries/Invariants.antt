use Rattle.std.proofs.Common.{◌≡◌, drop, map, length}
use Rattle.kc_equations.specs.Behind.{behind}
use Rattle.kc_solve.specs.Groups.{grouped, put_all}
use Rattle.kc_solve.specs.Index.{placed_members}
use Rattle.kc_solve.proofs.index.member_entries.Given as goal

-- those that are left are still to be put
abbrev pub invariant-loop-entry : goal.invariant-loop-entry
invariant-loop-entry l = put_all (map behind l.rows) (placed_members (drop l.entry-index l.entries)) ≡ grouped (length l.choices) (placed_members l.entries)
