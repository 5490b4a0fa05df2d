use Rattle.std.proofs.Common.{◌≡◌, ◌++◌, map}
use Rattle.selection.proofs.words.in_order.Given as goal

-- the words that are left are still to come
abbrev pub invariant-loop-items : goal.invariant-loop-items
invariant-loop-items l = l.names.items ++ map (λ key. key.items) l.items-iterator ≡ map (λ key. key.items) l.fn.set.keys
