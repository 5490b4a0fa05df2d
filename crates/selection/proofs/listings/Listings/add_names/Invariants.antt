use Rattle.std.proofs.Common.{◌≡◌, ◌++◌, drop, map}
use Rattle.selection.proofs.listings.Listings.add_names.Given as goal

-- the names that are left are still to come
abbrev pub invariant-loop-name : goal.invariant-loop-name
invariant-loop-name l = l.self ++ map (λ name. (l.owner, name)) (drop l.name-index l.names) ≡ l.fn.self ++ map (λ name. (l.owner, name)) l.names
