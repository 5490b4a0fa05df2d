use Rattle.std.proofs.Common.{rules, ◌≡◌, ◌≤◌, ◌+◌, ◌++◌, ◌∷◌, [], length, refl, sym, subst}
use Rattle.std.proofs.lemmas.List.Elements.{All-push}
use Rattle.task_shelves.specs.declared.shelf.Shelf.TheVariants.{Skipped}
use Rattle.serial_build.proofs.Empty.{AreNone, none_at, none_sealed}
use Rattle.serial_build.proofs.outcomes.Outcomes.none.Goals as goal

pub loop-preserved : goal.loop-preserved
loop-preserved g c =
    let items : c.push.new.self.items ≡ c.loop.items.items ++ Skipped 0 ∷ [] = search rules in
    let count : length c.push.new.self.items ≡ c.loop.counter + 1 = search rules in
    record { count = count; none = subst AreNone (sym items) (All-push (λ shelf. shelf ≡ Skipped 0) c.loop.items.items (Skipped 0) c.loop.invariant.none refl) }

pub invariant_of-result : goal.invariant_of-result
invariant_of-result g c =
    let few : length c.loop.items.items ≤ 512 = search rules in
    (few, none_sealed g.T.TreeOps.tree g.T.TreeOps.sealed c.loop.items.items c.loop.invariant.none)

pub returns-clause-none : goal.returns-clause-none
returns-clause-none g c = none_at g.T.TreeOps.tree c.loop.items.items c.loop.invariant.none
