use Rattle.std.proofs.Common.{◌≡◌, ◌<◌, ◌/◌, true, length, sym, subst, Contains}
use Rattle.std.proofs.lemmas.List.Elements.{All-contains}
use Rattle.std.proofs.lemmas.Result.{IfOk-weaker}
use Rattle.plan_rows.specs.declared.rows.Part.TheVariants.{Prep}
use Rattle.plan_rows.specs.Plan.{IsTask}
use Rattle.std.specs.List.{All}
use Rattle.recipe_plan.specs.Packages.{ArePackages, depends_on}
use Rattle.recipe_plan.proofs.PackageLaws.{ArePreps, packages_from, preps_within, named_depends}
use Rattle.recipe_plan.proofs.packages.depends.Goals as goal

pub returns-clause-packages : goal.returns-clause-packages
returns-clause-packages c =
    let graph = c.in_ok-graph.graph in
    let needs = c.args.plan.now.graph in
    let places = c.needs.result.now in
    let prep = c.args.prep in
    IfOk-weaker c.preps.result (ArePreps prep places) (λ tasks. ArePackages prep tasks (λ place other. depends_on needs place other ≡ true))
    (λ tasks are. packages_from (λ place other. depends_on needs place other ≡ true) tasks places prep are (λ other.
    let both = named_depends graph needs c.in_ok-graph.ensures.names (prep / 2) other in (
      λ there. both.0 (subst (λ xs. Contains xs other) c.needs.ensures.needs there),
      λ known. subst (λ xs. Contains xs other) (sym c.needs.ensures.needs) (both.1 known),
    )))
    c.preps.ensures.preps

pub returns-clause-preps : goal.returns-clause-preps
returns-clause-preps c =
    let graph = c.in_ok-graph.graph in
    let places = c.needs.result.now in
    let prep = c.args.prep in
    IfOk-weaker c.preps.result (ArePreps prep places) (All (IsTask c.args.plan.now Prep))
    (λ tasks are. preps_within c.args.plan.now graph tasks places prep c.in_ok-graph.ensures.plan c.in_ok-graph.ensures.count are
    (λ place there. All-contains (λ need. need < length graph) places place c.needs.ensures.tasks there))
    c.preps.ensures.preps
