use Rattle.std.proofs.Common.{◌≡◌, ◌/◌, ◌∙◌, sym, subst, Contains}
use Rattle.std.specs.List.{All}
use Rattle.std.proofs.lemmas.Result.{IfOk-weaker}
use Rattle.cycle_walks.specs.Walks.{Reaches}
use Rattle.plan_rows.specs.declared.rows.Part.TheVariants.{Prep}
use Rattle.plan_rows.specs.Plan.{IsTask}
use Rattle.recipe_plan.specs.Packages.{ArePackages, depends_on}
use Rattle.recipe_plan.proofs.PackageLaws.{ArePreps, packages_from, preps_within, places_few, reached_depends, reached_below}
use Rattle.recipe_plan.proofs.packages.recursive_depends.Goals as goal

pub preps-requires-clause-few : goal.preps-requires-clause-few
preps-requires-clause-few c =
    let graph = c.in_ok-graph.graph in
    let same : c.as_slice.result.now ≡ c.in_ok-places.places = c.as_slice.ensures.value ∙ c.places.view_is in
    places_few c.args.plan.now graph c.as_slice.result.now c.in_ok-graph.ensures.plan c.in_ok-graph.ensures.count
    (λ place there. reached_below graph (c.args.prep / 2) place c.in_ok-graph.ensures.needs ((c.in_ok-places.ensures.reached place).0 (subst (λ xs. Contains xs place) same there)))

pub returns-clause-packages : goal.returns-clause-packages
returns-clause-packages c =
    let graph = c.in_ok-graph.graph in
    let needs = c.args.plan.now.graph in
    let places = c.as_slice.result.now in
    let prep = c.args.prep in
    let same : places ≡ c.in_ok-places.places = c.as_slice.ensures.value ∙ c.places.view_is in
    IfOk-weaker c.preps.result (ArePreps prep places) (λ tasks. ArePackages prep tasks (Reaches (depends_on needs)))
    (λ tasks are. packages_from (Reaches (depends_on needs)) tasks places prep are (λ other.
    let both = reached_depends graph needs c.in_ok-graph.ensures.names (prep / 2) other in
    let reached = c.in_ok-places.ensures.reached other in (
      λ there. both.0 (reached.0 (subst (λ xs. Contains xs other) same there)),
      λ known. subst (λ xs. Contains xs other) (sym same) (reached.1 (both.1 known)),
    )))
    c.preps.ensures.preps

pub returns-clause-preps : goal.returns-clause-preps
returns-clause-preps c =
    let graph = c.in_ok-graph.graph in
    let places = c.as_slice.result.now in
    let prep = c.args.prep in
    let same : places ≡ c.in_ok-places.places = c.as_slice.ensures.value ∙ c.places.view_is in
    IfOk-weaker c.preps.result (ArePreps prep places) (All (IsTask c.args.plan.now Prep))
    (λ tasks are. preps_within c.args.plan.now graph tasks places prep c.in_ok-graph.ensures.plan c.in_ok-graph.ensures.count are
    (λ place there. reached_below graph (prep / 2) place c.in_ok-graph.ensures.needs ((c.in_ok-places.ensures.reached place).0 (subst (λ xs. Contains xs place) same there))))
    c.preps.ensures.preps
