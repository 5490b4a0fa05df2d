use Rattle.std.proofs.Common.{◌≡◌, ◌/◌, ◌∙◌, true, sym, subst, Contains}
use Rattle.std.specs.List.{All}
use Rattle.std.proofs.lemmas.Result.{IfOk-weaker}
use Rattle.plan_rows.specs.declared.rows.Part.TheVariants.{Prep}
use Rattle.plan_rows.specs.Plan.{IsTask}
use Rattle.recipe_plan.specs.Packages.{ArePackages, depends_on}
use Rattle.recipe_plan.proofs.PackageLaws.{ArePreps, packages_from, preps_within, places_few, named_depends, needing_below}
use Rattle.recipe_plan.proofs.packages.rdepends.Goals as goal

pub preps-requires-clause-few : goal.preps-requires-clause-few
preps-requires-clause-few c =
    let graph = c.in_ok-graph.graph in
    let same : c.as_slice.result.now ≡ c.in_ok-places.places = c.as_slice.ensures.value ∙ c.places.view_is in
    places_few c.args.plan.now graph c.as_slice.result.now c.in_ok-graph.ensures.plan c.in_ok-graph.ensures.count
    (λ place there. needing_below graph place (c.args.prep / 2) ((c.in_ok-places.ensures.users place).0 (subst (λ xs. Contains xs place) same there)))

pub returns-clause-packages : goal.returns-clause-packages
returns-clause-packages c =
    let graph = c.in_ok-graph.graph in
    let needs = c.args.plan.now.graph in
    let places = c.as_slice.result.now in
    let prep = c.args.prep in
    let same : places ≡ c.in_ok-places.places = c.as_slice.ensures.value ∙ c.places.view_is in
    IfOk-weaker c.preps.result (ArePreps prep places) (λ tasks. ArePackages prep tasks (λ place user. depends_on needs user place ≡ true))
    (λ tasks are. packages_from (λ place user. depends_on needs user place ≡ true) tasks places prep are (λ user.
    let both = named_depends graph needs c.in_ok-graph.ensures.names user (prep / 2) in
    let users = c.in_ok-places.ensures.users user in (
      λ there. both.0 (users.0 (subst (λ xs. Contains xs user) same there)),
      λ known. subst (λ xs. Contains xs user) (sym same) (users.1 (both.1 known)),
    )))
    c.preps.ensures.preps

pub returns-clause-preps : goal.returns-clause-preps
returns-clause-preps c =
    let graph = c.in_ok-graph.graph in
    let places = c.as_slice.result.now in
    let prep = c.args.prep in
    let same : places ≡ c.in_ok-places.places = c.as_slice.ensures.value ∙ c.places.view_is in
    IfOk-weaker c.preps.result (ArePreps prep places) (All (IsTask c.args.plan.now Prep))
    (λ tasks are. preps_within c.args.plan.now graph tasks places prep c.in_ok-graph.ensures.plan c.in_ok-graph.ensures.count are
    (λ place there. needing_below graph place (prep / 2) ((c.in_ok-places.ensures.users place).0 (subst (λ xs. Contains xs place) same there))))
    c.preps.ensures.preps
