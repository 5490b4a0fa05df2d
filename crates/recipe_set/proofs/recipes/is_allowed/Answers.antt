use Rattle.std.proofs.Common.{◌≡◌, true, rules}
use Rattle.recipe_set.specs.Names.{is_package_name, upper_form}
use Rattle.recipe_set.proofs.Allowed.{allowed_new, forms_more}
use Rattle.recipe_set.proofs.recipes.is_allowed.Goals as goal

pub returns-clause-allowed : goal.returns-clause-allowed
returns-clause-allowed c earlier are =
    let named : is_package_name c.args.name.now ≡ true = search rules in
    let form : c.in_ok-form.form ≡ upper_form c.args.name.now = search rules in
    allowed_new earlier c.args.name.now _ c.args.forms.now _ are form named c.in_ok-insert.ensures.added

pub returns-clause-forms : goal.returns-clause-forms
returns-clause-forms c earlier are allowed =
    let form : c.in_ok-form.form ≡ upper_form c.args.name.now = search rules in
    forms_more earlier c.args.name.now _ c.args.forms.now _ are form c.in_ok-insert.ensures.updates.0
