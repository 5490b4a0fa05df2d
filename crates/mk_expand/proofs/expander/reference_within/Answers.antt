use Rattle.std.proofs.Common.{◌≡◌, Ok, rules}
use Rattle.mk_expand.specs.Vars.{found}
use Rattle.mk_expand.specs.Reference.{text_of, reference_run}
use Rattle.mk_expand.proofs.ByName.{length_of_name}
use Rattle.mk_expand.proofs.expander.reference_within.Goals as goal

pub returns-clause-length : goal.returns-clause-length
returns-clause-length c =
    let vars = found c.args.vars.now in
    let value : text_of (reference_run vars c.args.depth c.args.locals.now c.args.name.now) ≡ Ok c.into_bytes.result = search rules in
    length_of_name vars c.args.depth c.args.locals.now c.args.name.now c.into_bytes.result value
