use Rattle.std.proofs.Common.{◌≡◌, Some, None, refl, sym, ap, ◌∙◌}
use Rattle.std.proofs.lemmas.List.{append-nil}
use Rattle.dot_config.specs.declared.line.Said.TheVariants.{Nothing, Asks}
use Rattle.dot_config.specs.SaidBy.{said_by}
use Rattle.dot_config.proofs.Forms.{said_sound}
use Rattle.dot_config.proofs.Readings.{no_form}
use Rattle.dot_config.proofs.reader.put_wish.Goals as goal

pub returns-in-Some-Nothing-clause-ok : goal.returns-in-Some-Nothing-clause-ok
returns-in-Some-Nothing-clause-ok c =
    let says : said_by c.args.line.now ≡ Some Nothing = sym c.in_ok-said_by.ensures ∙ c.in-Some-Nothing.is ∙ ap Some c.in-Some-Nothing.field-0-is in
    (Nothing, said_sound c.args.line.now Nothing says, sym (append-nil c.args.all.now.items))

pub returns-in_ok-push-in-Some-Asks-clause-ok : goal.returns-in_ok-push-in-Some-Asks-clause-ok
returns-in_ok-push-in-Some-Asks-clause-ok c =
    let says : said_by c.args.line.now ≡ Some (Asks c.in-Some-Asks.symbol c.in-Some-Asks.value) = sym c.in_ok-said_by.ensures ∙ c.in-Some-Asks.is ∙ ap Some c.in-Some-Asks.field-0-is in
    (Asks c.in-Some-Asks.symbol c.in-Some-Asks.value, said_sound c.args.line.now (Asks c.in-Some-Asks.symbol c.in-Some-Asks.value) says, c.in_ok-push-in-Some-Asks.ensures.items)

pub returns-in-None-clause-fault : goal.returns-in-None-clause-fault
returns-in-None-clause-fault c =
    let says : said_by c.args.line.now ≡ None = sym c.in_ok-said_by.ensures ∙ c.in-None.is in
    (refl, no_form c.args.line.now says)
