use Rattle.std.proofs.Common.{sym, ap, subst, ◌∙◌}
use Rattle.kc_menu.specs.Wishes.{AreWishes}
use Rattle.dot_config.specs.Reading.{last_wishes}
use Rattle.dot_config.proofs.Last.{last_are_wishes}
use Rattle.dot_config.proofs.reader.read.Goals as goal

pub new-requires : goal.new-requires
new-requires c =
    let made = c.in_ok-all.ensures.wishes in
    subst AreWishes (sym (c.in_ok-last_wishes.ensures ∙ ap last_wishes made.made)) (last_are_wishes made.said)
