use Rattle.kc_syntax.specs.Shown.{shown}
use Rattle.kc_syntax.proofs.Menus.{entries_menu}
use Rattle.kc_syntax.proofs.reader.Reader.finish.Goals as goal

pub new-requires : goal.new-requires
new-requires c = entries_menu (shown c.args.self) c.in-Ok.entries c.requires c.in-Ok.ensures
