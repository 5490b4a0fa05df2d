use Rattle.kc_syntax.specs.Events.{all_events}
use Rattle.kc_syntax.specs.Shown.{shown}
use Rattle.kc_syntax.proofs.Keeps.{run_sound}
use Rattle.kc_syntax.proofs.Menus.{menu_made, menu_fails}
use Rattle.kc_syntax.proofs.read.parse.Goals as goal

pub finish-requires : goal.finish-requires
finish-requires c =
    run_sound (all_events c.args.files.now) (shown c.new-reader.result) (shown c.read_all.new.self) c.new-reader.ensures c.in_default.ensures

pub returns-clause-menu : goal.returns-clause-menu
returns-clause-menu c =
    menu_made c.args.files.now (shown c.new-reader.result) (shown c.read_all.new.self) c.finish.result c.new-reader.ensures c.in_default.ensures c.finish.ensures

pub returns-clause-fault : goal.returns-clause-fault
returns-clause-fault c =
    menu_fails c.args.files.now (shown c.new-reader.result) (shown c.read_all.new.self) c.finish.result c.new-reader.ensures c.in_default.ensures c.finish.ensures
