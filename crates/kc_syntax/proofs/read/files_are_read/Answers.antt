use Rattle.kc_syntax.proofs.Laws.{menu_found, menu_is, fault_found, fault_is, goes_on_whole, front_of_whole}
use Rattle.kc_syntax.proofs.read.files_are_read.Goals as goal

pub returns-clause-menu : goal.returns-clause-menu
returns-clause-menu c = λ files menu. (menu_found files menu, menu_is files menu)

pub returns-clause-fault : goal.returns-clause-fault
returns-clause-fault c = λ files fault. (fault_found files fault, fault_is files fault)

pub returns-clause-onward : goal.returns-clause-onward
returns-clause-onward c = goes_on_whole

pub returns-clause-begun : goal.returns-clause-begun
returns-clause-begun c = front_of_whole
