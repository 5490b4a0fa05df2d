use Rattle.opt_table.proofs.ByRule.{rule-read, rule-fault, read-rule, fault-rule}
use Rattle.opt_table.proofs.reading.reading_is_by_the_rule.Goals as goal

pub returns-clause-read : goal.returns-clause-read
returns-clause-read c rows words read rising = (read-rule rows words read, rule-read rows rising)

pub returns-clause-fault : goal.returns-clause-fault
returns-clause-fault c rows words fault rising = (fault-rule rows words fault, rule-fault rows rising)
