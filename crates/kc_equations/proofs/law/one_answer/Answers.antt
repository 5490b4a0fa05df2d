use Rattle.kc_equations.proofs.OneAnswer.{one_table, one_fault, not_both}
use Rattle.kc_equations.proofs.law.one_answer.Goals as goal

pub returns : goal.returns
returns c = record {
  values = λ menu wishes values others forced rest. one_table menu wishes values others forced rest;
  fault = λ menu wishes fault other. one_fault menu wishes fault other;
  apart = λ menu wishes values forced fault. not_both menu wishes values forced fault;
}
