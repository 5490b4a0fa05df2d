use Rattle.kc_equations.proofs.Runs.{one_solution}
use Rattle.kc_equations.proofs.law.one_solution.Goals as goal

pub returns : goal.returns
returns c = λ menu wishes acyclic. one_solution menu wishes acyclic
