-- A reference by name is exact.
use Rattle.std.proofs.Common.{ℕ, List}
use Rattle.mk_expand.specs.declared.locals.Local.{Local}
use Rattle.mk_expand.specs.Meaning.{Environment}
use Rattle.mk_expand.specs.Reference.{inner_limit, reference_answer, ReferenceIsExact}
use Rattle.mk_expand.proofs.ByName.{value_of_name, name_of_value, fault_of_name, name_of_fault, held_of_name}
use Rattle.mk_expand.proofs.Spelled.{answer_of_value, value_of_answer, answer_of_fault, fault_of_answer}

pub reference_is_exact : (vars : Environment) (locals : List Local) (name : List ℕ) → ReferenceIsExact vars locals name
unfolding reference_answer
reference_is_exact vars locals name = record {
  value = λ bytes. (value_of_name vars inner_limit locals name bytes, name_of_value vars inner_limit locals name bytes);
  fault = λ cause. (fault_of_name vars inner_limit locals name cause, name_of_fault vars inner_limit locals name cause);
  held = held_of_name vars inner_limit locals name;
  spelled = λ plain bytes. (answer_of_value vars inner_limit locals name plain bytes, value_of_answer vars inner_limit locals name plain bytes);
  spelled_fault = λ plain cause. (answer_of_fault vars inner_limit locals name plain cause, fault_of_answer vars inner_limit locals name plain cause);
}
