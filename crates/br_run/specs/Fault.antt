-- Why an input has no answer but its fault.
use Rattle.std.specs.Prelude.{ℕ, List}
use Rattle.build_report.specs.declared.fault.InputFault.{InputFault}
use Rattle.build_report.specs.Faults as report
use Rattle.br_run.specs.declared.fault.NoAnswer.{NoAnswer}
use Rattle.br_run.specs.declared.fault.NoAnswer.TheVariants.{Fault, Memory}

-- faults, each with the names that its line takes: those of the tasks for a cycle of them, and none for any other fault
abbrev pub Faults : Type 1
Faults = InputFault → List (List ℕ) → Type 0

-- a fault is one of these; out of memory may come whatever they are
abbrev pub Tells : Faults → NoAnswer → Type 0
Tells AreFaults (Fault fault names) = AreFaults fault names
Tells AreFaults Memory = Unit {0}

-- a fault has a line
abbrev pub HasLine : NoAnswer → Type 0
HasLine (Fault fault names) = report.HasLine names fault
HasLine Memory = Unit {0}
