-- Errors that tell a fault.
use Rattle.std.specs.Prelude.{◌≡◌}
use Rattle.kc_syntax.specs.declared.error.KcFault.{KcFault}
use Rattle.kc_syntax.specs.declared.error.KcError.{KcError}
use Rattle.kc_syntax.specs.declared.error.KcError.TheVariants.{Fault, Memory}

-- the fault is this one, unless memory is wanting
abbrev pub IsFault : KcFault → KcError → Type 0
IsFault fault (Fault told) = told ≡ fault
IsFault fault Memory = Unit {0}
