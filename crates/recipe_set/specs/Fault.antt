-- Faults of plans.
use Rattle.std.specs.Prelude.{◌≢◌}
use Rattle.mk_expand.specs.declared.fault.ExpandFault.TheVariants.{Memory as no_memory}
use Rattle.recipe_set.specs.declared.fault.PlanFault.{PlanFault}
use Rattle.recipe_set.specs.declared.fault.PlanFault.TheVariants.{Expand}

-- the fault of a text, where it is one, isn't out of memory
abbrev pub HoldsNoMemory : PlanFault → Type 0
HoldsNoMemory (Expand package_name variable fault) = fault ≢ no_memory
HoldsNoMemory _ = Unit {0}
