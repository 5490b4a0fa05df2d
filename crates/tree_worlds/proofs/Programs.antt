-- What all programs keep.
use Rattle.std.proofs.Common.{◌≡◌, Result, Ok, Err, refl}
use Rattle.br_path.specs.declared.area.Area.{Area}
use Rattle.tree_ops.specs.Change.{Change}
use Rattle.tree_worlds.specs.declared.reason.Reason.{Reason}
use Rattle.tree_worlds.specs.World.{WorldData, acted}
use Rattle.tree_worlds.specs.Program.{Program, Done, Refuse, Look, Act, ◌>>=◌, Run, run, run_act, go_on}
use Rattle.tree_worlds.specs.Kept.{IsKept, left_by}

kept_by_act : (kept : WorldData → WorldData → Type 0) → IsKept kept → (area : Area) (change : Change) (old : WorldData) (outcome : Result WorldData Reason) → acted area change old ≡ outcome → kept old (left_by (run_act old outcome))
kept_by_act kept law area change old (Ok new) is = law.act area change old new is
kept_by_act kept law area change old (Err reason) is = law.same old

kept_on : {A B : Type 0} (kept : WorldData → WorldData → Type 0) → IsKept kept → (old : WorldData) (outcome : Run B) (next : B → WorldData → Run A)
    → kept old (left_by outcome) → ((value : B) (world : WorldData) → kept world (left_by (next value world))) → kept old (left_by (go_on outcome next))
kept_on kept law old (Ok (value, world)) next first then = law.chain old world _ first (then value world)
kept_on kept law old (Err (reason, world)) next first then = first

-- what each change keeps, each program keeps, wherever it ends
pub kept_by_run : {A : Type 0} (kept : WorldData → WorldData → Type 0) → IsKept kept → (program : Program A) (world : WorldData) → kept world (left_by (run program world))
kept_by_run kept law (Done value) world = law.same world
kept_by_run kept law (Refuse reason) world = law.same world
kept_by_run kept law Look world = law.same world
kept_by_run kept law (Act area change) world = kept_by_act kept law area change world (acted area change world) refl
kept_by_run kept law (program >>= next) world =
    kept_on kept law world (run program world) (λ value. run (next value)) (kept_by_run kept law program world) (λ value. kept_by_run kept law (next value))
