-- What it tells that a program goes through.
use Rattle.std.proofs.Common.{◌≡◌, Bool, true, false, Result, Ok, Err, refl, sym, ap, ◌∙◌}
use Rattle.br_path.specs.declared.area.Area.{Area}
use Rattle.tree_ops.specs.Change.{Change}
use Rattle.tree_ops.specs.declared.change.ChangeFault.TheVariants.{ReadOnly}
use Rattle.tree_worlds.specs.declared.reason.Reason.{Reason}
use Rattle.tree_worlds.specs.declared.reason.Reason.TheVariants.{Change as for_change}
use Rattle.tree_worlds.specs.World.{WorldData, acted}
use Rattle.tree_worlds.specs.Program.{Program, Refuse, ◌>>=◌, Run, run, run_act, go_on}
use Rattle.sh_places.specs.declared.spot.Site.{Site}
use Rattle.sh_places.specs.declared.spot.Site.TheVariants.{Tree, Readable, Input}
use Rattle.sh_places.specs.Parts.{attempt, choose, act_in}
use Rattle.file_laws.specs.Words.{GoesThrough}

pub same_Ok : {A E : Type 0} (x y : A) → ◌≡◌ {A = Result A E} (Ok x) (Ok y) → x ≡ y
same_Ok x y is = cc

-- a fault isn't the end of a program
pub never : {A : Type 0} (fault : Reason × WorldData) (value : A × WorldData) → ◌≡◌ {A = Run A} (Err fault) (Ok value) → ⊥
never fault value is = cc

pub go_on-through : {A B : Type 0} (outcome : Run B) (next : B → WorldData → Run A) (value : A) (new : WorldData) → go_on outcome next ≡ Ok (value, new)
    → (first : B) × (mid : WorldData) × (outcome ≡ Ok (first, mid)) × (next first mid ≡ Ok (value, new))
go_on-through (Ok (first, mid)) next value new is = (first, mid, refl, is)
go_on-through (Err fault) next value new is = cc

-- one program after another
pub then-through : {A B : Type 0} (program : Program B) (next : B → Program A) (old new : WorldData) → GoesThrough (program >>= next) old new
    → (first : B) × (mid : WorldData) × (run program old ≡ Ok (first, mid)) × GoesThrough (next first) mid new
then-through program next old new goes =
    let done = go_on-through (run program old) (λ value. run (next value)) goes.0 new goes.1 in (done.0, done.1, done.2, (goes.0, done.3))

pub attempt-run : {A : Type 0} (outcome : Result A Reason) (old : WorldData) (value : A) (new : WorldData) → run (attempt outcome) old ≡ Ok (value, new) → (outcome ≡ Ok value) × (old ≡ new)
attempt-run {A} (Ok had) old value new is = let same = same_Ok (had, old) (value, new) is in (ap (λ (p : A × WorldData). Ok p.0) same, ap (λ (p : A × WorldData). p.1) same)
attempt-run (Err reason) old value new is = cc

pub attempt-through : {A B : Type 0} (outcome : Result B Reason) (next : B → Program A) (old new : WorldData) → GoesThrough (attempt outcome >>= next) old new
    → (value : B) × (outcome ≡ Ok value) × GoesThrough (next value) old new
attempt-through (Ok value) next old new goes = (value, refl, goes)
attempt-through (Err reason) next old new goes = absurd (never (reason, old) (goes.0, new) goes.1)

-- an outcome that is known
pub known-through : {A B : Type 0} (outcome : Result B Reason) (next : B → Program A) (old new : WorldData) (value : B) → outcome ≡ Ok value → GoesThrough (attempt outcome >>= next) old new → GoesThrough (next value) old new
known-through outcome next old new value is goes = (goes.0, sym (ap (λ o. run (attempt o >>= next) old) is) ∙ goes.1)

pub choose-through : {A : Type 0} (test : Bool) (reason : Reason) (other : Program A) (old new : WorldData) → GoesThrough (choose test (Refuse reason) other) old new → (test ≡ false) × GoesThrough other old new
choose-through true reason other old new goes = absurd (never (reason, old) (goes.0, new) goes.1)
choose-through false reason other old new goes = (refl, goes)

pub act-through : (area : Area) (change : Change) (old : WorldData) (outcome : Result WorldData Reason) (value : Unit {0}) (new : WorldData) → run_act old outcome ≡ Ok (value, new) → outcome ≡ Ok new
act-through area change old (Ok made) value new is = ap (λ (p : Unit {0} × WorldData). Ok p.1) (same_Ok (tt, made) (value, new) is)
act-through area change old (Err reason) value new is = cc

-- a change that goes through is made, in one of the task's trees
pub act_in-through : (site : Site) (change : Change) (old new : WorldData) → GoesThrough (act_in site change) old new → (area : Area) × (site ≡ Tree area) × (acted area change old ≡ Ok new)
act_in-through (Tree area) change old new goes = (area, refl, act-through area change old (acted area change old) goes.0 new goes.1)
act_in-through (Readable task) change old new goes = absurd (never (for_change ReadOnly, old) (goes.0, new) goes.1)
act_in-through Input change old new goes = absurd (never (for_change ReadOnly, old) (goes.0, new) goes.1)
