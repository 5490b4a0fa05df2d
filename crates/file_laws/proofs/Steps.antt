-- Programs in a row, with the value at their end.
use Rattle.std.proofs.Common.{◌≡◌, Result, Ok, Err, refl, sym, ap, ◌∙◌}
use Rattle.tree_worlds.specs.declared.reason.Reason.{Reason}
use Rattle.tree_worlds.specs.World.{WorldData}
use Rattle.tree_worlds.specs.Program.{Program, ◌>>=◌, run}
use Rattle.sh_places.specs.Parts.{attempt}
use Rattle.file_laws.proofs.Through.{go_on-through, never}

pub then-run : {A B : Type 0} (program : Program B) (next : B → Program A) (old new : WorldData) (value : A) → run (program >>= next) old ≡ Ok (value, new)
    → (first : B) × (mid : WorldData) × (run program old ≡ Ok (first, mid)) × (run (next first) mid ≡ Ok (value, new))
then-run program next old new value is = go_on-through (run program old) (λ first. run (next first)) value new is

pub attempt-then : {A B : Type 0} (outcome : Result B Reason) (next : B → Program A) (old new : WorldData) (value : A) → run (attempt outcome >>= next) old ≡ Ok (value, new)
    → (first : B) × (outcome ≡ Ok first) × (run (next first) old ≡ Ok (value, new))
attempt-then (Ok first) next old new value is = (first, refl, is)
attempt-then (Err reason) next old new value is = absurd (never (reason, old) (value, new) is)

pub known-run : {A B : Type 0} (outcome : Result B Reason) (next : B → Program A) (old new : WorldData) (value : A) (first : B) → outcome ≡ Ok first → run (attempt outcome >>= next) old ≡ Ok (value, new)
    → run (next first) old ≡ Ok (value, new)
known-run outcome next old new value first known is = sym (ap (λ o. run (attempt o >>= next) old) known) ∙ is
