-- Programs that make changes of some kinds alone, and what they keep.
use Rattle.std.proofs.Common.{◌≡◌, Bool, true, false, List, [], ◌∷◌, Result, Ok, Err, refl}
use Rattle.br_path.specs.declared.area.Area.{Area}
use Rattle.tree_ops.specs.Change.{Change}
use Rattle.tree_worlds.specs.declared.reason.Reason.{Reason}
use Rattle.tree_worlds.specs.World.{WorldData, acted}
use Rattle.tree_worlds.specs.Program.{Program, Done, Refuse, Look, Act, ◌>>=◌, Run, run, run_act, go_on}
use Rattle.tree_worlds.specs.Kept.{left_by}
use Rattle.sh_places.specs.declared.spot.Site.{Site}
use Rattle.sh_places.specs.declared.spot.Site.TheVariants.{Tree, Readable, Input}
use Rattle.sh_places.specs.Parts.{attempt, choose, each, act_in}

-- each change that a program can make is of a kind
abbrev pub Makes : {A : Type 0} → (Area → Change → Type 0) → Program A → Type 0
Makes kind (Done value) = Unit {0}
Makes kind (Refuse reason) = Unit {0}
Makes kind Look = Unit {0}
Makes kind (Act area change) = kind area change
Makes kind (program >>= next) = Makes kind program × ((value : _) → Makes kind (next value))

-- a relation between worlds that holds of each with itself, of steps in a row, and of each change of a kind
pub record IsKeptBy (kind : Area → Change → Type 0) (kept : WorldData → WorldData → Type 0) : Type 0 where
  pub same : (world : WorldData) → kept world world
  pub chain : (first next last : WorldData) → kept first next → kept next last → kept first last
  pub act : (area : Area) (change : Change) (old new : WorldData) → kind area change → acted area change old ≡ Ok new → kept old new

module _ (kind : Area → Change → Type 0) (kept : WorldData → WorldData → Type 0) (law : IsKeptBy kind kept) where
  kept_by_act : (area : Area) (change : Change) (old : WorldData) (outcome : Result WorldData Reason) → kind area change → acted area change old ≡ outcome → kept old (left_by (run_act old outcome))
  kept_by_act area change old (Ok new) of is = law.act area change old new of is
  kept_by_act area change old (Err reason) of is = law.same old

  kept_on : {A B : Type 0} (old : WorldData) (outcome : Run B) (next : B → WorldData → Run A)
      → kept old (left_by outcome) → ((value : B) (world : WorldData) → kept world (left_by (next value world))) → kept old (left_by (go_on outcome next))
  kept_on old (Ok (value, world)) next first then = law.chain old world _ first (then value world)
  kept_on old (Err (reason, world)) next first then = first

  -- what each change of a kind keeps, each program with such changes alone keeps, wherever it ends
  pub kept-Makes : {A : Type 0} (program : Program A) → Makes kind program → (world : WorldData) → kept world (left_by (run program world))
  kept-Makes (Done value) of world = law.same world
  kept-Makes (Refuse reason) of world = law.same world
  kept-Makes Look of world = law.same world
  kept-Makes (Act area change) of world = kept_by_act area change world (acted area change world) of refl
  kept-Makes (program >>= next) of world =
      kept_on world (run program world) (λ value. run (next value)) (kept-Makes program of.0 world) (λ value. kept-Makes (next value) (of.1 value))

-- the parts of programs
module _ (kind : Area → Change → Type 0) where
  pub Makes-attempt : {A : Type 0} (outcome : Result A Reason) → Makes kind (attempt outcome)
  Makes-attempt (Ok value) = tt
  Makes-attempt (Err reason) = tt

  pub Makes-choose : {A : Type 0} (test : Bool) (one other : Program A) → Makes kind one → Makes kind other → Makes kind (choose test one other)
  Makes-choose true one other first second = first
  Makes-choose false one other first second = second

  pub Makes-each : {A : Type 0} (program : A → Program (Unit {0})) → ((item : A) → Makes kind (program item)) → (items : List A) → Makes kind (each program items)
  Makes-each program all [] = tt
  Makes-each program all (item ∷ items) = (all item, λ _. Makes-each program all items)

  pub Makes-act_in : (site : Site) (change : Change) → ((area : Area) → site ≡ Tree area → kind area change) → Makes kind (act_in site change)
  Makes-act_in (Tree area) change of = of area refl
  Makes-act_in (Readable task) change of = tt
  Makes-act_in Input change of = tt
