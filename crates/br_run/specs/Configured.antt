-- The configuration that files state, or its first fault.
use Rattle.std.specs.Prelude.{◌≡◌, ◌≢◌, ℕ, List, [], ◌∷◌, Ok, Err, unwrap_or, codes}
use Rattle.std.specs.FinMap as fin
use Rattle.br_path.specs.Files.{FileMap}
use Rattle.kc_values.specs.Values.{Table}
use Rattle.kc_menu.specs.Menu.{Declared}
use Rattle.kc_menu.specs.declared.wishes.Wish.{Wish}
use Rattle.kc_syntax.specs.declared.error.KcFault.{KcFault}
use Rattle.kc_syntax.specs.Reading.{menu_of}
use Rattle.dot_config.specs.Reading.{IsReading, IsFirstFault as IsFirstWishFault}
use Rattle.kc_equations.specs.declared.fault.SolveFault.{SolveFault}
use Rattle.kc_equations.specs.declared.fault.SolveFault.TheVariants.{Memory}
use Rattle.kc_equations.specs.Faults.{IsSolved, IsFirstFault as IsFirstSolveFault}
use Rattle.br_run.specs.declared.configuration.Configuration.{Configuration}
use Rattle.build_report.specs.declared.fault.InputFault.{InputFault}
use Rattle.build_report.specs.declared.fault.InputFault.TheVariants.{Menu, Wish as BadWish, Solve}

-- the text of the wishes: a missing `.config` is an empty one
abbrev pub wishes_text : FileMap → List ℕ
wishes_text files = unwrap_or (fin.get files (codes ".config" ∷ [])) []

-- these values solve a menu and the wishes that a text states, and these symbols are forced
pub record IsSolution (menu : Declared) (text : List ℕ) (values : Table) (forced : List (List ℕ)) : Type 0 where
  pub wishes : List Wish
  pub read : IsReading text wishes
  pub solved : IsSolved menu wishes values forced

-- the configuration of files: the menu that they declare, the values that solve it and the wishes of `.config`, and the symbols that are forced
pub record IsConfiguration (files : FileMap) (configuration : Configuration) : Type 0 where
  pub menu : menu_of files ≡ Ok configuration.menu
  pub values : IsSolution configuration.menu (wishes_text files) configuration.values configuration.forced

-- why a menu and a text of wishes have no solution: the first line that is none, or else the first fault of the wishes
pub data HasNoSolution (menu : Declared) (text : List ℕ) : InputFault → List (List ℕ) → Type 0 where
  unread : (line : ℕ) → IsFirstWishFault text line → HasNoSolution menu text (BadWish line) []
  unsolved : (wishes : List Wish) (fault : SolveFault) → IsReading text wishes → IsFirstSolveFault menu wishes fault → fault ≢ Memory →
      HasNoSolution menu text (Solve fault) []

-- the first fault of the configuration of files: that of the files that declare the menu, or else why it has no solution
pub data IsConfigFault (files : FileMap) : InputFault → List (List ℕ) → Type 0 where
  no_menu : (fault : KcFault) → menu_of files ≡ Err fault → IsConfigFault files (Menu fault) []
  no_solution : (menu : Declared) {fault : InputFault} {names : List (List ℕ)} → menu_of files ≡ Ok menu → HasNoSolution menu (wishes_text files) fault names → IsConfigFault files fault names
