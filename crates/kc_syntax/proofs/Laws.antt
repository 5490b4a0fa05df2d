-- The menu and the first fault of the files, as a run gives them and as the grammar has them.
use Rattle.std.proofs.Common.{◌≡◌, List, [], ◌++◌, Result, Ok, Err, refl, ap, ◌∙◌}
use Rattle.br_path.specs.Files.{FileMap}
use Rattle.kc_menu.specs.Menu.{Declared}
use Rattle.kc_syntax.specs.declared.error.KcFault.{KcFault}
use Rattle.kc_syntax.specs.Events.{Event, all_events}
use Rattle.kc_syntax.specs.State.{State, start}
use Rattle.kc_syntax.specs.Step.{Outcome}
use Rattle.kc_syntax.specs.Reading.{run, closed, menu_of, ◌>>=◌}
use Rattle.kc_syntax.specs.Grammar.{IsRead, nothing, IsMenuOf, IsFront, whole, IsFirstFault, at_a_line, at_the_end}
use Rattle.kc_syntax.proofs.Matching.{read_run, goes_on, front_whole, IsCut, cut, stops, cut_run, GoesOn, goes, onward}
use Rattle.kc_syntax.proofs.Nested.{all_closed, IsSplit, split, run_split}

begun : IsFront [] start
begun = whole [] start (nothing start)

-- files that are gone through are read whole
files_whole : (files : FileMap) (t : State) → run (all_events files) start ≡ Ok t → IsRead start (all_events files) t
files_whole files t e = front_whole (all_events files) t (goes_on (all_events files) [] start t begun e) (all_closed files t e)

pub menu_found : (files : FileMap) (menu : Declared) → IsMenuOf files menu → menu_of files ≡ Ok menu
unfolding menu_of
menu_found files menu is = ap (λ o. o >>= closed) (read_run start is.0 (all_events files) is.1) ∙ is.2

pub menu_is : (files : FileMap) (menu : Declared) → menu_of files ≡ Ok menu → IsMenuOf files menu
unfolding menu_of
menu_is files menu e = by (run (all_events files) start) refl e
  where
    by : (o : Outcome) → run (all_events files) start ≡ o → (o >>= closed) ≡ Ok menu → IsMenuOf files menu
    by (Ok t) is e = (t, files_whole files t is, e)
    by (Err fault) is e = absurd (cc)

pub fault_found : (files : FileMap) (fault : KcFault) → IsFirstFault files fault → menu_of files ≡ Err fault
unfolding menu_of
fault_found files fault (at_a_line front back event s apart is_front e) =
    ap (λ o. o >>= closed) (cut_run (all_events files) front back event s fault apart is_front e)
fault_found files fault (at_the_end end read e) = ap (λ o. o >>= closed) (read_run start end (all_events files) read) ∙ e

pub fault_is : (files : FileMap) (fault : KcFault) → menu_of files ≡ Err fault → IsFirstFault files fault
unfolding menu_of
fault_is files fault e = by (run (all_events files) start) refl e
  where
    of : IsCut (all_events files) fault → IsFirstFault files fault
    of (cut front back event s apart is_front e) = at_a_line front back event s apart is_front e

    by : (o : Outcome) → run (all_events files) start ≡ o → (o >>= closed) ≡ Err fault → IsFirstFault files fault
    by (Ok t) is e = at_the_end t (files_whole files t is) e
    by (Err other) is e = let same : run (all_events files) start ≡ Err fault = cc in of (stops (all_events files) [] start fault begun same)

pub goes_on_whole : (front : List Event) (s : State) → IsFront front s → (back : List Event) × ((last : State) × IsRead start (front ++ back) last)
goes_on_whole front s is_front = of (onward s.blocks front s is_front refl)
  where
    of : GoesOn front → (back : List Event) × ((last : State) × IsRead start (front ++ back) last)
    of (goes back last read) = (back, (last, read))

pub front_of_whole : (front back : List Event) (last : State) → IsRead start (front ++ back) last → (s : State) × IsFront front s
front_of_whole front back last read = of (run_split front back start last (read_run start last (front ++ back) read))
  where
    of : IsSplit front back start last → (s : State) × IsFront front s
    of (split s first rest) = (s, goes_on front [] start s begun first)
