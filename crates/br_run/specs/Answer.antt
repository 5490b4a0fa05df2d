-- What the builder answers to words and to the files of a feed.
use Rattle.std.specs.Prelude.{◌≡◌, ◌≢◌, ℕ, ◌⊎◌, Bool, true, false, ◌==◌, ◌&&◌, not, List, [], ◌++◌, None, codes}
use Rattle.br_path.specs.Files.{FileMap}
use Rattle.br_words.specs.declared.command.Words.{Words}
use Rattle.br_words.specs.declared.command.Words.TheVariants.{Build, Config, Plan, ShowDepends, ShowRecursive, ShowRdepends}
use Rattle.br_words.specs.Command.{IsCommand, IsMisfit}
use Rattle.build_report.specs.declared.fault.InputFault.{InputFault}
use Rattle.build_report.specs.declared.fault.InputFault.TheVariants.{Read}
use Rattle.build_report.specs.Faults.{fault_text}
use Rattle.build_report.specs.Lines.{status_line}
use Rattle.build_report.specs.Plans.{plan_text, names_text}
use Rattle.dot_config.specs.Writing.{config_text}
use Rattle.feed_io.specs.declared.feed.FeedFile.{FeedFile}
use Rattle.feed_io.specs.declared.read.ReadFault.{ReadFault}
use Rattle.feed_io.specs.Reading.{IsFaultless, IsFirstReadFault, files_of}
use Rattle.plan_rows.specs.Plan.{Planned}
use Rattle.br_run.specs.declared.answer.Answer.{Answer}
use Rattle.br_run.specs.declared.configuration.Configuration.{Configuration}
use Rattle.br_run.specs.declared.fault.NoAnswer.{NoAnswer}
use Rattle.br_run.specs.declared.fault.NoAnswer.TheVariants.{Fault, Memory}
use Rattle.br_run.specs.declared.status.Status.TheVariants.{Done, PackagesFailed, Overwrites, BadInput, NoMemory, FeedFault, SinkFault, BadWords}
use Rattle.br_run.specs.Configured.{IsConfiguration, IsConfigFault}
use Rattle.br_run.specs.Built.{shelves_of, build_answer}
use Rattle.br_run.specs.Planned.{IsInputFault, IsPlanOf, IsPlanWith}
use Rattle.br_run.specs.Report.{fault_report, misfit_words}
use Rattle.br_run.specs.Shown.{Relation, Depends, DependsInSteps, IsDependedOn, AreShown, IsShowFault}

-- the answer to what isn't built yet
abbrev pub not_yet : Answer
not_yet = record { status = BadInput; report = fault_report (codes "not-yet") 3; image = None }

-- the answer where the feed failed
abbrev pub feed_failed : Answer
feed_failed = record { status = FeedFault; report = fault_report (codes "feed") 5; image = None }

-- the answer to words that are no command
abbrev pub bad_words : ℕ → Answer
bad_words place = record { status = BadWords; report = fault_report (misfit_words place) 7; image = None }

-- the answer to an input with a fault, by the fault and the names of the tasks
abbrev pub bad_input : InputFault → List (List ℕ) → Answer
bad_input fault names = record { status = BadInput; report = fault_text names fault ++ status_line 3; image = None }

-- the answer that is a text: a command that puts no image writes no status where it succeeds
abbrev pub written : List ℕ → Answer
written text = record { status = Done; report = text; image = None }

-- the answer to a fault of the input; out of memory there is none
abbrev pub IsFaultAnswer : NoAnswer → Answer → Type 0
IsFaultAnswer (Fault fault names) answer = answer ≡ bad_input fault names
IsFaultAnswer Memory answer = ⊥

-- the answer to files that are to be built: their first fault; or what their plan gives, built task after task
pub data IsBuildAnswer (files : FileMap) : Answer → Type 0 where
  no_build : (fault : InputFault) (names : List (List ℕ)) → IsInputFault files fault names → IsBuildAnswer files (bad_input fault names)
  build : (plan : Planned) (forced : List (List ℕ)) → IsPlanWith files plan forced → IsBuildAnswer files (build_answer plan (shelves_of files plan) forced)

-- the answer to files whose configuration is asked for: its first fault, or the lines of its values
pub data IsConfigAnswer (files : FileMap) : Answer → Type 0 where
  no_values : (fault : InputFault) (names : List (List ℕ)) → IsConfigFault files fault names → IsConfigAnswer files (bad_input fault names)
  values : (configuration : Configuration) → IsConfiguration files configuration →
      IsConfigAnswer files (written (config_text configuration.menu.entries configuration.values))

-- the answer to files whose plan is asked for: their first fault, or the tasks in their order
pub data IsPlanAnswer (files : FileMap) : Answer → Type 0 where
  no_tasks : (fault : InputFault) (names : List (List ℕ)) → IsInputFault files fault names → IsPlanAnswer files (bad_input fault names)
  tasks : (plan : Planned) → IsPlanOf files plan → IsPlanAnswer files (written (plan_text plan))

-- the answer to files of which packages are to be shown for the one of a name: why none are, or the packages
pub data IsShowAnswer (Related : Relation) (name : List ℕ) (files : FileMap) : Answer → Type 0 where
  no_packages : (fault : InputFault) (names : List (List ℕ)) → IsShowFault files name fault names → IsShowAnswer Related name files (bad_input fault names)
  packages : (plan : Planned) (tasks : List ℕ) → IsPlanOf files plan → AreShown Related plan name tasks →
      IsShowAnswer Related name files (written (names_text plan tasks))

-- the commands that are run so far: all but `build` by more workers than one or with a trace
abbrev pub is_run : Words → Bool
is_run (Build workers trace) = (workers == 1) && not trace
is_run Config = true
is_run Plan = true
is_run (ShowDepends name) = true
is_run (ShowRecursive name) = true
is_run (ShowRdepends name) = true

abbrev pub is_build : Words → Bool
is_build (Build workers trace) = true
is_build Config = false
is_build Plan = false
is_build (ShowDepends name) = false
is_build (ShowRecursive name) = false
is_build (ShowRdepends name) = false

-- a `build` is by one worker
abbrev pub has_one_worker : Words → Bool
has_one_worker (Build workers trace) = workers == 1
has_one_worker Config = true
has_one_worker Plan = true
has_one_worker (ShowDepends name) = true
has_one_worker (ShowRecursive name) = true
has_one_worker (ShowRdepends name) = true

-- the answer to the files of a command that is run
abbrev pub IsFilesAnswer : Words → FileMap → Answer → Type 0
IsFilesAnswer (Build workers trace) = IsBuildAnswer
IsFilesAnswer Config = IsConfigAnswer
IsFilesAnswer Plan = IsPlanAnswer
IsFilesAnswer (ShowDepends name) = IsShowAnswer Depends name
IsFilesAnswer (ShowRecursive name) = IsShowAnswer DependsInSteps name
IsFilesAnswer (ShowRdepends name) = IsShowAnswer IsDependedOn name

-- the answer to a list of files: its first fault, or what its files give
abbrev pub IsListAnswer : Words → List FeedFile → Answer → Type 0
IsListAnswer command list answer =
    ((fault : ReadFault) × IsFirstReadFault list fault × (answer ≡ bad_input (Read fault) []))
    ⊎ (IsFaultless list × IsFilesAnswer command (files_of list) answer)

-- the answer to a list of files of a command, which is run or isn't yet
abbrev pub IsCommandAnswer : Bool → Words → List FeedFile → Answer → Type 0
IsCommandAnswer true command list answer = IsListAnswer command list answer
IsCommandAnswer false command list answer = answer ≡ not_yet

-- the answer to words and a list of files: the place of the first word that doesn't fit, or what their command gives
abbrev pub IsAnswer : List (List ℕ) → List FeedFile → Answer → Type 0
IsAnswer words list answer =
    ((place : ℕ) × IsMisfit words place × (answer ≡ bad_words place))
    ⊎ ((command : Words) × IsCommand words command × IsCommandAnswer (is_run command) command list answer)

-- what holds of every answer: an image is put where all went well alone; the answer to a failed feed is one; and neither
-- out of memory nor a failed sink is answered in words
pub record IsPossible (answer : Answer) : Type 0 where
  pub image : answer.status ≢ Done → answer.image ≡ None
  pub feed : answer.status ≡ FeedFault → answer ≡ feed_failed
  pub memory : answer.status ≢ NoMemory
  pub sink : answer.status ≢ SinkFault

-- what holds of the answer of a command that builds nothing: it has no image, and none of the two statuses that tell of packages
pub record IsReport (answer : Answer) : Type 0 where
  pub image : answer.image ≡ None
  pub failed : answer.status ≢ PackagesFailed
  pub overwritten : answer.status ≢ Overwrites
