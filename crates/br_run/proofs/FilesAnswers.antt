-- What holds of the answers to files.
use Rattle.std.proofs.Common.{◌≡◌, ◌≢◌, ℕ, Bool, true, false, cond, List, Result, Ok, Err, refl}
use Rattle.std.specs.Prelude.{IfOk}
use Rattle.br_path.specs.declared.values.Memory.{Memory as Want}
use Rattle.br_path.specs.Files.{FileMap}
use Rattle.br_words.specs.declared.command.Words.{Words}
use Rattle.br_words.specs.declared.command.Words.TheVariants.{Build, Config, Plan, ShowDepends, ShowRecursive, ShowRdepends}
use Rattle.build_report.specs.declared.fault.InputFault.{InputFault}
use Rattle.build_report.specs.Plans.{plan_text, names_text}
use Rattle.dot_config.specs.Writing.{config_text}
use Rattle.plan_rows.specs.Plan.{Planned}
use Rattle.task_shelves.specs.Shelf.{ShelfData}
use Rattle.root_merge.specs.Overwrites.{overwrites_of}
use Rattle.br_run.specs.declared.answer.Answer.{Answer}
use Rattle.br_run.specs.declared.status.Status.{Status}
use Rattle.br_run.specs.declared.status.Status.TheVariants.{PackagesFailed, Overwrites, NoMemory, FeedFault, SinkFault, BadWords}
use Rattle.br_run.specs.Answer.{IsBuildAnswer, no_build, build, IsConfigAnswer, no_values, values, IsPlanAnswer, no_tasks, tasks, IsShowAnswer, no_packages, packages, IsFilesAnswer, IsPossible, IsReport, bad_input, not_yet, written, is_build}
use Rattle.br_run.proofs.Reports.{bad_input-is, not_yet-is, written-is}
use Rattle.br_run.specs.Built.{shelves_of, some_failed, some_overwritten, without_image, with_image, build_answer}
use Rattle.br_run.specs.Shown.{Relation, Depends, DependsInSteps, IsDependedOn}

-- the answer to the files of a command: a possible one, not that to bad words or to a failed feed, and a report unless something
-- is built
pub record IsOfFiles (command : Words) (answer : Answer) : Type 0 where
  pub possible : IsPossible answer
  pub words : answer.status ≢ BadWords
  pub feed : answer.status ≢ FeedFault
  pub report : is_build command ≡ false → IsReport answer

IsOfFiles-bad_input : (command : Words) (fault : InputFault) (names : List (List ℕ)) → IsOfFiles command (bad_input fault names)
IsOfFiles-bad_input command fault names = record {
  possible = record { image = λ _. refl; feed = λ is. absurd (cc); memory = λ is. absurd (cc); sink = λ is. absurd (cc) };
  words = λ is. absurd (cc);
  feed = λ is. absurd (cc);
  report = λ _. bad_input-is fault names;
}

IsOfFiles-not_yet : (command : Words) → IsOfFiles command not_yet
IsOfFiles-not_yet command = record {
  possible = record { image = λ _. refl; feed = λ is. absurd (cc); memory = λ is. absurd (cc); sink = λ is. absurd (cc) };
  words = λ is. absurd (cc);
  feed = λ is. absurd (cc);
  report = λ _. not_yet-is;
}

IsOfFiles-written : (command : Words) (text : List ℕ) → IsOfFiles command (written text)
IsOfFiles-written command text = record {
  possible = record { image = λ _. refl; feed = λ is. absurd (cc); memory = λ is. absurd (cc); sink = λ is. absurd (cc) };
  words = λ is. absurd (cc);
  feed = λ is. absurd (cc);
  report = λ _. written-is text;
}

IsOfFiles-without_image : (workers : ℕ) (trace : Bool) (plan : Planned) (shelves : ℕ → ShelfData) (forced : List (List ℕ)) (status : Status)
    → status ≢ FeedFault → status ≢ NoMemory → status ≢ SinkFault → status ≢ BadWords → IsOfFiles (Build workers trace) (without_image plan shelves forced status)
IsOfFiles-without_image workers trace plan shelves forced status feed memory sink words = record {
  possible = record { image = λ _. refl; feed = λ is. absurd (feed is); memory = memory; sink = sink };
  words = words;
  feed = feed;
  report = λ is. absurd (cc);
}

IsOfFiles-with_image : (workers : ℕ) (trace : Bool) (plan : Planned) (shelves : ℕ → ShelfData) (forced : List (List ℕ)) → IsOfFiles (Build workers trace) (with_image plan shelves forced)
IsOfFiles-with_image workers trace plan shelves forced = record {
  possible = record { image = λ other. absurd (other refl); feed = λ is. absurd (cc); memory = λ is. absurd (cc); sink = λ is. absurd (cc) };
  words = λ is. absurd (cc);
  feed = λ is. absurd (cc);
  report = λ is. absurd (cc);
}

IsOfFiles-answer : (workers : ℕ) (trace : Bool) (plan : Planned) (shelves : ℕ → ShelfData) (forced : List (List ℕ)) → IsOfFiles (Build workers trace) (build_answer plan shelves forced)
IsOfFiles-answer workers trace plan shelves forced = by (some_failed plan shelves) (some_overwritten (overwrites_of plan shelves))
  where
    by : (some over : Bool) → IsOfFiles (Build workers trace) (cond some (without_image plan shelves forced PackagesFailed) (cond over (without_image plan shelves forced Overwrites) (with_image plan shelves forced)))
    by true over = IsOfFiles-without_image workers trace plan shelves forced PackagesFailed (λ is. cc) (λ is. cc) (λ is. cc) (λ is. cc)
    by false true = IsOfFiles-without_image workers trace plan shelves forced Overwrites (λ is. cc) (λ is. cc) (λ is. cc) (λ is. cc)
    by false false = IsOfFiles-with_image workers trace plan shelves forced

IsOfFiles-build : (workers : ℕ) (trace : Bool) (files : FileMap) (answer : Answer) → IsBuildAnswer files answer → IsOfFiles (Build workers trace) answer
IsOfFiles-build workers trace files _ (no_build fault names is) = IsOfFiles-bad_input (Build workers trace) fault names
IsOfFiles-build workers trace files _ (build plan forced is) = IsOfFiles-answer workers trace plan (shelves_of files plan) forced

IsOfFiles-config : (command : Words) (files : FileMap) (answer : Answer) → IsConfigAnswer files answer → IsOfFiles command answer
IsOfFiles-config command files _ (no_values fault names is) = IsOfFiles-bad_input command fault names
IsOfFiles-config command files _ (values configuration is) = IsOfFiles-written command (config_text configuration.menu.entries configuration.values)

IsOfFiles-plan : (command : Words) (files : FileMap) (answer : Answer) → IsPlanAnswer files answer → IsOfFiles command answer
IsOfFiles-plan command files _ (no_tasks fault names is) = IsOfFiles-bad_input command fault names
IsOfFiles-plan command files _ (tasks plan is) = IsOfFiles-written command (plan_text plan)

IsOfFiles-show : (command : Words) (Related : Relation) (name : List ℕ) (files : FileMap) (answer : Answer) → IsShowAnswer Related name files answer → IsOfFiles command answer
IsOfFiles-show command Related name files _ (no_packages fault names is) = IsOfFiles-bad_input command fault names
IsOfFiles-show command Related name files _ (packages plan shown is are) = IsOfFiles-written command (names_text plan shown)

of_files : (command : Words) (files : FileMap) (answer : Answer) → IsFilesAnswer command files answer → IsOfFiles command answer
of_files (Build workers trace) files answer is = IsOfFiles-build workers trace files answer is
of_files Config files answer is = IsOfFiles-config Config files answer is
of_files Plan files answer is = IsOfFiles-plan Plan files answer is
of_files (ShowDepends name) files answer is = IsOfFiles-show (ShowDepends name) Depends name files answer is
of_files (ShowRecursive name) files answer is = IsOfFiles-show (ShowRecursive name) DependsInSteps name files answer is
of_files (ShowRdepends name) files answer is = IsOfFiles-show (ShowRdepends name) IsDependedOn name files answer is

-- what is answered to the files of a command has what each answer to them has
pub IsOfFiles-answered : (command : Words) (files : FileMap) (P : Answer → Type 0) (result : Result Answer Want) → ((answer : Answer) → IsOfFiles command answer → P answer)
    → IfOk result (IsFilesAnswer command files) → IfOk result P
IsOfFiles-answered command files P (Ok answer) each is = each answer (of_files command files answer is)
IsOfFiles-answered command files P (Err want) each is = tt
