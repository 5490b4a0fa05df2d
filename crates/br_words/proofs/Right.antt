-- What is read of words is their command, or the place of the first that doesn't fit.
use Rattle.std.proofs.Common.{◌≡◌, ℕ, ◌+◌, ◌<◌, ◌≤◌, Bool, true, false, List, [], ◌∷◌, ◌++◌, length, take, Option, Some, None, Result, Ok, Err, refl, sym, ◌∙◌, subst, arith}
use Rattle.std.specs.Prelude.{codes, if◌then◌else◌}
use Rattle.std.specs.Cmp.Lexicographic.{bytes_decides}
use Rattle.br_path.specs.Path.{Names}
use Rattle.br_words.specs.declared.command.Words.{Words}
use Rattle.br_words.specs.declared.command.Words.TheVariants.{Build, Config, Plan, ShowDepends, ShowRecursive, ShowRdepends}
use Rattle.br_words.specs.Command.{IsWorkers, one, IsBuild, IsCommand, Begins, IsMisfit, none, jobs as jobs_alone, traced as traced_alone, jobs_traced, traced_jobs, build, config, plan, depends, recursive, rdepends}
use Rattle.br_words.specs.declared.command.WordsFault.{WordsFault}
use Rattle.br_words.specs.declared.command.WordsFault.TheVariants.{At, Memory}
use Rattle.br_words.specs.Answers.{Gives, IsReading}
use Rattle.br_words.specs.Reading.{Reading, is_text, read, options, ended, shown, only_word, show, jobs, jobs_behind, behind_jobs, behind_trace, traced, workers_of}
use Rattle.br_words.proofs.Workers.{if_cases, IsSaid, workers_of-said, IsWorkers-workers_of}

-- words up to a place that fit, and one after them with which none fits
pub record Stands (words : Names) (place : ℕ) : Type 0 where
  pub within : place ≤ length words
  pub front : Begins (take place words)
  pub stuck : (rest : Names) → place < length words → read (take (place + 1) words ++ rest) ≡ Err place

abbrev pub IsRead : Names → Reading → Type 0
IsRead words (Ok command) = IsCommand words command
IsRead words (Err place) = Stands words place

same : (word text : List ℕ) → is_text word text ≡ true → word ≡ text
same word text is = (bytes_decides word text).0 is

abbrev opens : (rest : Names) (front : Names) (command : Words) → IsCommand (front ++ rest) command → Begins front
opens rest front command is = record { rest = rest; command = command; is = is }

ended-read : (word : List ℕ) (command : Words) → IsCommand (word ∷ []) command → ((words : Names) → read (word ∷ words) ≡ ended 1 command words) → (words : Names) → IsRead (word ∷ words) (ended 1 command words)
ended-read word command is reads [] = is
ended-read word command is reads (next ∷ words) = record { within = omega arith; front = opens [] (word ∷ []) command is; stuck = λ rest more. reads (next ∷ rest) }

shown-read : (word : List ℕ) (command : List ℕ → Words) → ((name : List ℕ) → IsCommand (word ∷ name ∷ []) (command name))
    → ((words : Names) → read (word ∷ words) ≡ shown command (only_word words)) → (words : Names) → IsRead (word ∷ words) (shown command (only_word words))
shown-read word command is reads [] = record { within = omega arith; front = opens ([] ∷ []) (word ∷ []) (command []) (is []); stuck = λ rest more. absurd (omega (arith, more)) }
shown-read word command is reads (name ∷ []) = is name
shown-read word command is reads (name ∷ next ∷ words) = record { within = omega arith; front = opens [] (word ∷ name ∷ []) (command name) (is name); stuck = λ rest more. reads (name ∷ next ∷ rest) }

-- the words of a command are read
build-read : (words : Names) (workers : ℕ) (trace : Bool) → IsBuild words workers trace → options words ≡ Ok (Build workers trace)
build-read _ _ _ none = refl
build-read _ _ _ (jobs_alone text workers is) = rw (IsWorkers-workers_of text workers is) refl
build-read _ _ _ traced_alone = refl
build-read _ _ _ (jobs_traced text workers is) = rw (IsWorkers-workers_of text workers is) refl
build-read _ _ _ (traced_jobs text workers is) = rw (IsWorkers-workers_of text workers is) refl

pub command-read : (words : Names) (command : Words) → IsCommand words command → read words ≡ Ok command
unfolding read
command-read _ _ (build words workers trace is) = build-read words workers trace is
command-read _ _ config = refl
command-read _ _ plan = refl
command-read _ _ (depends name) = refl
command-read _ _ (recursive name) = refl
command-read _ _ (rdepends name) = refl

-- one worker, as it is written
one_worker : IsWorkers (codes "1") 1
one_worker = one 49 1 (omega arith, refl) (omega arith)

-- after `build -j N`
behind_jobs-read : (text : List ℕ) (workers : ℕ) → workers_of text ≡ Some workers → IsWorkers text workers → (words : Names)
    → IsRead (codes "build" ∷ codes "-j" ∷ text ∷ words) (behind_jobs words workers)
unfolding read
behind_jobs-read text workers found is [] = build _ workers false (jobs_alone text workers is)
behind_jobs-read text workers found is (word ∷ words) =
    if_cases (is_text word (codes "--trace")) (IsRead (codes "build" ∷ codes "-j" ∷ text ∷ word ∷ words)) (ended 4 (Build workers true) words) (Err 3)
    (λ trace. subst (λ w. IsRead (codes "build" ∷ codes "-j" ∷ text ∷ w ∷ words) (ended 4 (Build workers true) words)) (sym (same _ _ trace)) (behind words))
    (λ other. record {
      within = omega arith;
      front = opens [] (codes "build" ∷ codes "-j" ∷ text ∷ []) (Build workers false) (build _ workers false (jobs_alone text workers is));
      stuck = λ rest more. rw (found, other) refl;
    })
  where
    behind : (words : Names) → IsRead (codes "build" ∷ codes "-j" ∷ text ∷ codes "--trace" ∷ words) (ended 4 (Build workers true) words)
    behind [] = build _ workers true (jobs_traced text workers is)
    behind (next ∷ words) = record {
      within = omega arith;
      front = opens [] (codes "build" ∷ codes "-j" ∷ text ∷ codes "--trace" ∷ []) (Build workers true) (build _ workers true (jobs_traced text workers is));
      stuck = λ rest more. rw found refl;
    }

-- after `build -j`
jobs-read : (words : Names) → IsRead (codes "build" ∷ codes "-j" ∷ words) (jobs 2 behind_jobs words)
unfolding read
jobs-read [] = record {
  within = omega arith;
  front = opens (codes "1" ∷ []) (codes "build" ∷ codes "-j" ∷ []) (Build 1 false) (build _ 1 false (jobs_alone (codes "1") 1 one_worker));
  stuck = λ rest more. absurd (omega (arith, more));
}
jobs-read (text ∷ words) = by_number (workers_of text) refl (workers_of-said text)
  where
    by_number : (found : Option ℕ) → workers_of text ≡ found → IsSaid text found → IsRead (codes "build" ∷ codes "-j" ∷ text ∷ words) (jobs_behind 2 found (behind_jobs words))
    by_number (Some workers) found is = behind_jobs-read text workers found is words
    by_number None found is = record {
      within = omega arith;
      front = opens (codes "1" ∷ []) (codes "build" ∷ codes "-j" ∷ []) (Build 1 false) (build _ 1 false (jobs_alone (codes "1") 1 one_worker));
      stuck = λ rest more. rw found refl;
    }

-- after `build --trace -j`
traced_jobs-read : (words : Names) → IsRead (codes "build" ∷ codes "--trace" ∷ codes "-j" ∷ words) (jobs 3 traced words)
unfolding read
traced_jobs-read [] = record {
  within = omega arith;
  front = opens (codes "1" ∷ []) (codes "build" ∷ codes "--trace" ∷ codes "-j" ∷ []) (Build 1 true) (build _ 1 true (traced_jobs (codes "1") 1 one_worker));
  stuck = λ rest more. absurd (omega (arith, more));
}
traced_jobs-read (text ∷ words) = by_number (workers_of text) refl (workers_of-said text) words
  where
    by_number : (found : Option ℕ) → workers_of text ≡ found → IsSaid text found → (words : Names)
        → IsRead (codes "build" ∷ codes "--trace" ∷ codes "-j" ∷ text ∷ words) (jobs_behind 3 found (traced words))
    by_number None found is words = record {
      within = omega arith;
      front = opens (codes "1" ∷ []) (codes "build" ∷ codes "--trace" ∷ codes "-j" ∷ []) (Build 1 true) (build _ 1 true (traced_jobs (codes "1") 1 one_worker));
      stuck = λ rest more. rw found refl;
    }
    by_number (Some workers) found is [] = build _ workers true (traced_jobs text workers is)
    by_number (Some workers) found is (next ∷ words) = record {
      within = omega arith;
      front = opens [] (codes "build" ∷ codes "--trace" ∷ codes "-j" ∷ text ∷ []) (Build workers true) (build _ workers true (traced_jobs text workers is));
      stuck = λ rest more. rw found refl;
    }

-- after `build --trace`
trace-read : (words : Names) → IsRead (codes "build" ∷ codes "--trace" ∷ words) (behind_trace words)
unfolding read
trace-read [] = build _ 1 true traced_alone
trace-read (word ∷ words) =
    if_cases (is_text word (codes "-j")) (IsRead (codes "build" ∷ codes "--trace" ∷ word ∷ words)) (jobs 3 traced words) (Err 2)
    (λ is. subst (λ w. IsRead (codes "build" ∷ codes "--trace" ∷ w ∷ words) (jobs 3 traced words)) (sym (same _ _ is)) (traced_jobs-read words))
    (λ other. record {
      within = omega arith;
      front = opens [] (codes "build" ∷ codes "--trace" ∷ []) (Build 1 true) (build _ 1 true traced_alone);
      stuck = λ rest more. rw other refl;
    })

-- after `build`
options-read : (words : Names) → IsRead (codes "build" ∷ words) (options words)
unfolding read
options-read [] = build [] 1 false none
options-read (word ∷ words) =
    if_cases (is_text word (codes "-j")) (IsRead (codes "build" ∷ word ∷ words)) (jobs 2 behind_jobs words) (if is_text word (codes "--trace") then behind_trace words else Err 1)
    (λ is. subst (λ w. IsRead (codes "build" ∷ w ∷ words) (jobs 2 behind_jobs words)) (sym (same _ _ is)) (jobs-read words))
    (λ other. if_cases (is_text word (codes "--trace")) (IsRead (codes "build" ∷ word ∷ words)) (behind_trace words) (Err 1)
    (λ is. subst (λ w. IsRead (codes "build" ∷ w ∷ words) (behind_trace words)) (sym (same _ _ is)) (trace-read words))
    (λ neither. record {
      within = omega arith;
      front = opens [] (codes "build" ∷ []) (Build 1 false) (build [] 1 false none);
      stuck = λ rest more. rw (other, neither) refl;
    }))

-- the show commands, or no command
show-read : (word : List ℕ) (words : Names)
    → is_text word (codes "build") ≡ false → is_text word (codes "config") ≡ false → is_text word (codes "plan") ≡ false → IsRead (word ∷ words) (show word words)
unfolding read
show-read word words other_build other_config other_plan =
    if_cases (is_text word (codes "show-depends")) (IsRead (word ∷ words)) (shown ShowDepends (only_word words))
    (if is_text word (codes "show-recursive-depends") then shown ShowRecursive (only_word words) else if is_text word (codes "show-rdepends") then shown ShowRdepends (only_word words) else Err 0)
    (λ is. subst (λ w. IsRead (w ∷ words) (shown ShowDepends (only_word words))) (sym (same _ _ is)) (shown-read (codes "show-depends") ShowDepends depends (λ rest. refl) words))
    (λ other_depends. if_cases (is_text word (codes "show-recursive-depends")) (IsRead (word ∷ words)) (shown ShowRecursive (only_word words))
    (if is_text word (codes "show-rdepends") then shown ShowRdepends (only_word words) else Err 0)
    (λ is. subst (λ w. IsRead (w ∷ words) (shown ShowRecursive (only_word words))) (sym (same _ _ is)) (shown-read (codes "show-recursive-depends") ShowRecursive recursive (λ rest. refl) words))
    (λ other_recursive. if_cases (is_text word (codes "show-rdepends")) (IsRead (word ∷ words)) (shown ShowRdepends (only_word words)) (Err 0)
    (λ is. subst (λ w. IsRead (w ∷ words) (shown ShowRdepends (only_word words))) (sym (same _ _ is)) (shown-read (codes "show-rdepends") ShowRdepends rdepends (λ rest. refl) words))
    (λ other_rdepends. record {
      within = omega arith;
      front = opens (codes "config" ∷ []) [] Config config;
      stuck = λ rest more. rw (other_build, other_config, other_plan, other_depends, other_recursive, other_rdepends) refl;
    })))

-- what is read of all words
pub read-read : (words : Names) → IsRead words (read words)
unfolding read
read-read [] = record { within = omega arith; front = opens (codes "config" ∷ []) [] Config config; stuck = λ rest more. absurd (omega (arith, more)) }
read-read (word ∷ words) =
    if_cases (is_text word (codes "build")) (IsRead (word ∷ words)) (options words)
    (if is_text word (codes "config") then ended 1 Config words else if is_text word (codes "plan") then ended 1 Plan words else show word words)
    (λ is. subst (λ w. IsRead (w ∷ words) (options words)) (sym (same _ _ is)) (options-read words))
    (λ other_build. if_cases (is_text word (codes "config")) (IsRead (word ∷ words)) (ended 1 Config words) (if is_text word (codes "plan") then ended 1 Plan words else show word words)
    (λ is. subst (λ w. IsRead (w ∷ words) (ended 1 Config words)) (sym (same _ _ is)) (ended-read (codes "config") Config config (λ rest. refl) words))
    (λ other_config. if_cases (is_text word (codes "plan")) (IsRead (word ∷ words)) (ended 1 Plan words) (show word words)
    (λ is. subst (λ w. IsRead (w ∷ words) (ended 1 Plan words)) (sym (same _ _ is)) (ended-read (codes "plan") Plan plan (λ rest. refl) words))
    (λ other_plan. show-read word words other_build other_config other_plan)))

-- a place with which no command goes on is that of the first word that doesn't fit
pub Stands-IsMisfit : (words : Names) (place : ℕ) → read words ≡ Err place → Stands words place → IsMisfit words place
Stands-IsMisfit words place is stands = record {
  within = stands.within;
  front = stands.front;
  no_further = λ more begins. apart _ _ (command-read _ begins.command begins.is) (stands.stuck begins.rest more);
  no_command = λ command whole. apart _ _ (command-read words command whole) is;
}
  where
    apart : (reading : Reading) (command : Words) → reading ≡ Ok command → reading ≡ Err place → ⊥
    apart reading command first second = let both : ◌≡◌ {A = Reading} (Ok command) (Err place) = sym first ∙ second in absurd cc

pub Gives-IsReading : (words : Names) (result : Result Words WordsFault) → Gives (read words) result → IsReading words result
Gives-IsReading words (Ok command) is = subst (IsRead words) is (read-read words)
Gives-IsReading words (Err (At place)) is = Stands-IsMisfit words place is (subst (IsRead words) is (read-read words))
Gives-IsReading words (Err Memory) is = tt
