-- Answers that are reports.
use Rattle.std.proofs.Common.{ℕ, ◌≡◌, List, Result, Ok, Err, refl, sym, subst}
use Rattle.std.specs.Prelude.{IfOk}
use Rattle.br_path.specs.declared.values.Memory.{Memory as Want}
use Rattle.build_report.specs.declared.fault.InputFault.{InputFault}
use Rattle.br_run.specs.declared.answer.Answer.{Answer}
use Rattle.br_run.specs.Answer.{IsReport, bad_input, bad_words, feed_failed, not_yet, written}

pub bad_input-is : (fault : InputFault) (names : List (List ℕ)) → IsReport (bad_input fault names)
bad_input-is fault names = record { image = refl; failed = λ is. absurd (cc); overwritten = λ is. absurd (cc) }

pub not_yet-is : IsReport not_yet
not_yet-is = record { image = refl; failed = λ is. absurd (cc); overwritten = λ is. absurd (cc) }

pub written-is : (text : List ℕ) → IsReport (written text)
written-is text = record { image = refl; failed = λ is. absurd (cc); overwritten = λ is. absurd (cc) }

feed_failed-is : IsReport feed_failed
feed_failed-is = record { image = refl; failed = λ is. absurd (cc); overwritten = λ is. absurd (cc) }

bad_words-is : (place : ℕ) → IsReport (bad_words place)
bad_words-is place = record { image = refl; failed = λ is. absurd (cc); overwritten = λ is. absurd (cc) }

answered : (value : Answer) (result : Result Answer Want) → IsReport value → IfOk result (λ answer. answer ≡ value) → IfOk result IsReport
answered value (Ok answer) is same = subst IsReport (sym same) is
answered value (Err want) is same = tt

pub bad_input_answered : (fault : InputFault) (names : List (List ℕ)) (result : Result Answer Want) → IfOk result (λ answer. answer ≡ bad_input fault names) → IfOk result IsReport
bad_input_answered fault names result same = answered (bad_input fault names) result (bad_input-is fault names) same

pub not_yet_answered : (result : Result Answer Want) → IfOk result (λ answer. answer ≡ not_yet) → IfOk result IsReport
not_yet_answered result same = answered not_yet result not_yet-is same

pub feed_failed_answered : (result : Result Answer Want) → IfOk result (λ answer. answer ≡ feed_failed) → IfOk result IsReport
feed_failed_answered result same = answered feed_failed result feed_failed-is same

pub bad_words_answered : (place : ℕ) (result : Result Answer Want) → IfOk result (λ answer. answer ≡ bad_words place) → IfOk result IsReport
bad_words_answered place result same = answered (bad_words place) result (bad_words-is place) same
