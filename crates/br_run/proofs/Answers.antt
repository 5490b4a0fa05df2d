-- What the answer to words and a list of files tells of a call.
use Rattle.std.proofs.Common.{ℕ, ◌≡◌, ◌≢◌, ◌<◌, ◌⊎◌, inl, inr, List, Result, Ok, Err, refl, sym, ap, subst}
use Rattle.std.specs.Prelude.{IfOk}
use Rattle.std.proofs.lemmas.Bool.{cases_lt}
use Rattle.br_path.specs.declared.values.Memory.{Memory as Want}
use Rattle.feed_io.specs.declared.feed.FeedFile.{FeedFile}
use Rattle.feed_io.specs.declared.read.ReadFault.{ReadFault}
use Rattle.feed_io.specs.declared.read.ReadFault.TheVariants.{Feed, TooManyFiles, TooLarge, BadPath, Twice, Memory}
use Rattle.feed_io.specs.Cause.{Rose}
use Rattle.feed_io.specs.Reading.{IsReading, IsFirstReadFault}
use Rattle.br_words.specs.declared.command.Words.{Words}
use Rattle.br_words.specs.Command.{IsCommand}
use Rattle.br_run.specs.declared.answer.Answer.{Answer}
use Rattle.br_run.specs.declared.status.Status.{Status}
use Rattle.br_run.specs.declared.status.Status.TheVariants.{Done, PackagesFailed, Overwrites, BadInput, NoMemory, FeedFault, SinkFault, BadWords}
use Rattle.br_run.specs.Answer.{IsAnswer, IsCommandAnswer, IsPossible, feed_failed, is_run}
use Rattle.br_run.specs.Out.{Gives, EndsEarly, IsRun}
use Rattle.br_run.specs.Sinks.{Sinks, IsWritten, IsCutShort}

-- a fault that is neither the feed's nor out of memory is the list's
pub IsFirstReadFault-IsReading : (list : List FeedFile) (fault : ReadFault) → fault ≢ Feed → fault ≢ Memory → IsReading list (Err fault) → IsFirstReadFault list fault
IsFirstReadFault-IsReading list Feed feed memory reading = absurd (feed refl)
IsFirstReadFault-IsReading list Memory feed memory reading = absurd (memory refl)
IsFirstReadFault-IsReading list TooManyFiles feed memory reading = reading
IsFirstReadFault-IsReading list TooLarge feed memory reading = reading
IsFirstReadFault-IsReading list (BadPath number) feed memory reading = reading
IsFirstReadFault-IsReading list (Twice at) feed memory reading = reading

-- what holds of an answer holds of what is answered, where it is that answer
pub IfOk-same : (P : Answer → Type 0) (answer : Answer) (result : Result Answer Want) → IfOk result (λ a. a ≡ answer) → P answer → IfOk result P
IfOk-same P answer (Ok a) same holds = subst P (sym same) holds
IfOk-same P answer (Err want) same holds = tt

-- what a command gives is the answer to its words
pub IsAnswer-command : (words : List (List ℕ)) (list : List FeedFile) (command : Words) (result : Result Answer Want) → IsCommand words command
    → IfOk result (λ answer. IsCommandAnswer (is_run command) command list answer ⊎ (answer ≡ feed_failed)) → IfOk result (λ answer. IsAnswer words list answer ⊎ (answer ≡ feed_failed))
IsAnswer-command words list command (Ok answer) is (inl given) = inl (inr (command, is, given))
IsAnswer-command words list command (Ok answer) is (inr failed) = inr failed
IsAnswer-command words list command (Err want) is given = tt

-- an answer that isn't a failed feed's is given
pub Gives-IsAnswer : (IsRight : Answer → Type 0) (answer : Answer) (held : Sinks)
    → IsRight answer ⊎ (answer ≡ feed_failed) → (answer ≡ feed_failed → ⊥) → IsWritten answer held → Gives IsRight answer.status held
Gives-IsAnswer IsRight answer held (inl is) other written = record { answer = answer; is = is; status = refl; written = written }
Gives-IsAnswer IsRight answer held (inr failed) other written = absurd (other failed)

-- what is given by a status is what the status says
run_status : (IsRight : Answer → Type 0) (before now : ℕ) (held : Sinks) (status : Status) → status ≢ SinkFault → Gives IsRight status held → IsRun IsRight before now status held
run_status IsRight before now held Done other given = given
run_status IsRight before now held PackagesFailed other given = given
run_status IsRight before now held Overwrites other given = given
run_status IsRight before now held BadInput other given = given
run_status IsRight before now held NoMemory other given = tt
run_status IsRight before now held FeedFault other given = tt
run_status IsRight before now held SinkFault other given = absurd (other refl)
run_status IsRight before now held BadWords other given = given

-- and each answer is what its status says
pub IsRun-IsAnswer : (IsRight : Answer → Type 0) (before now : ℕ) (answer : Answer) (held : Sinks)
    → IsRight answer ⊎ (answer ≡ feed_failed) → IsPossible answer → IsWritten answer held → IsRun IsRight before now answer.status held
IsRun-IsAnswer IsRight before now answer held (inl is) possible written =
    run_status IsRight before now held answer.status possible.sink (record { answer = answer; is = is; status = refl; written = written })
IsRun-IsAnswer IsRight before now answer held (inr failed) possible written =
    let fault : answer.status ≡ FeedFault = ap (λ a. a.status) failed in
    subst (λ status. IsRun IsRight before now status held) (sym fault) tt

-- an answer cut short, where it is the failed feed's by the feed's counts
pub EndsEarly-IsAnswer : (IsRight : Answer → Type 0) (before now : ℕ) (answer : Answer) (held : Sinks)
    → IsRight answer ⊎ (answer ≡ feed_failed) → (answer ≡ feed_failed → Rose before now) → (before < now → answer ≡ feed_failed)
    → IsCutShort answer held → EndsEarly IsRight before now held
EndsEarly-IsAnswer IsRight before now answer held (inr failed) cause always cut = record { answer = answer; is = inr (failed, cause failed); cut = cut }
EndsEarly-IsAnswer IsRight before now answer held (inl is) cause always cut =
    elim (cases_lt before now) [
      | inl greater ↦ record { answer = answer; is = inr (always greater, cause (always greater)); cut = cut }
      | inr kept ↦ record { answer = answer; is = inl (is, kept); cut = cut }
    ]
