-- What a status says of the sinks after a call of the builder.
use Rattle.std.specs.Prelude.{◌≡◌, ◌≤◌, ◌⊎◌, ℕ}
use Rattle.feed_io.specs.Cause.{Rose}
use Rattle.br_run.specs.declared.answer.Answer.{Answer}
use Rattle.br_run.specs.declared.status.Status.{Status}
use Rattle.br_run.specs.declared.status.Status.TheVariants.{Done, PackagesFailed, Overwrites, BadInput, NoMemory, FeedFault, SinkFault, BadWords}
use Rattle.br_run.specs.Answer.{feed_failed}
use Rattle.br_run.specs.Sinks.{Sinks, IsWritten, IsCutShort}

-- the status and the texts are those of an answer that is right
pub record Gives (IsRight : Answer → Type 0) (given : Status) (held : Sinks) : Type 0 where
  pub answer : Answer
  pub is : IsRight answer
  pub status : given ≡ answer.status
  pub written : IsWritten answer held

-- each sink has a front of its text: of a right answer's, where the feed's count isn't greater than before, or of what is put where the
-- feed failed, where its count rose
pub record EndsEarly (IsRight : Answer → Type 0) (before now : ℕ) (held : Sinks) : Type 0 where
  pub answer : Answer
  pub is : (IsRight answer × (now ≤ before)) ⊎ ((answer ≡ feed_failed) × Rose before now)
  pub cut : IsCutShort answer held

-- what each status says by the answers that are right, where the feed had these counts of faults before and now: of out of memory another
-- clause speaks, and of a feed that failed too
abbrev pub IsRun : (Answer → Type 0) → ℕ → ℕ → Status → Sinks → Type 0
IsRun IsRight before now NoMemory held = Unit {0}
IsRun IsRight before now FeedFault held = Unit {0}
IsRun IsRight before now SinkFault held = EndsEarly IsRight before now held
IsRun IsRight before now Done held = Gives IsRight Done held
IsRun IsRight before now PackagesFailed held = Gives IsRight PackagesFailed held
IsRun IsRight before now Overwrites held = Gives IsRight Overwrites held
IsRun IsRight before now BadInput held = Gives IsRight BadInput held
IsRun IsRight before now BadWords held = Gives IsRight BadWords held
