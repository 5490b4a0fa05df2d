-- What a source line stands for.
use Rattle.std.proofs.Common.{◌≡◌, ◌≢◌, ℕ, zero, suc, ◌+◌, ◌-◌, ◌<◌, ◌^◌, Bool, true, false, List, [], ◌∷◌, ◌++◌, length, Option, Some, None, Result, Ok, Err, refl, ap, sym, ◌∙◌, arith}
use Rattle.std.specs.Prelude.{if◌then◌else◌}
use Rattle.std.specs.Borrow.{Bor}
use Rattle.std.specs.FinMap as fin
use Rattle.std.specs.Option.{option_map, is_some}
use Rattle.br_path.specs.Path.{Names, parts as path_parts}
use Rattle.br_path.specs.PathFault.{path_fault}
use Rattle.br_path.specs.Files.{FileMap, AreSmall}
use Rattle.kc_syntax.specs.declared.error.KcError.{KcError}
use Rattle.kc_syntax.specs.declared.error.KcError.TheVariants.{Fault, Memory}
use Rattle.kc_syntax.specs.declared.error.KcFault.{KcFault}
use Rattle.kc_syntax.specs.declared.error.KcKind.TheVariants.{NoFile, BadLine, Loop}
use Rattle.kc_syntax.specs.Fault.{IsFault}
use Rattle.kc_syntax.specs.Events.{Event, source_at, fault_at, file_events, file_at, source_events, is_reading, config_in, all_events}
use Rattle.kc_syntax.specs.State.{State}
use Rattle.kc_syntax.specs.Step.{Outcome, step, source_step}
use Rattle.kc_syntax.specs.Reading.{run}
use Rattle.kc_syntax.specs.Shown.{Follows, Fails, seen, named}
use Rattle.kc_syntax.proofs.Runs.{fails_at}

-- what is found is the file whose path the text is
found_none : (text : List ℕ) (at : Option (List ℕ)) → None ≡ option_map (named text) at → at ≡ None
found_none text None e = refl
found_none text (Some bytes) e = cc

found_some : (text : List ℕ) (at : Option (List ℕ)) (file : Names) (bytes : List ℕ) → Some (file, bytes) ≡ option_map (named text) at → (at ≡ Some bytes) × (file ≡ path_parts text)
found_some text None file bytes e = cc
found_some text (Some other) file bytes e =
    let same : (file, bytes) ≡ named text other = cc in (ap (λ p. Some p.1) (sym same), ap (λ p. p.0) same)

-- the four cases of a source line
sourced_none : (depth : ℕ) (files : FileMap) (reading : List Names) (file : Names) (line : ℕ) (path : List ℕ) → file_at files path ≡ None → source_events depth files reading file line path ≡ fault_at file line NoFile ∷ []
unfolding source_events
sourced_none zero files reading file line path none = rw none refl
sourced_none (suc depth) files reading file line path none = rw none refl

sourced_deep : (depth : ℕ) (files : FileMap) (reading : List Names) (file : Names) (line : ℕ) (path bytes : List ℕ) → depth ≡ 0 → file_at files path ≡ Some bytes → source_events depth files reading file line path ≡ fault_at file line BadLine ∷ []
unfolding source_events
sourced_deep zero files reading file line path bytes deep some = rw some refl
sourced_deep (suc depth) files reading file line path bytes deep some = absurd (omega (arith, deep))

sourced_loop : (depth : ℕ) (files : FileMap) (reading : List Names) (file : Names) (line : ℕ) (path bytes : List ℕ) → depth ≢ 0 → file_at files path ≡ Some bytes → is_reading reading (path_parts path) ≡ true → source_events depth files reading file line path ≡ fault_at file line Loop ∷ []
unfolding source_events
sourced_loop zero files reading file line path bytes some_deep some twice = absurd (some_deep refl)
sourced_loop (suc depth) files reading file line path bytes some_deep some twice = rw (some, twice) refl

sourced_file : (depth : ℕ) (files : FileMap) (reading : List Names) (file : Names) (line : ℕ) (path bytes : List ℕ) → depth ≢ 0 → file_at files path ≡ Some bytes → is_reading reading (path_parts path) ≡ false → source_events depth files reading file line path ≡ source_at file line ∷ file_events (source_events (depth - 1) files (reading ++ path_parts path ∷ [])) (path_parts path) bytes
unfolding source_events
sourced_file zero files reading file line path bytes some_deep some once = absurd (some_deep refl)
sourced_file (suc depth) files reading file line path bytes some_deep some once =
    let same : depth ≡ suc depth - 1 = omega arith in
    rw (some, once) (ap (λ d. source_at file line ∷ file_events (source_events d files (reading ++ path_parts path ∷ [])) (path_parts path) bytes) same)

-- a source line that isn't counted
source_fault : (file : Names) (line : ℕ) (back : List Event) (s : State) (error : KcError) → Fails (source_step s file line) error → Fails (run (source_at file line ∷ back) s) error
unfolding step
source_fault file line back s (Fault fault) e = rw e refl
source_fault file line back s Memory e = tt

-- one that is
source_goes : (file : Names) (line : ℕ) (back : List Event) (s t new : State) (result : Result Unit KcError) → source_step s file line ≡ Ok t → Follows (run back t) result new → Follows (run (source_at file line ∷ back) s) result new
unfolding step
source_goes file line back s t new result e h = let same : run (source_at file line ∷ back) s ≡ run back t = rw e refl in rw same h

file_got : (files : FileMap) (path bytes : List ℕ) → file_at files path ≡ Some bytes → fin.get files (path_parts path) ≡ Some bytes
unfolding file_at
file_got files path bytes e = got_by (is_some (path_fault path)) e
  where
    got_by : (b : Bool) → (if b then None else fin.get files (path_parts path)) ≡ Some bytes → fin.get files (path_parts path) ≡ Some bytes
    got_by true e = cc
    got_by false e = e

-- a file that is found is small
pub file_small : (files : FileMap) (path : List ℕ) (found : Option (Names × Bor (List ℕ))) (name : Names) (bytes : Bor (List ℕ)) → AreSmall files → option_map seen found ≡ option_map (named path) (file_at files path) → found ≡ Some (name, bytes) → length bytes.now < 2 ^ 31
file_small files path found name bytes small told is =
    let here = found_some path (file_at files path) name bytes.now (rw is at told) in
    small (path_parts path) bytes.now (file_got files path bytes.now here.0)

module _ (depth : ℕ) (files : FileMap) (reading : List Names) (file : Names) (line : ℕ) (path : List ℕ) (found : Option (Names × Bor (List ℕ))) (told : option_map seen found ≡ option_map (named path) (file_at files path)) where
  pub source_none : (s : State) (error : KcError) → found ≡ None → IsFault (record { file = file; line = line; kind = NoFile }) error → Fails (run (source_events depth files reading file line path) s) error
  source_none s error is h =
      rw (sourced_none depth files reading file line path (found_none path (file_at files path) (rw is at told))) (fails_at file line NoFile s error h)

  module _ (name : Names) (bytes : Bor (List ℕ)) (is : found ≡ Some (name, bytes)) where
    here : (file_at files path ≡ Some bytes.now) × (name ≡ path_parts path)
    here = found_some path (file_at files path) name bytes.now (rw is at told)

    pub source_deep : (s : State) (error : KcError) → depth ≡ 0 → IsFault (record { file = file; line = line; kind = BadLine }) error → Fails (run (source_events depth files reading file line path) s) error
    source_deep s error deep h =
        rw (sourced_deep depth files reading file line path bytes.now deep here.0) (fails_at file line BadLine s error h)

    module _ (some_deep : depth ≢ 0) where
      pub source_loop : (s : State) (error : KcError) → is_reading reading name ≡ true → IsFault (record { file = file; line = line; kind = Loop }) error → Fails (run (source_events depth files reading file line path) s) error
      source_loop s error twice h =
          rw (sourced_loop depth files reading file line path bytes.now some_deep here.0 (ap (is_reading reading) (sym here.1) ∙ twice)) (fails_at file line Loop s error h)

      module _ (once : is_reading reading name ≡ false) where
        sourced : source_events depth files reading file line path ≡ source_at file line ∷ file_events (source_events (depth - 1) files (reading ++ name ∷ [])) name bytes.now
        sourced =
            sourced_file depth files reading file line path bytes.now some_deep here.0 (ap (is_reading reading) (sym here.1) ∙ once)
            ∙ ap (λ n. source_at file line ∷ file_events (source_events (depth - 1) files (reading ++ n ∷ [])) n bytes.now) (sym here.1)

        pub source_refused : (s : State) (error : KcError) → Fails (source_step s file line) error → Fails (run (source_events depth files reading file line path) s) error
        source_refused s error h =
            rw sourced (source_fault file line (file_events (source_events (depth - 1) files (reading ++ name ∷ [])) name bytes.now) s error h)

        pub source_read : (s t new : State) (result : Result Unit KcError) → source_step s file line ≡ Ok t → Follows (run (file_events (source_events (depth - 1) files (reading ++ name ∷ [])) name bytes.now) t) result new → Follows (run (source_events depth files reading file line path) s) result new
        source_read s t new result e h =
            rw sourced (source_goes file line (file_events (source_events (depth - 1) files (reading ++ name ∷ [])) name bytes.now) s t new result e h)

-- the file that is read first
pub all_missing : (files : FileMap) (file : Names) (s : State) (error : KcError) → file ≡ config_in → None ≡ fin.get files file → IsFault (record { file = file; line = 0; kind = NoFile }) error → Fails (run (all_events files) s) error
unfolding all_events
all_missing files file s error is none h =
    let same : None ≡ fin.get files config_in = rw is at none in
    rw (← same) (fails_at config_in 0 NoFile s error (rw is at h))

pub all_read : (files : FileMap) (file : Names) (bytes : List ℕ) (reading : List Names) (s new : State) (result : Result Unit KcError) → file ≡ config_in → reading ≡ [] → Some bytes ≡ fin.get files file → Follows (run (file_events (source_events 64 files (reading ++ file ∷ [])) file bytes) s) result new → Follows (run (all_events files) s) result new
unfolding all_events
all_read files file bytes reading s new result is none some h =
    let same : Some bytes ≡ fin.get files config_in = rw is at some in
    rw (← same) (rw (none, is) at h)
