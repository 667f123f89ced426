-- What a program over this crate does.
use Rattle.std.specs.Prelude.{◌≡◌, ℕ, List, drop, ◌⊎◌}
use Rattle.lk_run.specs.declared.status.Status.{Status}
use Rattle.lk_run.specs.declared.status.Status.TheVariants.{NoMemory}
use Rattle.lk_devices.specs.Device.{SourceState, SinkState}
use Rattle.lk_run.specs.MappedRun.{IsMappedRun}
use Rattle.lk_run.specs.Run.{IsRun}
use Rattle.lk_run.specs.Status.{code_of}

-- it found no memory for its words, did nothing, and ended with the number of that
pub record IsStopped (from to : SourceState) (before after : SinkState) (code : ℕ) : Type 0 where
  pub untouched : to ≡ from
  pub kept : after ≡ before
  pub ended : code ≡ code_of NoMemory

-- it ran the words and ended with the number of the run's status
pub record IsEnded (words : List (List ℕ)) (from to : SourceState) (before after : SinkState) (code : ℕ) : Type 0 where
  pub status : Status
  pub run : IsRun words from to before after status
  pub mapped : IsMappedRun words from before after status
  pub ended : code ≡ code_of status

-- a program that was started with these words, of which the first is its name
abbrev pub IsProgramRun : List (List ℕ) → SourceState → SourceState → SinkState → SinkState → ℕ → Type 0
IsProgramRun args from to before after code = IsEnded (drop 1 args) from to before after code ⊎ IsStopped from to before after code
