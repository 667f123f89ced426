-- What a run on the caller's own thread does.
use Rattle.std.specs.Prelude.{◌≡◌, ℕ, ◌≤◌, List, Option, Some, None}
use Rattle.lk_run.specs.declared.status.Status.{Status}
use Rattle.lk_run.specs.declared.words.Command.{Command}
use Rattle.lk_devices.specs.Device.{SourceState, SinkState}
use Rattle.lk_run.specs.MappedRun.{IsMappedRun}
use Rattle.lk_run.specs.Run.{IsRun}
use Rattle.lk_run.specs.SoundRun.{IsSoundRun}
use Rattle.lk_run.specs.Words.{IsCommand, workers_for}

-- the words are a command that asks for several workers
pub record AsksForWorkers (words : List (List ℕ)) : Type 0 where
  pub command : Command
  pub asked : IsCommand words command
  pub several : 2 ≤ workers_for command

-- it answers nothing exactly where the words ask for several workers, and then leaves source and sink alone; else it is a
-- run, with its status
abbrev pub IsRunAlone : List (List ℕ) → SourceState → SourceState → SinkState → SinkState → Option Status → Type 0
IsRunAlone words from to before after None = AsksForWorkers words × (to ≡ from) × (after ≡ before)
IsRunAlone words from to before after (Some status) =
    (AsksForWorkers words → ⊥) × IsRun words from to before after status × IsSoundRun words from before after status
    × IsMappedRun words from before after status
