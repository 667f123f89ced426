-- The exit status of the program.
use Rattle.std.specs.Prelude.{ℕ}
use Rattle.lk_run.specs.declared.status.Status.{Status}
use Rattle.lk_run.specs.declared.status.Status.TheVariants.{Done, Refused, Usage, Unreadable, ReadFault, WriteFault, NoMemory}

-- the number that the program ends with
abbrev pub code_of : Status → ℕ
code_of Done = 0
code_of Refused = 1
code_of Usage = 2
code_of Unreadable = 3
code_of ReadFault = 4
code_of WriteFault = 5
code_of NoMemory = 6
