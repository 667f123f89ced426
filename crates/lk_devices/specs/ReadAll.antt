-- What reading a whole input within a limit may answer.
use Rattle.std.specs.Prelude.{◌≡◌, ℕ, ◌<◌, List, length, Option, Result, IfSome}
use Rattle.std.specs.Prelude.{Ok, Err}
use Rattle.lk_devices.specs.declared.transfer.ReadAllError.{ReadAllError}
use Rattle.lk_devices.specs.declared.transfer.ReadAllError.TheVariants.{TooLong, Failed, NoMemory}

-- the source, where it tells what it has left, held these bytes and no others
abbrev pub HoldsExactly : Option (List ℕ) → List ℕ → Type 0
HoldsExactly left bytes = IfSome left (λ held. held ≡ bytes)

-- the source, where it tells what it has left, held more bytes than the limit
abbrev pub HoldsMore : Option (List ℕ) → ℕ → Type 0
HoldsMore left limit = IfSome left (λ held. limit < length held)

-- only a failed read raised the count of faults
abbrev pub ReadAllHasCause : {A : Type 0} → Result A ReadAllError → ℕ → ℕ → Type 0
ReadAllHasCause (Ok _) before after = after ≡ before
ReadAllHasCause (Err TooLong) before after = after ≡ before
ReadAllHasCause (Err Failed) before after = before < after
ReadAllHasCause (Err NoMemory) before after = after ≡ before
