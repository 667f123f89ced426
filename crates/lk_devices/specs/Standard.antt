-- Readers and writers of the system.
use Rattle.std.specs.Prelude.{ℕ}

-- a reader or a writer, and how often it has failed
pub record Counted (D : Type 0) : Type 0 where
  pub device : D
  pub faults : ℕ
