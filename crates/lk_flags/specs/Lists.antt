-- The lists that workers rest on.
use Rattle.std.specs.Prelude.{ℕ, Bool, List}
use Rattle.lk_link.specs.declared.file.InputFile.{InputFile}

-- the files of each group; which units are reached, by number; the words of flags at the start; and the words that they may become
pub record Lists : Type 0 where
  pub groups : List (List InputFile)
  pub units : List Bool
  pub handed : List ℕ
  pub words : List ℕ
