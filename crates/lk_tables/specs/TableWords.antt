-- What the code goes by where it looks at the symbols of a file. Contracts of private functions speak of these.
use Rattle.std.specs.Prelude.{◌≡◌, ℕ, ◌^◌, ◌<◌, Some}
use Rattle.lk_link.specs.declared.link.LinkInput.{LinkInput}
use Rattle.lk_link.specs.Files.{file_in}
use Rattle.lk_link.specs.Inputs.{NumberedFile, first_input}
use Rattle.lk_link.specs.WellFormed.{IsWellFormed}

-- a file of a well-formed link, and the number of its first input section
pub record IsLookedAt (link : LinkInput) (f : NumberedFile) (first : ℕ) : Type 0 where
  pub good : IsWellFormed link
  pub there : file_in link.groups f.id ≡ Some f.file
  pub number : first ≡ first_input link.groups f.id
  pub few : first < 2 ^ 32
