-- A description whose groups are read in pieces of its text: the words of private contracts.
use Rattle.std.specs.Prelude.{◌≡◌, List, Some, Ok}
use Rattle.serde_json.specs.Data.{object, Members}
use Rattle.lk_link.specs.declared.file.InputFile.{InputFile}
use Rattle.lk_link.specs.declared.link.LinkInput.{LinkInput}
use Rattle.lk_input.specs.declared.read.LinkMembers.{LinkMembers}
use Rattle.lk_input.specs.LargeMembers.{link_from}

-- the large member of the description, once its groups were read
abbrev pub these_groups : List (List InputFile) → LinkMembers
these_groups groups = record { groups = Some (Ok groups) }

-- these groups and these other members make this description
abbrev pub Makes : List (List InputFile) → Members → LinkInput → Type 0
Makes groups others link = link_from (these_groups groups) (object others) ≡ Ok link
