-- The files of a link, by groups.
use Rattle.std.specs.Prelude.{◌≤◌, List, Option, Some, None, option_and_then, length, sum_by, slice_get}
use Rattle.std.specs.Ordering.{ordering_then, nat_cmp}
use Rattle.std.specs.declared.cmp.Ordering.{Ordering}
use Rattle.lk_link.specs.declared.ids.FileId.{FileId}
use Rattle.lk_link.specs.declared.file.InputFile.{InputFile}
use Rattle.lk_link.specs.declared.limits.TheConstants.{GROUPS, FILES}

-- the file with this number
abbrev pub file_in : List (List InputFile) → FileId → Option InputFile
file_in groups id = option_and_then (λ group. slice_get group id.file) (slice_get groups id.group)

-- the first answer, else the second
unfoldable pub first_some : {X : Type 0} → Option X → Option X → Option X
first_some None other = other
first_some (Some x) other = Some x

-- groups and files few enough to be numbered by 32 bits
pub record AreNumbered (groups : List (List InputFile)) : Type 0 where
  pub few_groups : length groups ≤ GROUPS
  pub few_files : sum_by length groups ≤ FILES

-- files compare by group, then by their numbers there
abbrev pub file_cmp : FileId → FileId → Ordering
file_cmp a b = ordering_then (nat_cmp a.group b.group) (nat_cmp a.file b.file)
