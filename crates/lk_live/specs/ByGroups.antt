-- What is found group by group; what is at fault in a group is a word of private contracts.
use Rattle.std.specs.Prelude.{ℕ, Bool, List, []}
use Rattle.std.specs.List.{flat_map, slice_index_or}
use Rattle.lk_link.specs.declared.file.InputFile.{InputFile}
use Rattle.lk_link.specs.declared.link.LinkInput.{LinkInput}
use Rattle.lk_link.specs.Inputs.{NumberedFile, group_files}
use Rattle.lk_live.specs.declared.error.ReferenceFault.{ReferenceFault}
use Rattle.lk_live.specs.Faults.{file_faults}

-- the files of the group with this number
abbrev pub files_in : List (List InputFile) → ℕ → List NumberedFile
files_in groups g = group_files g 0 (slice_index_or groups g [])

-- what is at fault in that group, by marks of units
abbrev pub group_faults : LinkInput → List Bool → ℕ → List ReferenceFault
group_faults link marks g = flat_map (file_faults link marks) (files_in link.groups g)
