-- What is found group by group. Contracts of private functions speak of it.
use Rattle.std.specs.Prelude.{ℕ, List, Option}
use Rattle.std.specs.List.{AllZip, flat_map}
use Rattle.lk_link.specs.declared.resolution.Resolution.{Resolution}
use Rattle.lk_link.specs.Inputs.{NumberedFile, numbered_files}
use Rattle.lk_link.specs.Symbols.{first_symbol}
use Rattle.lk_live.specs.ByGroups.{files_in}
use Rattle.lk_resolutions.specs.declared.entries.NextEntries.{NextEntries}
use Rattle.lk_resolutions.specs.Entries.{EntrySetting}
use Rattle.lk_resolutions.specs.EntryWords.{AreNextAt}
use Rattle.lk_resolutions.specs.Resolutions.{ValueAddresses, file_resolutions}

-- the entries of a file's first symbol come next
abbrev pub AreNextOf : EntrySetting → NumberedFile → NextEntries → Type 0
AreNextOf by f next = AreNextAt by (first_symbol by.link.groups f.id) next

-- so it is with these of each file, in the order of files
abbrev pub AreNextByFile : EntrySetting → List NextEntries → Type 0
AreNextByFile by starts = AllZip (AreNextOf by) (numbered_files by.link.groups) starts

-- for each symbol of the group with this number its resolution, if it has one
abbrev pub group_resolutions : ValueAddresses → EntrySetting → ℕ → List (Option Resolution)
group_resolutions places by g = flat_map (file_resolutions places by) (files_in by.link.groups g)
