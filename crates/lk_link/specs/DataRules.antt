-- The rule on the data of input sections.
use Rattle.std.specs.Prelude.{◌==◌, ◌||◌, not, Bool, length}
use Rattle.std.specs.List.{list_all}
use Rattle.lk_link.specs.declared.file.InputFile.{InputFile}
use Rattle.lk_link.specs.declared.section.InputSection.{InputSection}
use Rattle.lk_link.specs.InputSlots.{is_merge}

-- where data are given for a section, in any slot but that of merge sections, they are as many bytes as its size
abbrev pub has_whole_data : InputSection → Bool
has_whole_data s = not s.given || is_merge s.slot || (length s.bytes == s.size)

-- those of all sections of a file
abbrev pub has_file_data : InputFile → Bool
has_file_data f = list_all has_whole_data f.sections
