-- Lists of input sections that are too long: the words of private contracts.
use Rattle.std.specs.Prelude.{ℕ, List, Option, option_map, find, length, nat_lt}
use Rattle.std.specs.List.{flat_map}
use Rattle.lk_link.specs.declared.file.InputFile.{InputFile}
use Rattle.lk_link.specs.declared.section.InputSection.{InputSection}
use Rattle.lk_check.specs.declared.lengths.SectionList.{SectionList}
use Rattle.lk_check.specs.declared.lengths.SectionList.TheVariants.{Relocations, Relaxations}

-- how long a section's list is
abbrev pub list_length : SectionList → InputSection → ℕ
list_length Relocations = λ s. length s.relocs
list_length Relaxations = λ s. length s.relax

-- the sections of some files
abbrev pub sections_of : List InputFile → List InputSection
sections_of files = flat_map (λ f. f.sections) files

-- the length of the first section's list that is longer than it may be
unfoldable pub long_list : ℕ → SectionList → List InputSection → Option ℕ
long_list most list sections = option_map (list_length list) (find (λ s. nat_lt most (list_length list s)) sections)
