-- The input sections of a link, numbered over all files in order.
use Rattle.std.specs.Prelude.{◌≡◌, ℕ, ◌+◌, List, Some, length, map, slice_get, sum_by, take}
use Rattle.std.specs.List.{enumerate_from, flat_map}
use Rattle.lk_link.specs.declared.ids.FileId.{FileId}
use Rattle.lk_link.specs.declared.file.InputFile.{InputFile}
use Rattle.lk_link.specs.declared.section.InputSection.{InputSection}
use Rattle.lk_link.specs.Files.{file_in}
use Rattle.lk_link.specs.Symbols.{all_files, file_number}

-- a file, with the index of its group and its own index there
pub record NumberedFile : Type 0 where
  pub id : FileId
  pub file : InputFile

-- an input section, with its file and its index there
pub record Input : Type 0 where
  pub file : FileId
  pub index : ℕ
  pub section : InputSection

abbrev pub numbered_file : ℕ → ℕ × InputFile → NumberedFile
numbered_file g q = record { id = record { group = g; file = q.0 }; file = q.1 }

-- the files of a group, from index f on
abbrev pub group_files : ℕ → ℕ → List InputFile → List NumberedFile
group_files g f files = map (numbered_file g) (enumerate_from f files)

-- the files of groups, from group g on
abbrev pub files_from : ℕ → List (List InputFile) → List NumberedFile
files_from g groups = flat_map (λ q. group_files q.0 0 q.1) (enumerate_from g groups)

-- all files, by group and index
abbrev pub numbered_files : List (List InputFile) → List NumberedFile
numbered_files groups = files_from 0 groups

abbrev pub numbered_section : FileId → ℕ × InputSection → Input
numbered_section id q = record { file = id; index = q.0; section = q.1 }

-- the sections of a file, from index i on
abbrev pub inputs_from : FileId → ℕ → List InputSection → List Input
inputs_from id i sections = map (numbered_section id) (enumerate_from i sections)

-- the sections of some files
abbrev pub inputs_of : List NumberedFile → List Input
inputs_of files = flat_map (λ f. inputs_from f.id 0 f.file.sections) files

-- all input sections, by group, file and index
abbrev pub all_inputs : List (List InputFile) → List Input
all_inputs groups = inputs_of (numbered_files groups)

-- how many sections a file has
abbrev pub sections_in : InputFile → ℕ
sections_in file = length file.sections

-- how many sections files have
abbrev pub section_count : List InputFile → ℕ
section_count files = sum_by (λ f. length f.sections) files

-- how many input sections there are
abbrev pub input_count : List (List InputFile) → ℕ
input_count groups = section_count (all_files groups)

-- the number of a file's first section over all files
abbrev pub first_input : List (List InputFile) → FileId → ℕ
first_input groups id = section_count (take (file_number groups id) (all_files groups))

-- the number of an input section over all files
abbrev pub input_number : List (List InputFile) → FileId → ℕ → ℕ
input_number groups id index = first_input groups id + index

-- the sections of a file stand among all from its first one on, and there are as many as all files have
pub record InputsFollow : Type 0 where
  pub count : (groups : List (List InputFile)) → length (all_inputs groups) ≡ input_count groups
  pub at : (groups : List (List InputFile)) (id : FileId) (file : InputFile) (i : ℕ) (section : InputSection)
      → file_in groups id ≡ Some file
      → slice_get file.sections i ≡ Some section
      → slice_get (all_inputs groups) (input_number groups id i) ≡ Some (record { file = id; index = i; section = section })
