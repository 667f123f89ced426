-- What is left of a walk over files and over input sections: the words of iterators.
use Rattle.std.specs.Prelude.{◌≡◌, ℕ, ◌+◌, ◌<◌, ◌^◌, List, ◌++◌, Some, length, slice_get}
use Rattle.lk_link.specs.declared.ids.FileId.{FileId}
use Rattle.lk_link.specs.declared.file.InputFile.{InputFile}
use Rattle.lk_link.specs.declared.section.InputSection.{InputSection}
use Rattle.lk_link.specs.declared.walks.FileRef.{FileRef}
use Rattle.lk_link.specs.declared.walks.InputRef.{InputRef}
use Rattle.lk_link.specs.Inputs.{NumberedFile, Input, group_files, files_from, inputs_from, inputs_of}

-- a lent file, as contracts see it
abbrev pub file_of : FileRef → NumberedFile
file_of f = record { id = f.id; file = f.file.now }

-- a lent section, as contracts see it
abbrev pub input_of : InputRef → Input
input_of x = record { file = x.file; index = x.index; section = x.section.now }

-- the files of group g from number f on, and those of the groups behind it
abbrev pub files_left : ℕ → ℕ → List InputFile → List (List InputFile) → List NumberedFile
files_left g f files groups = group_files g f files ++ files_from (g + 1) groups

-- the sections of a file from index i on, and those of the files behind it
abbrev pub inputs_left : FileId → ℕ → List InputSection → List NumberedFile → List Input
inputs_left id i sections files = inputs_from id i sections ++ inputs_of files

-- numbers up to the last group, and up to the last file of each group, are below 2^32
pub record AreFewLeft (g f : ℕ) (files : List InputFile) (groups : List (List InputFile)) : Type 0 where
  pub last_group : g + length groups < 2 ^ 32
  pub last_file : f + length files < 2 ^ 32
  pub others : (k : ℕ) (fs : List InputFile) → slice_get groups k ≡ Some fs → length fs < 2 ^ 32
