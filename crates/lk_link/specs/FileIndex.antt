-- An index of the files, symbols and input sections of a link by their numbers: the words of the index behind a model.
use Rattle.std.specs.Prelude.{ℕ, List, length}
use Rattle.lk_link.specs.declared.file.InputFile.{InputFile}
use Rattle.lk_link.specs.Ends.{AreEnds}
use Rattle.lk_link.specs.Inputs.{sections_in}
use Rattle.lk_link.specs.Symbols.{all_files, symbols_in}

-- where the symbols and the sections of each file end
pub record AreFileEnds (files : List InputFile) (symbol_ends section_ends : List ℕ) : Type 0 where
  pub symbols : AreEnds symbols_in symbol_ends files
  pub sections : AreEnds sections_in section_ends files

-- where the files of each group end, and the symbols and the sections of each file
pub record IsFileIndex (groups : List (List InputFile)) (file_ends symbol_ends section_ends : List ℕ) : Type 0 where
  pub by_group : AreEnds (λ files. length files) file_ends groups
  pub by_file : AreEnds symbols_in symbol_ends (all_files groups)
  pub by_section : AreEnds sections_in section_ends (all_files groups)
