-- The rules on what files hold, looked at group by group: words of private contracts.
use Rattle.std.specs.Prelude.{◌&&◌, Bool, List, length}
use Rattle.std.specs.List.{list_all}
use Rattle.lk_link.specs.declared.file.InputFile.{InputFile}
use Rattle.lk_link.specs.declared.link.LinkInput.{LinkInput}
use Rattle.lk_link.specs.declared.plan.Plan.{Plan}
use Rattle.lk_link.specs.CandidateRules.{has_good_candidates}
use Rattle.lk_link.specs.DataRules.{has_whole_data}
use Rattle.lk_link.specs.ExpressionRules.{is_good_redirect}
use Rattle.lk_link.specs.InputRules.{is_good_input}
use Rattle.lk_link.specs.SymbolRules.{is_good_symbol}
use Rattle.lk_link.specs.TableRules.{has_tables}

-- whether each symbol of a file is good, and its redirect
abbrev pub has_good_symbols : LinkInput → InputFile → Bool
has_good_symbols link f = list_all (λ s. is_good_symbol link f s && is_good_redirect link s.at) f.symbols

-- whether each section of a file is good, what its relocations want has a part, and its data are whole
abbrev pub has_good_sections : Plan → InputFile → Bool
has_good_sections plan f = list_all (λ s. is_good_input plan (length f.symbols) s && has_tables plan.named s && has_whole_data s) f.sections

-- whether all that a file holds is good
unfoldable pub is_good_file : LinkInput → InputFile → Bool
is_good_file link f = has_good_symbols link f && has_good_sections link.plan f && has_good_candidates link f

-- whether it is in all of some files
abbrev pub is_good_group : LinkInput → List InputFile → Bool
is_good_group link files = list_all (is_good_file link) files

-- whether it is in all files of a link
abbrev pub has_good_files : LinkInput → Bool
has_good_files link = list_all (is_good_group link) link.groups
