-- Words of private contracts: the lines of live sections and of singletons, section by section; the first also file by file and group by group.
use Rattle.std.specs.Prelude.{ℕ, ◌+◌, if◌then◌else◌, List, []}
use Rattle.std.specs.List.{flat_map}
use Rattle.lk_link.specs.declared.link.LinkInput.{LinkInput}
use Rattle.lk_link.specs.Inputs.{Input, NumberedFile, input_number, inputs_from}
use Rattle.lk_link.specs.Marks.{is_marked}
use Rattle.lk_live.specs.ByGroups.{files_in}
use Rattle.lk_layout.specs.LayoutRecord.{LayoutRecord}
use Rattle.lk_layout.specs.Layouts.{is_told_singleton, told_section}
use Rattle.lk_sizes.specs.declared.addresses.LiveSection.{LiveSection}
use Rattle.lk_report.specs.Report.{live_line, single_line}

-- an input section, told as live at an address, so many bytes large
abbrev pub told_at : Input → ℕ → ℕ → LiveSection
told_at x address size = record { file = x.file; index = x.index; address = address; size = size }

-- what is told of an input section with its number: its line, if it is live
abbrev pub input_text : LinkInput → LayoutRecord → ℕ × Input → List ℕ
input_text link layout q = if is_marked layout.live_marks q.0 then live_line (told_section link layout q) else []

-- the lines of a file's live sections
abbrev pub file_lines : LinkInput → LayoutRecord → NumberedFile → List ℕ
file_lines link layout f = flat_map (λ x. input_text link layout (input_number link.groups x.file x.index, x)) (inputs_from f.id 0 f.file.sections)

-- those of the files of the group with this number
abbrev pub group_lines : LinkInput → LayoutRecord → ℕ → List ℕ
group_lines link layout g = flat_map (file_lines link layout) (files_in link.groups g)

-- the line of an input section with its number, with this index in the output, where it is a singleton that is told; else nothing
abbrev pub single_text : LinkInput → LayoutRecord → ℕ → ℕ × Input → List ℕ
single_text link layout index q = if is_told_singleton link layout q then single_line index q.1 else []

-- the index that is free behind it
abbrev pub index_behind : LinkInput → LayoutRecord → ℕ → ℕ × Input → ℕ
index_behind link layout index q = if is_told_singleton link layout q then index + 1 else index
