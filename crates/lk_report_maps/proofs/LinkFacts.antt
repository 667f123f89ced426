-- What a link tells: the sizes of its input sections and of the stack.
use Rattle.std.proofs.Common.{◌<◌, ◌^◌, List, subst}
use mir.Syntax.{w64}
use denote.Struct.Declared.{shape}
use denote.Known.{Known, Knowns, declared_known, struct_known, uint_known, view_known}
use Rattle.lk_link.specs.contracts.file.InputFile as file_row
use Rattle.lk_link.specs.contracts.groups.InputGroups as groups_row
use Rattle.lk_link.specs.contracts.groups.InputGroups.TheInside as groups_inside
use Rattle.lk_link.specs.contracts.input_sections.InputSections as sections_row
use Rattle.lk_link.specs.contracts.input_sections.InputSections.TheInside as sections_inside
use Rattle.lk_link.specs.contracts.link.LinkInput as link_row
use Rattle.lk_link.specs.contracts.list.List as list_row
use Rattle.lk_link.specs.contracts.options.Options as options_row
use Rattle.lk_link.specs.contracts.section.InputSection as section_row
use Rattle.lk_link.specs.declared.file.InputFile.{InputFile}
use Rattle.lk_link.specs.declared.link.LinkInput.{LinkInput}
use Rattle.lk_link.specs.declared.section.InputSection.{InputSection}
use Rattle.lk_report_maps.proofs.TypeFacts.{◌&◌, AreFew, nothing, of_list, told_so}

abbrev pub of_section : Known section_row.the_row
of_section =
    declared_known section_row.the_type
    (nothing & nothing & nothing & uint_known w64 & nothing & nothing & nothing & nothing & nothing & nothing & nothing & nothing & tt)

-- the size of an input section is below 2^64
abbrev pub IsShortSection : InputSection → Type 0
IsShortSection s = s.size < 2 ^ 64

pub section_tells : (s : InputSection) → of_section.Fact s → IsShortSection s
section_tells s f = f.1.1.1.0

abbrev pub of_sections_inside : Known sections_inside.the_row
of_sections_inside = declared_known sections_inside.the_type (of_list section_row.the_row (told_so section_row.the_row of_section IsShortSection section_tells) & nothing & tt)

abbrev pub of_sections : Known sections_row.the_row
of_sections = view_known sections_inside.the_row of_sections_inside (List InputSection) (sections_row.the_row).coded sections_row.the_view sections_row.the_invariant

abbrev pub of_file : Known file_row.the_row
of_file = declared_known file_row.the_type (nothing & nothing & nothing & of_sections & nothing & nothing & nothing & nothing & tt)

-- the sections of a file are few, and their sizes are short
abbrev pub IsShortFile : InputFile → Type 0
IsShortFile f = AreFew IsShortSection f.sections

pub file_tells : (f : InputFile) → of_file.Fact f → IsShortFile f
file_tells f t = subst (AreFew IsShortSection) t.1.1.1.0.1.0 t.1.1.1.0.2.0

abbrev pub of_groups_inside : Known groups_inside.the_row
of_groups_inside =
    declared_known groups_inside.the_type
    (of_list (list_row.the_row file_row.the_row) (of_list file_row.the_row (told_so file_row.the_row of_file IsShortFile file_tells)) & nothing & nothing & nothing & nothing & nothing & tt)

abbrev pub of_groups : Known groups_row.the_row
of_groups = view_known groups_inside.the_row of_groups_inside (List (List InputFile)) (groups_row.the_row).coded groups_row.the_view groups_row.the_invariant

abbrev pub of_options_parts : Knowns (shape options_row.the_type).fields
of_options_parts =
    nothing & nothing & nothing & nothing & nothing & nothing & nothing & nothing & nothing & nothing & nothing & uint_known w64 & nothing & nothing & nothing & nothing & nothing & tt

abbrev pub of_link : Known link_row.the_row
of_link = declared_known link_row.the_type (struct_known (shape options_row.the_type) of_options_parts & nothing & of_groups & tt)

-- the stack is short; groups are few, and so are the files of each, and the sections of each of these, whose sizes are short
pub record IsShortLink (link : LinkInput) : Type 0 where
  pub stack : link.options.stack < 2 ^ 64
  pub groups : AreFew (AreFew IsShortFile) link.groups

pub link_tells : (link : LinkInput) → of_link.Fact link → IsShortLink link
link_tells link t = record { stack = t.0.1.1.1.1.1.1.1.1.1.1.1.0; groups = subst (AreFew (AreFew IsShortFile)) t.1.1.0.1.0 t.1.1.0.2.0 }
