-- The keys of objects as the code names them: the words of private contracts.
use Rattle.std.specs.Prelude.{ℕ, List}
use Rattle.lk_input.specs.declared.read.LinkKey.{LinkKey}
use Rattle.lk_input.specs.declared.read.LinkKey.TheVariants as link
use Rattle.lk_input.specs.declared.read.file.FileKey.{FileKey}
use Rattle.lk_input.specs.declared.read.file.FileKey.TheVariants as file
use Rattle.lk_input.specs.declared.read.options.OptionKey.{OptionKey}
use Rattle.lk_input.specs.declared.read.options.OptionKey.TheVariants as option
use Rattle.lk_input.specs.declared.read.output_section.OutputSectionKey.{OutputSectionKey}
use Rattle.lk_input.specs.declared.read.output_section.OutputSectionKey.TheVariants as output
use Rattle.lk_input.specs.declared.read.plan.PlanKey.{PlanKey}
use Rattle.lk_input.specs.declared.read.plan.PlanKey.TheVariants as plan
use Rattle.lk_input.specs.declared.read.section.InputSectionKey.{InputSectionKey}
use Rattle.lk_input.specs.declared.read.section.InputSectionKey.TheVariants as section
use Rattle.lk_input.specs.declared.read.segment.RegionKey.{RegionKey}
use Rattle.lk_input.specs.declared.read.segment.RegionKey.TheVariants as region
use Rattle.lk_input.specs.declared.read.segment.SegmentKey.{SegmentKey}
use Rattle.lk_input.specs.declared.read.segment.SegmentKey.TheVariants as segment
use Rattle.lk_input.specs.declared.read.symbol.SymbolKey.{SymbolKey}
use Rattle.lk_input.specs.declared.read.symbol.SymbolKey.TheVariants as symbol
use Rattle.lk_input.specs.ReadingSteps.{written}

-- how a key of the description is written
abbrev pub link_key_text : LinkKey → List ℕ
link_key_text link.Options = written "options"
link_key_text link.Plan = written "plan"
link_key_text link.Groups = written "groups"

-- how a key of a file is written
abbrev pub file_key_text : FileKey → List ℕ
file_key_text file.Kind = written "kind"
file_key_text file.Name = written "name"
file_key_text file.Symbols = written "symbols"
file_key_text file.Sections = written "sections"
file_key_text file.Archive = written "archive"
file_key_text file.Export = written "export"
file_key_text file.Check = written "check"
file_key_text file.Candidates = written "candidates"

-- how a key of the options is written
abbrev pub option_key_text : OptionKey → List ℕ
option_key_text option.Output = written "output"
option_key_text option.Gc = written "gc"
option_key_text option.ErrorObjects = written "error_objects"
option_key_text option.ErrorDynamics = written "error_dynamics"
option_key_text option.ExportAll = written "export_all"
option_key_text option.ExportList = written "export_list"
option_key_text option.Restrictive = written "restrictive"
option_key_text option.StripAll = written "strip_all"
option_key_text option.Discard = written "discard"
option_key_text option.StripNames = written "strip_names"
option_key_text option.Identity = written "identity"
option_key_text option.Stack = written "stack"
option_key_text option.Entry = written "entry"
option_key_text option.Relax = written "relax"
option_key_text option.BranchRange = written "branch_range"
option_key_text option.BucketLimit = written "bucket_limit"
option_key_text option.MergeGroup = written "merge_group"

-- how a key of an output section is written
abbrev pub output_section_key_text : OutputSectionKey → List ℕ
output_section_key_text output.Name = written "name"
output_section_key_text output.Attrs = written "attrs"
output_section_key_text output.Align = written "align"
output_section_key_text output.Parts = written "parts"
output_section_key_text output.Primary = written "primary"
output_section_key_text output.Emit = written "emit"
output_section_key_text output.Region = written "region"
output_section_key_text output.At = written "at"
output_section_key_text output.Top = written "top"
output_section_key_text output.Counters = written "counters"

-- how a key of the plan is written
abbrev pub plan_key_text : PlanKey → List ℕ
plan_key_text plan.Page = written "page"
plan_key_text plan.Base = written "base"
plan_key_text plan.CustomBase = written "custom_base"
plan_key_text plan.CustomPhdrs = written "custom_phdrs"
plan_key_text plan.PhdrsHeaders = written "phdrs_headers"
plan_key_text plan.Sections = written "sections"
plan_key_text plan.Segments = written "segments"
plan_key_text plan.Regions = written "regions"
plan_key_text plan.Events = written "events"
plan_key_text plan.Got = written "got"
plan_key_text plan.Plt = written "plt"
plan_key_text plan.SymtabLocal = written "symtab_local"
plan_key_text plan.SymtabGlobal = written "symtab_global"
plan_key_text plan.Strtab = written "strtab"
plan_key_text plan.Dynsym = written "dynsym"
plan_key_text plan.Dynstr = written "dynstr"
plan_key_text plan.FileHeader = written "file_header"
plan_key_text plan.ProgramHeaders = written "program_headers"
plan_key_text plan.SectionHeaders = written "section_headers"
plan_key_text plan.Shstrtab = written "shstrtab"
plan_key_text plan.Comment = written "comment"
plan_key_text plan.Primary = written "primary"
plan_key_text plan.Singletons = written "singletons"

-- how a key of an input section is written
abbrev pub input_section_key_text : InputSectionKey → List ℕ
input_section_key_text section.Name = written "name"
input_section_key_text section.Slot = written "slot"
input_section_key_text section.Part = written "part"
input_section_key_text section.Size = written "size"
input_section_key_text section.Data = written "data"
input_section_key_text section.Strings = written "strings"
input_section_key_text section.Sorted = written "sorted"
input_section_key_text section.Attrs = written "attrs"
input_section_key_text section.Group = written "group"
input_section_key_text section.Relocs = written "relocs"
input_section_key_text section.Relax = written "relax"

-- how a key of a segment is written
abbrev pub segment_key_text : SegmentKey → List ℕ
segment_key_text segment.Kind = written "kind"
segment_key_text segment.Always = written "always"

-- how a key of a region is written
abbrev pub region_key_text : RegionKey → List ℕ
region_key_text region.Name = written "name"
region_key_text region.Origin = written "origin"
region_key_text region.Length = written "length"

-- how a key of a symbol is written
abbrev pub symbol_key_text : SymbolKey → List ℕ
symbol_key_text symbol.Name = written "name"
symbol_key_text symbol.At = written "at"
symbol_key_text symbol.Def = written "def"
symbol_key_text symbol.Flags = written "flags"
symbol_key_text symbol.Local = written "local"
symbol_key_text symbol.Weak = written "weak"
symbol_key_text symbol.Hidden = written "hidden"
