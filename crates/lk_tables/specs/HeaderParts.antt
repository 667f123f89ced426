-- What headers and the names of sections take.
use Rattle.std.specs.Prelude.{◌≡◌, ℕ, ◌+◌, ◌-◌, ◌^◌, Bool, List, [], ◌∷◌, ◌++◌, filter, length, map, min, sum_by}
use Rattle.std.specs.List.{filter_map}
use Rattle.lk_link.specs.declared.link.LinkInput.{LinkInput}
use Rattle.lk_link.specs.declared.plan.OrderEvent.{OrderEvent}
use Rattle.lk_link.specs.Inside.{placed_section}
use Rattle.lk_link.specs.Marks.{is_marked}
use Rattle.lk_link.specs.PlanSections.{section_at}
use Rattle.lk_link.specs.TableSizes.{TableSizes}
use Rattle.lk_live.specs.declared.live.Live.{Live}
use Rattle.lk_tables.specs.declared.header_info.HeaderInfo.{HeaderInfo}
use Rattle.lk_tables.specs.declared.headers.HeaderSizes.{HeaderSizes}
use Rattle.lk_tables.specs.Singletons.{input_name_bytes, singleton_name_bytes, singletons}
use Rattle.lk_tables.specs.SymbolTable.{FileEntry, SegmentEntry, TableEntry, entry_bytes, section_entry, singleton_entry}

-- the header of the file, so many bytes long
abbrev pub file_header_entries : ℕ → List TableEntry
file_header_entries bytes = record { owner = FileEntry; bytes = bytes } ∷ []

-- those of some segments, each so many bytes long
abbrev pub program_header_entries : ℕ → List ℕ → List TableEntry
program_header_entries bytes segments = map (λ i. record { owner = SegmentEntry i; bytes = bytes }) segments

-- the sections that events place, in order
abbrev pub event_sections : List OrderEvent → List ℕ
event_sections events = filter_map placed_section events

-- the emitted sections, in the order of their indexes
abbrev pub emitted_sections : LinkInput → List Bool → List ℕ
emitted_sections link emitted = filter (is_marked emitted) (event_sections link.plan.events)

-- how many sections have headers: the emitted ones, and singletons
abbrev pub section_count : LinkInput → Live → List Bool → ℕ
section_count link live emitted = length (emitted_sections link emitted) + length (singletons link live)

-- their headers, each so many bytes long: those of emitted sections, then those of singletons
abbrev pub section_header_entries : ℕ → LinkInput → Live → List Bool → List TableEntry
section_header_entries bytes link live emitted =
    map (section_entry bytes) (emitted_sections link emitted) ++ map (singleton_entry bytes) (singletons link live)

-- the bytes of a section's name, with a zero byte behind it
abbrev pub section_name_bytes : LinkInput → ℕ → ℕ
section_name_bytes link s = length (section_at link.plan.sections s).name + 1

-- their names, in the same order
abbrev pub section_name_entries : LinkInput → Live → List Bool → List TableEntry
section_name_entries link live emitted =
    map (λ s. section_entry (section_name_bytes link s) s) (emitted_sections link emitted)
    ++ map (λ x. singleton_entry (input_name_bytes x) x) (singletons link live)

-- the bytes of the names of emitted sections
abbrev pub emitted_name_bytes : LinkInput → List Bool → ℕ
emitted_name_bytes link emitted = sum_by (section_name_bytes link) (emitted_sections link emitted)

-- a sum as it is told: one past 2^128 - 1 as that
abbrev pub told_sum : ℕ → ℕ
told_sum n = min n (2 ^ 128 - 1)

-- what headers and names of sections take on a machine, by marks of emitted sections and the active segments
abbrev pub header_sizes : TableSizes → LinkInput → Live → List Bool → List ℕ → HeaderSizes
header_sizes sizes link live emitted active = record {
  file_header = entry_bytes (file_header_entries sizes.file_header);
  program_headers = told_sum (entry_bytes (program_header_entries sizes.program_header active));
  section_headers = told_sum (entry_bytes (section_header_entries sizes.section_header link live emitted));
  shstrtab = told_sum (entry_bytes (section_name_entries link live emitted));
}

-- what is told of headers has the numbers of a link's sections
pub record CountsSections (link : LinkInput) (live : Live) (header : HeaderInfo) : Type 0 where
  pub sections : header.num_output_sections_with_content ≡ section_count link live header.emitted
  pub names : header.partial_link_section_name_bytes ≡ singleton_name_bytes link live
