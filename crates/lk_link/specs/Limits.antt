-- How long the lists of a link may be.
use Rattle.std.specs.Prelude.{ℕ, ◌+◌, ◌≤◌, List, find, if◌then◌else◌, length, nat_lt, sum_by}
use Rattle.std.specs.Int.{next_multiple_of}
use Rattle.std.specs.List.{flat_map}
use Rattle.std.specs.Option.{option_map_or}
use Rattle.lk_link.specs.declared.fault.Limited.{Limited}
use Rattle.lk_link.specs.declared.fault.Limited.TheVariants as limited
use Rattle.lk_link.specs.declared.file.InputFile.{InputFile}
use Rattle.lk_link.specs.declared.limits.TheConstants.{GROUPS, FILES, OUTPUT_SECTIONS, PARTS, SEGMENTS, REGIONS, EVENTS, SYMBOLS, INPUT_SECTIONS, CANDIDATES, RELOCATIONS, RELAXATIONS, NAME_BYTES, MERGE_BYTES, MERGE_UNIT}
use Rattle.lk_link.specs.declared.link.LinkInput.{LinkInput}
use Rattle.lk_link.specs.declared.section.InputSection.{InputSection}
use Rattle.lk_link.specs.InputSlots.{is_merge}
use Rattle.lk_link.specs.Inputs.{input_count}
use Rattle.lk_link.specs.Parts.{all_parts}
use Rattle.lk_link.specs.Symbols.{all_files, symbol_count}

-- ---- counts over files

-- a number of each file, added up over all files
abbrev pub over_files : (InputFile → ℕ) → List (List InputFile) → ℕ
over_files f groups = sum_by (λ files. sum_by f files) groups

-- the files of all groups
abbrev pub file_count : LinkInput → ℕ
file_count link = sum_by length link.groups

-- the candidates of all files
abbrev pub candidate_count : LinkInput → ℕ
candidate_count link = over_files (λ f. length f.candidates) link.groups

-- the names of a file's symbols and sections, one more byte for each
abbrev pub file_name_bytes : InputFile → ℕ
file_name_bytes f = sum_by (λ s. length s.name + 1) f.symbols + sum_by (λ s. length s.name + 1) f.sections

-- the names of all symbols, output sections and input sections, one more byte for each
abbrev pub name_bytes : LinkInput → ℕ
name_bytes link = sum_by (λ s. length s.name + 1) link.plan.sections + over_files file_name_bytes link.groups

-- the bytes of a merge section, rounded up to a multiple of the unit
abbrev pub merge_size : InputSection → ℕ
merge_size s = if is_merge s.slot then next_multiple_of (length s.bytes) MERGE_UNIT else 0

-- those of all merge sections
abbrev pub merge_bytes : LinkInput → ℕ
merge_bytes link = over_files (λ f. sum_by merge_size f.sections) link.groups

-- ---- lists of one input section

-- the sections of all files, in order
abbrev pub all_sections : List (List InputFile) → List InputSection
all_sections groups = flat_map (λ f. f.sections) (all_files groups)

-- the length of the first section's list that is longer than it may be, and 0 where none is
abbrev pub first_length_past : ℕ → (InputSection → ℕ) → List InputSection → ℕ
first_length_past most len sections = option_map_or len (find (λ s. nat_lt most (len s)) sections) 0

-- ---- all limits

-- how long a list may be
unfoldable pub limit_of : Limited → ℕ
limit_of limited.Groups = GROUPS
limit_of limited.Files = FILES
limit_of limited.OutputSections = OUTPUT_SECTIONS
limit_of limited.Parts = PARTS
limit_of limited.Segments = SEGMENTS
limit_of limited.Regions = REGIONS
limit_of limited.Events = EVENTS
limit_of limited.Symbols = SYMBOLS
limit_of limited.InputSections = INPUT_SECTIONS
limit_of limited.Candidates = CANDIDATES
limit_of limited.Relocations = RELOCATIONS
limit_of limited.Relaxations = RELAXATIONS
limit_of limited.NameBytes = NAME_BYTES
limit_of limited.MergeBytes = MERGE_BYTES

-- how long it is
unfoldable pub counted : LinkInput → Limited → ℕ
counted link limited.Groups = length link.groups
counted link limited.Files = file_count link
counted link limited.OutputSections = length link.plan.sections
counted link limited.Parts = length (all_parts link.plan.sections)
counted link limited.Segments = length link.plan.segments
counted link limited.Regions = length link.plan.regions
counted link limited.Events = length link.plan.events
counted link limited.Symbols = symbol_count (all_files link.groups)
counted link limited.InputSections = input_count link.groups
counted link limited.Candidates = candidate_count link
counted link limited.Relocations = first_length_past (limit_of limited.Relocations) (λ s. length s.relocs) (all_sections link.groups)
counted link limited.Relaxations = first_length_past (limit_of limited.Relaxations) (λ s. length s.relax) (all_sections link.groups)
counted link limited.NameBytes = name_bytes link
counted link limited.MergeBytes = merge_bytes link

-- each list is within its limit
pub record AreFew (link : LinkInput) : Type 0 where
  pub groups : length link.groups ≤ GROUPS
  pub files : file_count link ≤ FILES
  pub sections : length link.plan.sections ≤ OUTPUT_SECTIONS
  pub parts : length (all_parts link.plan.sections) ≤ PARTS
  pub segments : length link.plan.segments ≤ SEGMENTS
  pub regions : length link.plan.regions ≤ REGIONS
  pub events : length link.plan.events ≤ EVENTS
  pub symbols : symbol_count (all_files link.groups) ≤ SYMBOLS
  pub inputs : input_count link.groups ≤ INPUT_SECTIONS
  pub candidates : candidate_count link ≤ CANDIDATES
  pub names : name_bytes link ≤ NAME_BYTES
  pub merged : merge_bytes link ≤ MERGE_BYTES
