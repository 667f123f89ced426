-- The link that a seed and a number of objects give.
use Rattle.std.specs.Prelude.{ℕ, ◌+◌, ◌*◌, ◌-◌, ◌/◌, List, [], ◌∷◌, ◌++◌, Option, Some, None, true, false, if◌then◌else◌, ◌==◌, codes, map, min, pos}
use Rattle.std.specs.Fmt.{decimal}
use Rattle.std.specs.List.{range_with_len}
use Rattle.lk_link.specs.declared.file.FileKind.{FileKind}
use Rattle.lk_link.specs.declared.file.FileKind.TheVariants as kind
use Rattle.lk_link.specs.declared.file.InputFile.{InputFile}
use Rattle.lk_link.specs.declared.link.LinkInput.{LinkInput}
use Rattle.lk_link.specs.declared.options.DiscardLocals.TheVariants as discarded
use Rattle.lk_link.specs.declared.options.Options.{Options}
use Rattle.lk_link.specs.declared.options.OutputKind.TheVariants as output
use Rattle.lk_link.specs.declared.plan.Emit.TheVariants as emit
use Rattle.lk_link.specs.declared.plan.NamedParts.{NamedParts}
use Rattle.lk_link.specs.declared.plan.OrderEvent.TheVariants as event
use Rattle.lk_link.specs.declared.plan.Plan.{Plan}
use Rattle.lk_link.specs.declared.plan.PlanSection.{PlanSection}
use Rattle.lk_link.specs.declared.plan.SegmentKind.TheVariants as segment
use Rattle.lk_link.specs.declared.relocation.Relocation.{Relocation}
use Rattle.lk_link.specs.declared.relocation.RelocationKind.{RelocationKind}
use Rattle.lk_link.specs.declared.relocation.RelocationKind.TheVariants as relocation
use Rattle.lk_link.specs.declared.section.InputSection.{InputSection}
use Rattle.lk_link.specs.declared.section.InputSlot.{InputSlot}
use Rattle.lk_link.specs.declared.section.InputSlot.TheVariants as slot
use Rattle.lk_link.specs.declared.symbol.InputSymbol.{InputSymbol}
use Rattle.lk_link.specs.declared.symbol.SymbolPlacement.{SymbolPlacement}
use Rattle.lk_link.specs.declared.symbol.SymbolPlacement.TheVariants as placed
use Rattle.lk_link.specs.Expressions.{number}
use Rattle.lk_generator.specs.declared.objects.Drawn.{Drawn}
use Rattle.lk_generator.specs.Draws.{pick}

-- ---- options and plan

-- the options that a description has that gives none
abbrev pub default_options : Options
default_options = record {
  output = output.StaticExecutable;
  gc = true;
  error_objects = true;
  error_dynamics = true;
  export_all = false;
  export_list = None;
  restrictive = false;
  strip_all = false;
  discard = discarded.Default;
  strip_names = [];
  identity = None;
  stack = 0;
  entry = None;
  relax = false;
  branch_range = 0;
  bucket_limit = 268435456;
  merge_group = 140000;
}

-- an output section of one part that isn't packed, with a name, attributes and the part's alignment
abbrev pub one_part_section : List ℕ → ℕ → ℕ → PlanSection
one_part_section name attrs alignment = record {
  name = name;
  attrs = attrs;
  align = 1;
  parts = (record { alignment = alignment; packed = false }) ∷ [];
  primary = None;
  emit = emit.Auto;
  region = None;
  at = None;
  top = false;
  counters = false;
}

-- a plan that gives no part a meaning of its own
abbrev pub no_named_parts : NamedParts
no_named_parts = record {
  got = None;
  plt = None;
  symtab_local = None;
  symtab_global = None;
  strtab = None;
  dynsym = None;
  dynstr = None;
  file_header = None;
  program_headers = None;
  section_headers = None;
  shstrtab = None;
  comment = None;
  primary = None;
}

-- code, read-only data and data, in one load segment
abbrev pub generated_plan : Plan
generated_plan = record {
  page = 4096;
  base = number 4194304;
  custom_base = false;
  custom_phdrs = false;
  phdrs_headers = false;
  sections = one_part_section (codes ".text") 5 16 ∷ one_part_section (codes ".rodata") 1 1 ∷ one_part_section (codes ".data") 3 8 ∷ [];
  segments = (record { kind = segment.Load; always = false }) ∷ [];
  regions = [];
  events = event.SegmentStart 0 ∷ event.Section 0 ∷ event.Section 1 ∷ event.Section 2 ∷ event.SegmentEnd 0 ∷ [];
  named = no_named_parts;
  singletons = None;
}

-- ---- an object

-- what object i of so many draws: the six draws of its number
abbrev pub drawn : ℕ → ℕ → ℕ → Drawn
drawn seed size i = record {
  text_size = 16 + pick seed (6 * i + 1) 240;
  data_size = 8 + pick seed (6 * i + 2) 56;
  first_letter = 97 + pick seed (6 * i + 3) 26;
  last_letter = 97 + pick seed (6 * i + 4) 26;
  text_target = pick seed (6 * i + 5) size;
  data_target = pick seed (6 * i + 6) size;
}

-- a relocation without addend for which no thunk stands in, at an offset, of a kind, for a symbol
abbrev pub plain_relocation : ℕ → RelocationKind → ℕ → Relocation
plain_relocation offset kind symbol = record { offset = offset; addend = pos 0; symbol = symbol; kind = kind; thunkable = false }

-- a section without a name and without data, in no group, with a slot, a part, a size and attributes, and its relocations
abbrev pub plain_section : InputSlot → ℕ → ℕ → ℕ → List Relocation → InputSection
plain_section slot part size attrs relocs = record {
  name = [];
  slot = slot;
  part = part;
  size = size;
  bytes = [];
  given = false;
  strings = false;
  sorted = false;
  attrs = attrs;
  group = None;
  relocs = relocs;
  relax = [];
}

-- the code of object i: that of the first one is kept; it refers to two symbols of other objects, and to the strings
abbrev pub text_section : ℕ → ℕ → InputSection
text_section i size = plain_section (if i == 0 then slot.MustLoad else slot.Unloaded) 0 size 4
    (plain_relocation 0 relocation.Relative 3 ∷ plain_relocation 4 relocation.Absolute 4 ∷ plain_relocation 8 relocation.Absolute 2 ∷ [])

-- the strings of an object: one of a letter, and one of `x` and a letter
abbrev pub strings_section : ℕ → ℕ → InputSection
strings_section first last = record (plain_section slot.Merge 1 5 0 []) { bytes = first ∷ 0 ∷ 120 ∷ last ∷ 0 ∷ []; given = true; strings = true }

-- a symbol with a name, that stands somewhere, and the symbol that stands for it
abbrev pub plain_symbol : List ℕ → SymbolPlacement → Option ℕ → InputSymbol
plain_symbol name at def = record { name = name; at = at; def = def; flags = record { 0 = 0 }; local = false; weak = false; hidden = false }

-- the symbols of an object, by what it draws: its code and its data have names, its strings have none, and it names the code of one object
-- and the data of another
abbrev pub object_symbols : Drawn → List InputSymbol
object_symbols d =
    plain_symbol (codes "f") (placed.Section 0 0) None ∷ plain_symbol (codes "d") (placed.Section 1 0) None
    ∷ plain_symbol [] (placed.Section 2 0) None ∷ plain_symbol (codes "u") placed.Undef (Some (5 * d.text_target))
    ∷ plain_symbol (codes "v") placed.Undef (Some (5 * d.data_target + 1)) ∷ []

-- the sections of object i: its code; its data, in part 2, to be written; and its strings
abbrev pub object_sections : ℕ → Drawn → List InputSection
object_sections i d =
    text_section i d.text_size ∷ plain_section slot.Unloaded 2 d.data_size 2 [] ∷ strings_section d.first_letter d.last_letter ∷ []

-- a file of a kind, out of no archive, without a name, symbols, sections and candidates
abbrev pub empty_file : FileKind → InputFile
empty_file of = record {
  kind = of;
  name = [];
  symbols = [];
  sections = [];
  archive = false;
  export = false;
  check = false;
  candidates = [];
}

-- object i
abbrev pub object_of : ℕ → Drawn → InputFile
object_of i d = record (empty_file kind.Object) { name = codes "o" ++ decimal i; symbols = object_symbols d; sections = object_sections i d }

-- object i of a link
abbrev pub generated_object : ℕ → ℕ → ℕ → InputFile
generated_object seed size i = object_of i (drawn seed size i)

-- ---- groups

-- the linker's own file, without symbols
abbrev pub empty_prelude : InputFile
empty_prelude = empty_file kind.Prelude

-- the k-th group of objects: eight, or as many as are left
abbrev pub object_group : ℕ → ℕ → ℕ → List InputFile
object_group seed size k = map (generated_object seed size) (range_with_len (8 * k) (min 8 (size - 8 * k)))

-- the link that a seed and a number of objects give: the linker's own file, then the groups of all objects
abbrev pub generated_link : ℕ → ℕ → LinkInput
generated_link seed size = record {
  options = default_options;
  plan = generated_plan;
  groups = (empty_prelude ∷ []) ∷ map (object_group seed size) (range_with_len 0 ((size + 7) / 8));
}
