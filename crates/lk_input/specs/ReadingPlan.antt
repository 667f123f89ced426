-- What is read of the plan, in the order of its fields.
use Rattle.std.specs.Prelude.{[], Result, Ok, false}
use Rattle.serde_json.specs.Data.{Data}
use Rattle.lk_link.specs.Expressions.{number}
use Rattle.lk_link.specs.declared.plan.Plan.{Plan}
use Rattle.lk_link.specs.declared.plan.NamedParts.{NamedParts}
use Rattle.lk_input.specs.ReadingSteps.{Path, ◌>>=◌, number_of, index_of, truth_of, object, required, defaulted, optional, list_of, written}
use Rattle.lk_input.specs.ReadingExpressions.{expression_of}
use Rattle.lk_input.specs.ReadingOutputSections.{plan_section_of}
use Rattle.lk_input.specs.ReadingSegments.{plan_segment_of, region_of}
use Rattle.lk_input.specs.ReadingEvents.{order_event_of}

-- the parts that the plan names
unfoldable pub named_parts_of : Data → Result NamedParts Path
named_parts_of d = do
  got ← optional index_of (written "got") d
  plt ← optional index_of (written "plt") d
  symtab_local ← optional index_of (written "symtab_local") d
  symtab_global ← optional index_of (written "symtab_global") d
  strtab ← optional index_of (written "strtab") d
  dynsym ← optional index_of (written "dynsym") d
  dynstr ← optional index_of (written "dynstr") d
  file_header ← optional index_of (written "file_header") d
  program_headers ← optional index_of (written "program_headers") d
  section_headers ← optional index_of (written "section_headers") d
  shstrtab ← optional index_of (written "shstrtab") d
  comment ← optional index_of (written "comment") d
  primary ← optional index_of (written "primary") d
  Ok (record {
    got = got;
    plt = plt;
    symtab_local = symtab_local;
    symtab_global = symtab_global;
    strtab = strtab;
    dynsym = dynsym;
    dynstr = dynstr;
    file_header = file_header;
    program_headers = program_headers;
    section_headers = section_headers;
    shstrtab = shstrtab;
    comment = comment;
    primary = primary;
  })

-- the plan: its page must be given
unfoldable pub plan_of : Data → Result Plan Path
plan_of d = do
  _ ← object d
  page ← required number_of (written "page") d
  base ← defaulted (number 0) expression_of (written "base") d
  custom_base ← defaulted false truth_of (written "custom_base") d
  custom_phdrs ← defaulted false truth_of (written "custom_phdrs") d
  phdrs_headers ← defaulted false truth_of (written "phdrs_headers") d
  sections ← defaulted [] (list_of plan_section_of) (written "sections") d
  segments ← defaulted [] (list_of plan_segment_of) (written "segments") d
  regions ← defaulted [] (list_of region_of) (written "regions") d
  events ← defaulted [] (list_of order_event_of) (written "events") d
  named ← named_parts_of d
  singletons ← optional index_of (written "singletons") d
  Ok (record {
    page = page;
    base = base;
    custom_base = custom_base;
    custom_phdrs = custom_phdrs;
    phdrs_headers = phdrs_headers;
    sections = sections;
    segments = segments;
    regions = regions;
    events = events;
    named = named;
    singletons = singletons;
  })
