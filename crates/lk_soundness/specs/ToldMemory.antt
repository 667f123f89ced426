-- What a layout tells of memory: it stays where sections are moved in the file, and where sections and segments are told anew.
use Rattle.std.specs.Prelude.{◌≡◌, ℕ, List, Option, Ok, map, option_map}
use Rattle.lk_link.specs.declared.link.LinkInput.{LinkInput}
use Rattle.lk_expressions.specs.Records.{Record}
use Rattle.lk_place.specs.declared.segments.SegmentFileLayout.{SegmentFileLayout}
use Rattle.lk_place.specs.declared.segments.SegmentFileLayout.TheVariants.{FromSections}
use Rattle.lk_layout.specs.Defined.{IsDefined}
use Rattle.lk_layout.specs.LayoutRecord.{LayoutRecord}
use Rattle.lk_layout.specs.Machines.{Machine}
use Rattle.lk_layout.specs.Refreshed.{after_move, refreshed}

-- where a record starts in memory, and how many bytes it spans there
abbrev pub memory_of : Record → ℕ × ℕ
memory_of r = (r.mem_offset, r.mem_size)

-- that of each output section, of each with its secondaries, and of each part; that of each active segment, with its number; and that of
-- the thread-local one
pub record ToldMemory : Type 0 where
  pub sections : List (ℕ × ℕ)
  pub merged : List (ℕ × ℕ)
  pub parts : List (ℕ × ℕ)
  pub segments : List (ℕ × (ℕ × ℕ))
  pub thread_local : Option (ℕ × ℕ)

abbrev pub told_memory : LayoutRecord → ToldMemory
told_memory layout = record {
  sections = map memory_of layout.section_layouts;
  merged = map memory_of layout.merged_section_layouts;
  parts = map memory_of layout.section_part_layouts;
  segments = map (λ l. (l.id, memory_of l.sizes)) layout.segment_layouts;
  thread_local = option_map memory_of layout.tls_layout;
}

-- what is told of sections with their secondaries and of segments spans the memory that it would, if it were told anew
abbrev pub SpansItsSections : LayoutRecord → Type 0
SpansItsSections layout = told_memory (refreshed FromSections layout) ≡ told_memory layout

-- a layout tells the memory that another did, and would, if it were told anew
pub record StaysInMemory (old new : LayoutRecord) : Type 0 where
  pub same : told_memory new ≡ told_memory old
  pub spans : SpansItsSections new

-- so does a defined layout; a call that moves a section keeps that and all that is told of memory, and so does one that tells sections and
-- segments anew, in any kind of file
pub record MemoryStays : Type 0 where
  pub defined : (machine : Machine) (link : LinkInput) (layout : LayoutRecord) → IsDefined machine link (Ok layout) → SpansItsSections layout
  pub moved : (layout : LayoutRecord) (section start : ℕ) (end : Option ℕ) → SpansItsSections layout → StaysInMemory layout (after_move layout section start end)
  pub refreshed : (kind : SegmentFileLayout) (layout : LayoutRecord) → SpansItsSections layout → StaysInMemory layout (refreshed kind layout)
