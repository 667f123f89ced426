-- What the symbols stand at that the linker itself places: edges of output sections, of thread-local data, and of what is loaded.
use Rattle.std.specs.Prelude.{◌≡◌, ℕ, ◌∷◌, List, Option, Some, None, filter, find, map, option_and_then, option_map, slice_index}
use Rattle.std.specs.Int.{next_multiple_of}
use Rattle.std.specs.List.{enumerate_from}
use Rattle.std.specs.Option.{option_map_or}
use Rattle.lk_link.specs.declared.plan.Plan.{Plan}
use Rattle.lk_link.specs.declared.plan.PlanSection.{PlanSection}
use Rattle.lk_link.specs.declared.symbol.SymbolPlacement.{SymbolPlacement}
use Rattle.lk_link.specs.declared.symbol.SymbolPlacement.TheVariants as at
use Rattle.lk_link.specs.SegmentKinds.{is_load, segment_at}
use Rattle.lk_expressions.specs.Records.{Record, mem_end, record_at}
use Rattle.lk_place.specs.declared.segments.SegmentLayout.{SegmentLayout}
use Rattle.lk_place.specs.Secondaries.{is_secondary_to}
use Rattle.lk_place.specs.Segments.{end_refusal, greatest, thread_local_one}

-- what the edges are read off: the records of all output sections, each by itself; for each of them the greatest end of it and of those
-- that are secondary to it; the end of thread-local data; and where what is loaded begins, if anything is
pub record Edges : Type 0 where
  pub sections : List Record
  pub group_ends : List ℕ
  pub thread_local_end : ℕ
  pub load_base : Option ℕ

-- ---- ends of groups

-- the numbers of the sections that are secondary to this one
abbrev pub secondaries_of : List PlanSection → ℕ → List ℕ
secondaries_of sections s = map (λ q. q.0) (filter (λ q. is_secondary_to s q.1) (enumerate_from 0 sections))

-- the greatest end in memory of a section and of those that are secondary to it
abbrev pub group_end : List PlanSection → List Record → ℕ → ℕ
group_end sections records s = greatest 0 (map (λ t. mem_end (record_at records t)) (s ∷ secondaries_of sections s))

abbrev pub group_ends : List PlanSection → List Record → List ℕ
group_ends sections records = map (λ q. group_end sections records q.0) (enumerate_from 0 sections)

-- ---- segments

-- the end of a segment, rounded up to its alignment; 0 where there is none
abbrev pub rounded_end : Option SegmentLayout → ℕ
rounded_end segment = option_map_or (λ l. next_multiple_of (mem_end l.sizes) l.sizes.alignment) segment 0

-- that of the thread-local segment among these is below 2^64
abbrev pub EndsBelow : Plan → List SegmentLayout → Type 0
EndsBelow plan segments = option_and_then end_refusal (thread_local_one plan segments) ≡ None

-- the first segment among these that is loaded into memory, if there is one
abbrev pub first_load : Plan → List SegmentLayout → Option SegmentLayout
first_load plan segments = find (λ l. is_load (segment_at plan.segments l.id).kind) segments

-- ---- all edges

-- those of a plan, by the records of its sections, each by itself, and the layouts of its active segments
abbrev pub edges_of : Plan → List Record → List SegmentLayout → Edges
edges_of plan records segments = record {
  sections = records;
  group_ends = group_ends plan.sections records;
  thread_local_end = rounded_end (thread_local_one plan segments);
  load_base = option_map (λ l. l.sizes.mem_offset) (first_load plan segments);
}

-- what a placement in the prelude, in a synthetic file or in a script stands at: where what is loaded begins only if anything is, an
-- edge, else 0, as what isn't defined there, and a redirect until its turn; other files have none of these placements
abbrev pub edge_value : Edges → SymbolPlacement → Option ℕ
edge_value edges (at.SectionStart s) = Some (record_at edges.sections s).mem_offset
edge_value edges (at.SectionEnd s) = Some (mem_end (record_at edges.sections s))
edge_value edges (at.SectionGroupEnd s) = Some (slice_index edges.group_ends s)
edge_value edges at.TlsEnd = Some edges.thread_local_end
edge_value edges at.LoadBaseAddress = edges.load_base
edge_value edges at.Undefined = Some 0
edge_value edges at.ForceUndefined = Some 0
edge_value edges (at.Redirect e l provide) = Some 0
edge_value edges _ = None
