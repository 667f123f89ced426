-- What output sections and segments span.
use Rattle.std.specs.Prelude.{◌≡◌, ℕ, ◌-◌, ◌^◌, ◌==◌, ◌&&◌, ◌||◌, not, Bool, if◌then◌else◌, List, [], Option, Some, None, find, filter}
use Rattle.std.specs.Prelude.{◌∷◌, fold, map, max, min, nat_lt}
use Rattle.std.specs.Int.{next_multiple_of}
use Rattle.std.specs.List.{before_first, enumerate_from, filter_map, last_or, list_any}
use Rattle.std.specs.Option.{option_and_then, option_map_or, option_or}
use Rattle.lk_link.specs.declared.fault.Place.TheVariants as place
use Rattle.lk_link.specs.declared.link.LinkInput.{LinkInput}
use Rattle.lk_link.specs.declared.plan.Plan.{Plan}
use Rattle.lk_link.specs.declared.plan.PlanSection.{PlanSection}
use Rattle.lk_link.specs.Inside.{placed_section, sections_inside, segment_insides}
use Rattle.lk_link.specs.OutputKinds.{is_partial}
use Rattle.lk_link.specs.Rules.{is_start}
use Rattle.lk_link.specs.PlanSections.{primary_of, is_allocated, is_zero_fill_thread_local}
use Rattle.lk_link.specs.SegmentKinds.{is_stack, is_tls, segment_at}
use Rattle.lk_place.specs.declared.error.PlaceError.{PlaceError}
use Rattle.lk_place.specs.declared.error.PlaceError.TheVariants.{AddressOverflow, NoMemory, SectionOutsideSegments}
use Rattle.lk_place.specs.declared.segments.SegmentFileLayout.{SegmentFileLayout}
use Rattle.lk_place.specs.declared.segments.SegmentFileLayout.TheVariants as kind
use Rattle.lk_place.specs.declared.segments.SegmentLayout.{SegmentLayout}
use Rattle.lk_place.specs.Alignments.{greatest_of}
use Rattle.lk_expressions.specs.Records.{Record, file_end, has_file_bytes, is_filled, mem_end, record_at}
use Rattle.lk_place.specs.Setting.{of_parts}

-- ---- hulls

-- the least of several numbers, this one where there is none
abbrev pub least : ℕ → List ℕ → ℕ
least none [] = none
least none (n ∷ ns) = fold min n ns

-- the greatest of several numbers, this one where there is none
abbrev pub greatest : ℕ → List ℕ → ℕ
greatest none [] = none
greatest none (n ∷ ns) = fold max n ns

-- what several span: from the least start to the greatest end, in the file and in memory, at the greatest alignment, loaded from the
-- least load address; of none, nowhere
abbrev pub hull : List Record → Record
hull rs =
    let first_byte = least 0 (map (λ r. r.file_offset) rs) in
    let first_address = least 0 (map (λ r. r.mem_offset) rs) in
    record {
      file_size = greatest 0 (map file_end rs) - first_byte;
      mem_size = greatest 0 (map mem_end rs) - first_address;
      alignment = greatest 1 (map (λ r. r.alignment) rs);
      file_offset = first_byte;
      mem_offset = first_address;
      lma_offset = least 0 (map (λ r. r.lma_offset) rs);
    }

-- ---- sections

-- a section spans its parts, at the greatest alignment of those with bytes, and at least at its own
-- (libwild: `layout_section_from_part_layouts`)
abbrev pub section_record : PlanSection → List Record → Record
section_record section parts =
    record (hull parts) { alignment = greatest_of section.align (map (λ r. r.alignment) (filter is_filled parts)) }

-- the records of a section's parts
abbrev pub part_records : List PlanSection → List Record → ℕ → List Record
part_records sections parts s = of_parts sections parts s

-- the records of all sections, by the records of all parts
abbrev pub section_records : List PlanSection → List Record → List Record
section_records sections parts = map (λ q. section_record q.1 (part_records sections parts q.0)) (enumerate_from 0 sections)

-- ---- segments

-- a section without bytes is skipped where its primary isn't emitted
abbrev pub is_skipped : Plan → List Record → (ℕ → Bool) → ℕ → Bool
is_skipped plan records emitted s = not (is_filled (record_at records s)) && not (emitted (primary_of plan.sections s))

-- a section inside a segment counts there, unless it is skipped; zero-fill thread-local ones count in thread-local segments alone
abbrev pub counts : Plan → List Record → (ℕ → Bool) → ℕ → ℕ → Bool
counts plan records emitted i s =
    not (is_skipped plan records emitted s) && (is_tls (segment_at plan.segments i).kind || not (is_zero_fill_thread_local plan s))

-- the stack: so many bytes of memory from 0 on, and none of the file
abbrev pub stack_record : ℕ → Record
stack_record size = record { file_size = 0; mem_size = size; alignment = 1; file_offset = 0; mem_offset = 0; lma_offset = 0 }

-- a segment spans the sections inside that count; only that of the stack is as long as the stack, and spans none
abbrev pub segment_record : Plan → ℕ → List Record → (ℕ → Bool) → ℕ → Record
segment_record plan stack records emitted i =
    if is_stack (segment_at plan.segments i).kind then stack_record stack
    else hull (map (record_at records) (filter (counts plan records emitted i) (sections_inside plan.events i)))

-- ---- compacted files

-- the section that is placed last before the opening of a segment, of those that aren't skipped, if there is one
abbrev pub last_before_opening : Plan → List Record → (ℕ → Bool) → ℕ → Option ℕ
last_before_opening plan records emitted i =
    last_or None (filter (λ s. not (is_skipped plan records emitted s)) (filter_map placed_section (before_first (is_start i) plan.events)))

-- its end in the file, 0 where there is none
abbrev pub compact_start : Plan → List Record → (ℕ → Bool) → ℕ → ℕ
compact_start plan records emitted i = option_map_or (λ s. file_end (record_at records s)) (last_before_opening plan records emitted i) 0

-- the greatest end in the file of these sections, of those with bytes of the file, and at least this
abbrev pub compact_end : List Record → ℕ → List ℕ → ℕ
compact_end records least inside = greatest_of least (map file_end (filter has_file_bytes (map (record_at records) inside)))

-- the sections inside a segment; the stack has none in the file
abbrev pub in_file_inside : Plan → ℕ → List ℕ
in_file_inside plan i = if is_stack (segment_at plan.segments i).kind then [] else sections_inside plan.events i

-- a segment in a file without gaps between segments: from the end of what stands before it to the end of all that stands inside
abbrev pub compacted : Plan → List Record → (ℕ → Bool) → ℕ → Record → Record
compacted plan records emitted i r =
    let start = compact_start plan records emitted i in
    record r { file_offset = start; file_size = compact_end records start (in_file_inside plan i) - start }

-- a segment's record in this kind of file
abbrev pub in_file : SegmentFileLayout → Plan → List Record → (ℕ → Bool) → ℕ → Record → Record
in_file kind.FromSections plan records emitted i r = r
in_file kind.Compacted plan records emitted i r = compacted plan records emitted i r

-- ---- the layouts

-- the layout of a segment
abbrev pub segment_layout : SegmentFileLayout → Plan → ℕ → List Record → (ℕ → Bool) → ℕ → SegmentLayout
segment_layout kind plan stack records emitted i =
    record { id = i; sizes = in_file kind plan records emitted i (segment_record plan stack records emitted i) }

-- the layouts of these segments (libwild: `compute_segment_layout`)
abbrev pub segment_layouts : SegmentFileLayout → Plan → ℕ → List Record → (ℕ → Bool) → List ℕ → List SegmentLayout
segment_layouts kind plan stack records emitted active = map (segment_layout kind plan stack records emitted) active

-- the thread-local segment among these, if there is one
abbrev pub thread_local_one : Plan → List SegmentLayout → Option SegmentLayout
thread_local_one plan layouts = find (λ l. is_tls (segment_at plan.segments l.id).kind) layouts

-- the greatest alignment of the sections inside a segment, by their records, and at least the page
abbrev pub alignment_inside : Plan → List Record → ℕ → ℕ
alignment_inside plan records i = greatest_of plan.page (map (λ s. (record_at records s).alignment) (sections_inside plan.events i))

-- ---- sections outside the segments

-- whether a section stands in a segment, by the sections inside each
abbrev pub is_in_segments : List (List ℕ) → ℕ → Bool
is_in_segments insides s = list_any (λ inside. list_any (λ t. t == s) inside) insides

-- whether a section isn't skipped, is allocated, and stands in no segment
abbrev pub is_outside : Plan → List Record → (ℕ → Bool) → ℕ → Bool
is_outside plan records emitted s =
    not (is_skipped plan records emitted s) && is_allocated plan s && not (is_in_segments (segment_insides plan) s)

-- the first such section in the order of events
abbrev pub found_outside : Plan → List Record → (ℕ → Bool) → Option ℕ
found_outside plan records emitted = find (is_outside plan records emitted) (filter_map placed_section plan.events)

-- sections may stand outside the segments where the program headers are asked for, and in partial output, which has no segments
abbrev pub may_stand_outside : LinkInput → Bool
may_stand_outside link = link.plan.custom_phdrs || is_partial link.options.output

-- the first section that stands outside and may not
abbrev pub first_outside : LinkInput → List Record → (ℕ → Bool) → Option ℕ
first_outside link records emitted = if may_stand_outside link then None else found_outside link.plan records emitted

-- the refusal of such a section
abbrev pub outside_refusal : Option ℕ → Option PlaceError
outside_refusal None = None
outside_refusal (Some s) = Some (SectionOutsideSegments s)

-- ---- the end of thread-local memory

-- the refusal of a segment whose end, rounded up to its alignment, passes 2^64
abbrev pub end_refusal : SegmentLayout → Option PlaceError
end_refusal l = if nat_lt (next_multiple_of (mem_end l.sizes) l.sizes.alignment) (2 ^ 64) then None else Some (AddressOverflow (place.Segment l.id))

-- the first refusal of segments: of a section outside them, else of the thread-local one
abbrev pub segments_refusal : SegmentFileLayout → LinkInput → List Record → (ℕ → Bool) → List ℕ → Option PlaceError
segments_refusal kind link records emitted active =
    option_or (outside_refusal (first_outside link records emitted))
    (option_and_then end_refusal (thread_local_one link.plan (segment_layouts kind link.plan link.options.stack records emitted active)))

-- memory aside, a call refuses with this
abbrev pub Refuses : PlaceError → Option PlaceError → Type 0
Refuses e refusal = (e ≡ NoMemory → ⊥) → refusal ≡ Some e
