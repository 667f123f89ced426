-- What a layout answers of symbols, of its sections' starts, and of thread-local data.
use Rattle.std.specs.Prelude.{◌≡◌, ℕ, ◌-◌, ◌≤◌, ◌<◌, bit_or, List, Option, Some, None, drop, filter, map, option_and_then, option_map, slice_get, slice_index, take}
use Rattle.std.specs.Int.{next_multiple_of}
use Rattle.std.specs.List.{enumerate_from}
use Rattle.std.specs.Option.{option_map_or}
use Rattle.lk_link.specs.declared.flags.ValueFlags.{ValueFlags}
use Rattle.lk_link.specs.declared.ids.SymbolIdRange.{SymbolIdRange}
use Rattle.lk_link.specs.declared.plan.attributes.TheConstants.{TLS}
use Rattle.lk_link.specs.declared.resolution.Resolution.{Resolution}
use Rattle.lk_link.specs.Alignments.{IsGreatestMultiple}
use Rattle.lk_link.specs.Parts.{part_sections}
use Rattle.lk_link.specs.PlanSections.{is_set}
use Rattle.lk_link.specs.Symbols.{definition_of}
use Rattle.lk_reach.specs.Units.{flags_from}
use Rattle.lk_expressions.specs.Records.{Record, mem_end, record_at}
use Rattle.lk_place.specs.Segments.{least}
use Rattle.lk_tables.specs.Late.{flags_at}
use Rattle.lk_layout.specs.LayoutRecord.{LayoutRecord}
use Rattle.lk_resolution_list.specs.Lists.{resolution_at}

-- ---- symbols

-- the flags of what stands for a symbol, by its number; none where there is no such symbol
abbrev pub definition_flags : LayoutRecord → ℕ → ValueFlags
definition_flags layout s = option_map_or (flags_at layout.flags) (definition_of layout.link.groups s) (flags_from 0)

-- the resolution of a symbol itself, if it has one
abbrev pub own_resolution : LayoutRecord → ℕ → Option Resolution
own_resolution layout s = resolution_at layout.symbol_resolutions s

-- that of what stands for it, if that has one
abbrev pub definition_resolution : LayoutRecord → ℕ → Option Resolution
definition_resolution layout s = option_and_then (own_resolution layout) (definition_of layout.link.groups s)

-- a resolution with these flags beside its own
abbrev pub with_flags : ValueFlags → Resolution → Resolution
with_flags flags r = record r { flags = flags_from (bit_or r.flags.0 flags.0) }

-- the resolution of what stands for a symbol, with these flags beside its own, if it has one
abbrev pub resolution_with : LayoutRecord → ℕ → ValueFlags → Option Resolution
resolution_with layout s flags = option_map (with_flags flags) (definition_resolution layout s)

-- the resolutions of the symbols of a range, as far as there are such symbols
abbrev pub resolutions_in : LayoutRecord → SymbolIdRange → List (Option Resolution)
resolutions_in layout range = take range.count (drop range.start layout.symbol_resolutions)

-- ---- output sections

-- where an output section starts in memory, by itself; 0 where there is no such section
abbrev pub section_start : LayoutRecord → ℕ → ℕ
section_start layout o = (record_at layout.section_layouts o).mem_offset

-- where the section starts that has the part for the GOT; nowhere where the plan names no part for it
abbrev pub got_start : LayoutRecord → Option ℕ
got_start layout = option_map (section_start layout) (option_and_then (slice_get (part_sections layout.link.plan.sections)) layout.link.plan.named.got)

-- ---- thread-local data, by what the active thread-local segment spans, if there is one

-- its start, 0 without one
abbrev pub segment_start : Option Record → ℕ
segment_start tls = option_map_or (λ r. r.mem_offset) tls 0

-- n is its start, rounded down to its alignment; 0 without one
abbrev pub IsAlignedStart : Option Record → ℕ → Type 0
IsAlignedStart None n = n ≡ 0
IsAlignedStart (Some r) n = IsGreatestMultiple r.alignment r.mem_offset n

-- its end, rounded up to its alignment; 0 without one
abbrev pub aligned_end : Option Record → ℕ
aligned_end tls = option_map_or (λ r. next_multiple_of (mem_end r) r.alignment) tls 0

-- the answer is the place so many bytes before its start, rounded down to its alignment, none exactly where memory begins behind that;
-- 0 without one
abbrev pub IsStartBefore : Option Record → ℕ → Option ℕ → Type 0
IsStartBefore None bytes answer = answer ≡ Some 0
IsStartBefore (Some r) bytes (Some n) = (bytes ≤ r.mem_offset) × IsGreatestMultiple r.alignment (r.mem_offset - bytes) n
IsStartBefore (Some r) bytes None = r.mem_offset < bytes

-- the starts of the sections whose attributes tell of thread-local data, by the attributes and records of all
abbrev pub thread_local_starts : List ℕ → List Record → List ℕ
thread_local_starts attributes records =
    map (λ q. q.1.mem_offset) (filter (λ q. is_set TLS (slice_index attributes q.0)) (enumerate_from 0 records))

-- the least of them, 0 where there is none
abbrev pub thread_local_data_start : LayoutRecord → ℕ
thread_local_data_start layout = least 0 (thread_local_starts layout.section_attributes layout.section_layouts)
