-- What output sections span together with their secondaries.
use Rattle.std.specs.Prelude.{ℕ, ◌+◌, ◌-◌, ◌^◌, ◌==◌, ◌&&◌, Bool, false, if◌then◌else◌, List, length, take, Option, Some, None}
use Rattle.std.specs.Prelude.{filter, fold, map, max, nat_lt, slice_get, option_map}
use Rattle.std.specs.List.{enumerate_from, filter_map}
use Rattle.std.specs.Option.{option_map_or}
use Rattle.lk_link.specs.declared.fault.Place.TheVariants as place
use Rattle.lk_link.specs.declared.plan.PlanSection.{PlanSection}
use Rattle.lk_link.specs.PlanSections.{section_at}
use Rattle.lk_place.specs.declared.error.PlaceError.{PlaceError}
use Rattle.lk_place.specs.declared.error.PlaceError.TheVariants.{AddressOverflow}
use Rattle.lk_expressions.specs.Records.{Record, file_end, is_filled, mem_end, nowhere, record_at}

-- how long a range gets by another one: it stretches to the other's end, or their sizes are added
abbrev pub joined_size : Bool → ℕ → ℕ → ℕ → ℕ → ℕ
joined_size stretches start size other_start other_size =
    if stretches then max (start + size) (other_start + other_size) - start else size + other_size

-- what a section spans with a secondary: from its own start, at the greater alignment if the secondary has bytes
abbrev pub joined : PlanSection → Record → Record → Record
joined secondary h r = record h {
  file_size = joined_size secondary.counters h.file_offset h.file_size r.file_offset r.file_size;
  mem_size = joined_size secondary.counters h.mem_offset h.mem_size r.mem_offset r.mem_size;
  alignment = if is_filled r then max h.alignment r.alignment else h.alignment;
}

-- whether a section is secondary to the one with this number
abbrev pub is_secondary_to : ℕ → PlanSection → Bool
is_secondary_to p section = option_map_or (λ m. m == p) section.primary false

-- the secondaries of a section among the first n sections, in order, with their numbers
abbrev pub secondaries_among : List PlanSection → ℕ → ℕ → List (ℕ × PlanSection)
secondaries_among sections n p = filter (λ q. is_secondary_to p q.1) (take n (enumerate_from 0 sections))

-- what a section spans with its secondaries among the first n sections
abbrev pub joined_among : List PlanSection → List Record → ℕ → ℕ → Record
joined_among sections records n p = fold (λ h q. joined q.1 h (record_at records q.0)) (record_at records p) (secondaries_among sections n p)

-- a secondary spans nothing by itself, any other section itself and all its secondaries
abbrev pub merged_among : List PlanSection → List Record → ℕ → ℕ → Record
merged_among sections records n s =
    option_map_or (λ _. nowhere) (section_at sections s).primary (joined_among sections records n s)

-- the records of all sections, each with its secondaries (libwild: `merge_secondary_parts`)
abbrev pub merged_records : List PlanSection → List Record → List Record
merged_records sections records = map (λ q. merged_among sections records (length sections) q.0) (enumerate_from 0 sections)

-- ---- ends past 64 bits

-- whether both ends are below 2^64
abbrev pub is_fitting : Record → Bool
is_fitting r = nat_lt (file_end r) (2 ^ 64) && nat_lt (mem_end r) (2 ^ 64)

-- the primary of section n, if with this section an end of it passes 2^64
abbrev pub overfull : List PlanSection → List Record → ℕ → Option ℕ → Option ℕ
overfull sections records n None = None
overfull sections records n (Some p) = if is_fitting (joined_among sections records (n + 1) p) then None else Some p

-- the same of a section with its number
abbrev pub overflowing : List PlanSection → List Record → (ℕ × PlanSection) → Option ℕ
overflowing sections records q = overfull sections records q.0 q.1.primary

-- the refusal of the first secondary with which its primary passes 2^64; it names the primary
abbrev pub merge_refusal : List PlanSection → List Record → Option PlaceError
merge_refusal sections records =
    option_map (λ p. AddressOverflow (place.Section p)) (slice_get (filter_map (overflowing sections records) (enumerate_from 0 sections)) 0)
