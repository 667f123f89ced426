-- The headers of a lawful machine take few bytes.
use Rattle.std.proofs.Common.{◌≡◌, ℕ, ◌+◌, ◌*◌, ◌-◌, ◌≤◌, ◌^◌, Bool, [], List, length, map, refl, ◌∙◌, arith}
use Rattle.std.specs.List.{enumerate_from}
use Rattle.std.proofs.Math.Nat.{min-le_left, mul-le-mul_left, mul-le-mul_right}
use Rattle.std.proofs.lemmas.List.{length-map}
use Rattle.std.proofs.lemmas.List.FromFn.{length-enumerate_from}
use Rattle.std.proofs.lemmas.List.Sums.{count_by-le-length, length-filter, sum_by-cons}
use Rattle.lk_live.specs.declared.live.Live.{Live}
use Rattle.lk_link.specs.declared.fault.Limited.TheVariants as limited
use Rattle.lk_link.specs.declared.limits.TheConstants.{SEGMENTS}
use Rattle.lk_link.specs.declared.link.LinkInput.{LinkInput}
use Rattle.lk_link.specs.declared.plan.PlanSegment.{PlanSegment}
use Rattle.lk_link.specs.declared.tables.TheConstants.{GREATEST_ENTRY}
use Rattle.lk_link.specs.Limits.{counted, limit_of}
use Rattle.lk_link.specs.WellFormed.{IsWellFormed}
use Rattle.lk_sizes.specs.Emitted.{active_segments, is_active}
use Rattle.lk_tables.specs.HeaderParts.{file_header_entries, program_header_entries, told_sum}
use Rattle.lk_tables.specs.SymbolTable.{FileEntry, SegmentEntry, TableEntry, entry_bytes}
use Rattle.lk_tables.proofs.HeaderLemmas.{sum_same}
use Rattle.lk_resolutions.specs.OutputContent.{output_content}
use Rattle.lk_link.specs.TableSizes.{TableSizes}

-- no more segments are active than there are
pub few_active : (sizes : TableSizes) (link : LinkInput) (live : Live) → IsWellFormed link → length (active_segments (output_content sizes link live)) ≤ SEGMENTS
unfolding counted limit_of
few_active sizes link live good =
    let numbers : List ℕ = map (λ (q : ℕ × PlanSegment). q.0) (enumerate_from 0 link.plan.segments) in
    let active : ℕ → Bool = is_active (output_content sizes link live) in
    let count : length numbers ≡ length link.plan.segments
    = length-map (enumerate_from 0 link.plan.segments) (λ (q : ℕ × PlanSegment). q.0) ∙ length-enumerate_from 0 link.plan.segments in
    let few : length link.plan.segments ≤ SEGMENTS = good.within limited.Segments in
    omega (arith, length-filter active numbers, count_by-le-length active numbers, count, few)

-- so their headers take few bytes
pub few_segment_bytes : (n : ℕ) (active : List ℕ) → n ≤ GREATEST_ENTRY → length active ≤ SEGMENTS → told_sum (entry_bytes (program_header_entries n active)) ≤ 4194304
few_segment_bytes n active small few =
    let bytes : ℕ = entry_bytes (program_header_entries n active) in
    let all : bytes ≡ n * length active = sum_same n (λ i. record { owner = SegmentEntry i; bytes = n }) active (λ i. refl) in
    let less : n * length active ≤ n * 64 = mul-le-mul_left n few in
    let most : n * 64 ≤ 65536 * 64 = mul-le-mul_right 64 small in
    let told : told_sum bytes ≤ bytes = min-le_left bytes (2 ^ 128 - 1) in
    omega (arith, told, all, less, most)

-- and so does that of the file
pub few_file_bytes : (n : ℕ) → n ≤ GREATEST_ENTRY → entry_bytes (file_header_entries n) ≤ 65536
few_file_bytes n small =
    let one : entry_bytes (file_header_entries n) ≡ n + 0 = sum_by-cons (λ (e : TableEntry). e.bytes) (record { owner = FileEntry; bytes = n }) [] in
    omega (arith, one, small)
