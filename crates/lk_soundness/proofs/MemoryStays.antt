-- What a layout tells of memory stays where sections are moved in the file and where all is told anew.
use Rattle.std.proofs.Common.{◌≡◌, ℕ, zero, suc, ◌+◌, Bool, true, false, List, [], ◌∷◌, ◌++◌, length, take, drop, Option, Some, None, Ok, map, refl, sym, ap, subst, ◌∙◌}
use Rattle.std.specs.Prelude.{fold, if◌then◌else◌, option_map, slice_set}
use Rattle.std.specs.List.{enumerate_from}
use Rattle.std.specs.Option.{option_map_or}
use Rattle.std.proofs.lemmas.List.{map-append}
use Rattle.lk_link.specs.declared.link.LinkInput.{LinkInput}
use Rattle.lk_link.specs.declared.plan.Plan.{Plan}
use Rattle.lk_link.specs.declared.plan.PlanSection.{PlanSection}
use Rattle.lk_link.specs.Marks.{is_marked}
use Rattle.lk_link.specs.Parts.{first_part}
use Rattle.lk_link.specs.PlanSections.{section_at}
use Rattle.lk_link.specs.SegmentKinds.{is_tls, segment_at}
use Rattle.lk_link.specs.WellFormed.{IsWellFormed}
use Rattle.lk_link.proofs.PartNumbers.{first_part-rises}
use Rattle.lk_check.specs.FirstFault.{WellFormedExactlyUnfaulted}
use Rattle.lk_expressions.specs.Records.{Record, nowhere, record_at}
use Rattle.lk_place.specs.declared.segments.SegmentFileLayout.{SegmentFileLayout}
use Rattle.lk_place.specs.declared.segments.SegmentFileLayout.TheVariants.{FromSections}
use Rattle.lk_place.specs.declared.segments.SegmentLayout.{SegmentLayout}
use Rattle.lk_place.specs.Secondaries.{joined, joined_among, joined_size, merged_among, secondaries_among}
use Rattle.lk_place.specs.Segments.{part_records, segment_layout, segment_layouts, thread_local_one}
use Rattle.lk_relax.specs.RelaxedLaws.{RelaxedStands}
use Rattle.lk_sizes.specs.Emitted.{active_segments, is_emitted}
use Rattle.lk_sizes.specs.Owners.{Content}
use Rattle.lk_sizes.proofs.Emitting.{emitted_at}
use Rattle.lk_layout.specs.Defined.{IsDefined, layout_of}
use Rattle.lk_layout.specs.FileRanges.{moved_parts, run_on, starting_at}
use Rattle.lk_layout.specs.LayoutRecord.{LayoutRecord}
use Rattle.lk_layout.specs.Machines.{Machine}
use Rattle.lk_layout.specs.Made.{Made, made_content}
use Rattle.lk_layout.specs.Refreshed.{after_move, moved, refreshed}
use Rattle.lk_layout.specs.Spans.{made_sections}
use Rattle.lk_soundness.specs.ToldMemory.{MemoryStays, SpansItsSections, StaysInMemory, memory_of, told_memory}
use Rattle.lk_layout.proofs.LaidOut.{IsLaidOut, laid_out, made_by}
use Rattle.lk_layout.proofs.Moving.{put_back}
use Rattle.lk_layout.proofs.SameMemory.{SameMemories, SameMemory, layouts_alike, same_memories, same_record}

-- ---- what is made of records that stand alike

same_span : (xs ys : List Record) → SameMemories xs ys → (s : ℕ) → memory_of (record_at xs s) ≡ memory_of (record_at ys s)
same_span xs ys same s = λ i. ((same s).start i, (same s).size i)

-- a section with its secondaries
fold_alike : (xs ys : List Record) → SameMemories xs ys → (qs : List (ℕ × PlanSection)) (h k : Record) → memory_of h ≡ memory_of k
    → memory_of (fold (λ h q. joined q.1 h (record_at xs q.0)) h qs) ≡ memory_of (fold (λ h q. joined q.1 h (record_at ys q.0)) k qs)
fold_alike xs ys same [] h k alike = alike
fold_alike xs ys same (q ∷ qs) h k alike =
    let start : h.mem_offset ≡ k.mem_offset = ap (λ (m : ℕ × ℕ). m.0) alike in
    let size : h.mem_size ≡ k.mem_size = ap (λ (m : ℕ × ℕ). m.1) alike in
    let next : memory_of (joined q.1 h (record_at xs q.0)) ≡ memory_of (joined q.1 k (record_at ys q.0))
    = λ i. (start i, joined_size q.1.counters (start i) (size i) ((same q.0).start i) ((same q.0).size i)) in
    fold_alike xs ys same qs (joined q.1 h (record_at xs q.0)) (joined q.1 k (record_at ys q.0)) next

merged_alike : (sections : List PlanSection) (xs ys : List Record) → SameMemories xs ys → (n s : ℕ) → memory_of (merged_among sections xs n s) ≡ memory_of (merged_among sections ys n s)
merged_alike sections xs ys same n s =
    let one : memory_of (joined_among sections xs n s) ≡ memory_of (joined_among sections ys n s)
    = fold_alike xs ys same (secondaries_among sections n s) (record_at xs s) (record_at ys s) (same_span xs ys same s) in
    elim (section_at sections s).primary as (λ o. memory_of (option_map_or (λ _. nowhere) o (joined_among sections xs n s)) ≡ memory_of (option_map_or (λ _. nowhere) o (joined_among sections ys n s))) [
      | None ↦ one
      | Some p ↦ refl
    ]

all_merged : (sections : List PlanSection) (xs ys : List Record) → SameMemories xs ys → (n : ℕ) (qs : List (ℕ × PlanSection))
    → map memory_of (map (λ q. merged_among sections xs n q.0) qs) ≡ map memory_of (map (λ q. merged_among sections ys n q.0) qs)
all_merged sections xs ys same n [] = refl
all_merged sections xs ys same n (q ∷ qs) =
    let head = merged_alike sections xs ys same n q.0 in
    let rest = all_merged sections xs ys same n qs in
    λ i. head i ∷ rest i

-- segments
abbrev segment_memory : SegmentLayout → ℕ × (ℕ × ℕ)
segment_memory l = (l.id, memory_of l.sizes)

all_segments : (here there : SegmentFileLayout) (plan : Plan) (stack : ℕ) (xs ys : List Record) (emitted : ℕ → Bool) → SameMemories xs ys → (active : List ℕ)
    → map segment_memory (segment_layouts here plan stack xs emitted active) ≡ map segment_memory (segment_layouts there plan stack ys emitted active)
all_segments here there plan stack xs ys emitted same [] = refl
all_segments here there plan stack xs ys emitted same (k ∷ ks) =
    let alike = layouts_alike here there plan stack xs ys emitted same k in
    let rest = all_segments here there plan stack xs ys emitted same ks in
    λ i. (k, (alike.start i, alike.size i)) ∷ rest i

local_one : (here there : SegmentFileLayout) (plan : Plan) (stack : ℕ) (xs ys : List Record) (emitted : ℕ → Bool) → SameMemories xs ys → (active : List ℕ)
    → option_map memory_of (option_map (λ l. l.sizes) (thread_local_one plan (segment_layouts here plan stack xs emitted active)))
    ≡ option_map memory_of (option_map (λ l. l.sizes) (thread_local_one plan (segment_layouts there plan stack ys emitted active)))
local_one here there plan stack xs ys emitted same [] = refl
local_one here there plan stack xs ys emitted same (k ∷ ks) =
    let a : SegmentLayout = segment_layout here plan stack xs emitted k in
    let b : SegmentLayout = segment_layout there plan stack ys emitted k in
    let alike = layouts_alike here there plan stack xs ys emitted same k in
    let left : Option SegmentLayout = thread_local_one plan (segment_layouts here plan stack xs emitted ks) in
    let right : Option SegmentLayout = thread_local_one plan (segment_layouts there plan stack ys emitted ks) in
    elim (is_tls (segment_at plan.segments k).kind) as (λ t. option_map memory_of (option_map (λ (l : SegmentLayout). l.sizes) (if t then Some a else left))
    ≡ option_map memory_of (option_map (λ (l : SegmentLayout). l.sizes) (if t then Some b else right))) [
      | true ↦ λ i. Some (alike.start i, alike.size i)
      | false ↦ local_one here there plan stack xs ys emitted same ks
    ]

-- layouts of one link whose sections and parts stand alike tell one memory, if they are told anew
told_alike : (here there : SegmentFileLayout) (layout : LayoutRecord) (xs parts : List Record) → SameMemories xs layout.section_layouts
    → map memory_of xs ≡ map memory_of layout.section_layouts → map memory_of parts ≡ map memory_of layout.section_part_layouts
    → told_memory (refreshed here (record layout { section_layouts = xs; section_part_layouts = parts })) ≡ told_memory (refreshed there layout)
told_alike here there layout xs parts same sections whole =
    let link : LinkInput = layout.link in
    let emitted : ℕ → Bool = is_marked layout.header_info.emitted in
    let active : List ℕ = layout.header_info.active_segment_ids in
    let merged = all_merged link.plan.sections xs layout.section_layouts same (length link.plan.sections) (enumerate_from 0 link.plan.sections) in
    let segments = all_segments here there link.plan link.options.stack xs layout.section_layouts emitted same active in
    let local = local_one here there link.plan link.options.stack xs layout.section_layouts emitted same active in
    λ i. record { sections = sections i; merged = merged i; parts = whole i; segments = segments i; thread_local = local i }

-- ---- told anew

told_anew : (kind : SegmentFileLayout) (layout : LayoutRecord) → told_memory (refreshed kind layout) ≡ told_memory (refreshed FromSections layout)
told_anew kind layout = told_alike kind FromSections layout layout.section_layouts layout.section_part_layouts (same_memories layout.section_layouts) refl refl

refreshes_stay : (kind : SegmentFileLayout) (layout : LayoutRecord) → SpansItsSections layout → StaysInMemory layout (refreshed kind layout)
refreshes_stay kind layout spans = record { same = told_anew kind layout ∙ spans; spans = sym (told_anew kind layout) }

-- ---- moved

-- parts that are moved stay in memory
run_stays : (start : ℕ) (rs : List Record) → map memory_of (run_on start rs) ≡ map memory_of rs
run_stays start [] = refl
run_stays start (r ∷ rs) = ap (λ (ms : List (ℕ × ℕ)). memory_of r ∷ ms) (run_stays (start + r.file_size) rs)

parts_stay : (sections : List PlanSection) (parts : List Record) (s start : ℕ) → map memory_of (moved_parts sections parts s start) ≡ map memory_of parts
parts_stay sections parts s start =
    let first : ℕ = first_part sections s in
    let behind : ℕ = first_part sections (s + 1) in
    let mine : List Record = part_records sections parts s in
    map-append memory_of (take first parts) (run_on start mine ++ drop behind parts)
    ∙ ap (λ (ms : List (ℕ × ℕ)). map memory_of (take first parts) ++ ms) (map-append memory_of (run_on start mine) (drop behind parts)
    ∙ ap (λ (ms : List (ℕ × ℕ)). ms ++ map memory_of (drop behind parts)) (run_stays start mine) ∙ sym (map-append memory_of mine (drop behind parts)))
    ∙ sym (map-append memory_of (take first parts) (mine ++ drop behind parts))
    ∙ ap (map memory_of) (put_back first behind parts (first_part-rises sections s))

-- so do sections, one of which is put elsewhere in the file
set_stays : (records : List Record) (s : ℕ) (moved : Record) → SameMemory moved (record_at records s) → SameMemories (slice_set records s moved) records
set_stays [] s moved same t = same_record nowhere
set_stays (r ∷ rs) zero moved same zero = same
set_stays (r ∷ rs) zero moved same (suc t) = same_record (record_at rs t)
set_stays (r ∷ rs) (suc s) moved same zero = same_record r
set_stays (r ∷ rs) (suc s) moved same (suc t) = set_stays rs s moved same t

set_spans : (records : List Record) (s : ℕ) (moved : Record) → SameMemory moved (record_at records s) → map memory_of (slice_set records s moved) ≡ map memory_of records
set_spans [] s moved same = refl
set_spans (r ∷ rs) zero moved same = λ i. (same.start i, same.size i) ∷ map memory_of rs
set_spans (r ∷ rs) (suc s) moved same = ap (λ (ms : List (ℕ × ℕ)). memory_of r ∷ ms) (set_spans rs s moved same)

section_stays : (layout : LayoutRecord) (s start : ℕ) → SpansItsSections layout → StaysInMemory layout (moved layout s start)
section_stays layout s start spans =
    let sections : List PlanSection = layout.link.plan.sections in
    let old : List Record = layout.section_layouts in
    let here : Record = starting_at start (part_records sections layout.section_part_layouts s) (record_at old s) in
    let alike : SameMemory here (record_at old s) = record { size = refl; start = refl; alignment = refl } in
    let one : map memory_of (slice_set old s here) ≡ map memory_of old = set_spans old s here alike in
    let parts : map memory_of (moved_parts sections layout.section_part_layouts s start) ≡ map memory_of layout.section_part_layouts = parts_stay sections layout.section_part_layouts s start in
    let same : told_memory (moved layout s start) ≡ told_memory layout = λ i. record (told_memory layout) { sections = one i; parts = parts i } in
    record {
      same = same;
      spans = told_alike FromSections FromSections layout (slice_set old s here) (moved_parts sections layout.section_part_layouts s start) (set_stays old s here alike) one parts ∙ spans ∙ sym same;
    }

moves_stay : (layout : LayoutRecord) (s start : ℕ) (end : Option ℕ) → SpansItsSections layout → StaysInMemory layout (after_move layout s start end)
moves_stay layout s start None spans = record { same = refl; spans = spans }
moves_stay layout s start (Some e) spans = section_stays layout s start spans

-- ---- defined

made_spans : (made : Made) → IsWellFormed made.link → SpansItsSections (layout_of made)
made_spans made good =
    let layout : LayoutRecord = layout_of made in
    let content : Content = made_content made in
    let marks : is_marked layout.header_info.emitted ≡ is_emitted content = λ i s. emitted_at content layout.header_info.emitted s good refl i in
    let anew : (ℕ → Bool) → List SegmentLayout = λ emitted. segment_layouts FromSections made.link.plan made.link.options.stack (made_sections made) emitted (active_segments content) in
    λ i. record (told_memory layout) {
      segments = map segment_memory (anew (marks i));
      thread_local = option_map memory_of (option_map (λ (l : SegmentLayout). l.sizes) (thread_local_one made.link.plan (anew (marks i))));
    }

defined_spans : WellFormedExactlyUnfaulted → RelaxedStands → (machine : Machine) (link : LinkInput) (layout : LayoutRecord) → IsDefined machine link (Ok layout) → SpansItsSections layout
defined_spans exactly stands machine link layout defined =
    let laid : IsLaidOut machine link layout = laid_out exactly stands machine link layout defined in
    subst SpansItsSections (sym laid.same) (made_spans (made_by laid) laid.good)

pub memory_stays : WellFormedExactlyUnfaulted → RelaxedStands → MemoryStays
memory_stays exactly stands = record { defined = defined_spans exactly stands; moved = moves_stay; refreshed = refreshes_stay }
