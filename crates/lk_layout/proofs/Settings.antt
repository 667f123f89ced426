-- What a well-formed link gives its placement.
use Rattle.std.proofs.Common.{◌≡◌, ℕ, ◌+◌, ◌<◌, ◌≤◌, Bool, true, false, cond, List, [], ◌∷◌, None, length, filter, map, sym, ap, ◌∙◌, arith, zero-add}
use Rattle.std.specs.Prelude.{All}
use Rattle.std.specs.List.{AllByRecursion, enumerate_from, slice_index_or}
use Rattle.std.proofs.lemmas.List.{get_or-map, length-map}
use Rattle.std.proofs.lemmas.List.Elements.{All-from_recursion}
use Rattle.std.proofs.lemmas.List.FromFn.{get_or-enumerate_from, length-enumerate_from}
use Rattle.lk_live.specs.declared.live.Live.{Live}
use Rattle.lk_link.specs.declared.link.LinkInput.{LinkInput}
use Rattle.lk_link.specs.declared.plan.PlanPart.{PlanPart}
use Rattle.lk_link.specs.declared.plan.PlanSection.{PlanSection}
use Rattle.lk_link.specs.declared.plan.PlanSegment.{PlanSegment}
use Rattle.lk_link.specs.Parts.{all_parts}
use Rattle.lk_link.specs.TableSizes.{TableSizes}
use Rattle.lk_sizes.specs.Owners.{Filling}
use Rattle.lk_deltas.specs.LinkDeletions.{Deletions}
use Rattle.lk_relax.specs.RelaxedLaws.{StandsFor}
use Rattle.lk_relax.specs.Stages.{Stage, filling_after, refusal_of, setting_after}
use Rattle.lk_layout.specs.Made.{relaxing_for}
use Rattle.lk_layout.specs.Machines.{Machine}
use Rattle.lk_link.specs.WellFormed.{IsWellFormed}
use Rattle.lk_place.specs.PlacementLaws.{PartsTakeTheirBytes}
use Rattle.lk_expressions.specs.Records.{Record, nowhere, record_at}
use Rattle.lk_place.specs.Segments.{part_records, section_record, section_records}
use Rattle.lk_place.specs.Setting.{IsReady}
use Rattle.lk_sizes.specs.Emitted.{active_segments, is_active}
use Rattle.lk_sizes.specs.PartOwners.{part_size, part_sizes}
use Rattle.lk_resolutions.specs.OutputContent.{output_content}
use Rattle.lk_resolutions.proofs.PartCounts.{length-by_part}

-- there is a record for each section
pub length-section_records : (sections : List PlanSection) (parts : List Record) → length (section_records sections parts) ≡ length sections
length-section_records sections parts =
    length-map (enumerate_from 0 sections) (λ (q : ℕ × PlanSection). section_record q.1 (part_records sections parts q.0)) ∙ length-enumerate_from 0 sections

-- its plan can be walked, whatever is deleted
pub ready : (machine : Machine) (link : LinkInput) (live : Live) (deletions : Deletions) → IsWellFormed link → IsReady (setting_after (relaxing_for machine link live) deletions)
ready machine link live deletions good =
    record { events = good.events; sections = good.sections; sizes = length-by_part (part_size (filling_after (relaxing_for machine link live) deletions)) link }

-- the size of a part, by its number
pub part_size_at : (filling : Filling) (p : ℕ) → p < length (all_parts filling.content.link.plan.sections) → slice_index_or (part_sizes filling) p 0 ≡ part_size filling p
part_size_at filling p within =
    let parts : List PlanPart = all_parts filling.content.link.plan.sections in
    let none : PlanPart = record { alignment = 1; packed = false } in
    let size : ℕ × PlanPart → ℕ = λ q. part_size filling q.0 in
    get_or-map size (enumerate_from 0 parts) p (0, none) 0 (omega (arith, within, length-enumerate_from 0 parts))
    ∙ ap size (get_or-enumerate_from 0 parts p (0, none) within)
    ∙ ap (part_size filling) (zero-add p)

-- each part that is placed takes the bytes of its owners, by all that is deleted
pub takes : PartsTakeTheirBytes → (machine : Machine) (link : LinkInput) (live : Live) (stage : Stage) → IsWellFormed link → StandsFor (relaxing_for machine link live) stage
    → refusal_of (relaxing_for machine link live) stage ≡ None
    → (p : ℕ) → p < length stage.records → (record_at stage.records p).mem_size ≡ part_size (filling_after (relaxing_for machine link live) stage.deletions) p
takes law machine link live stage good stands unrefused p below =
    let filling : Filling = filling_after (relaxing_for machine link live) stage.deletions in
    let all : map (λ r. r.mem_size) stage.records ≡ part_sizes filling
    = law (setting_after (relaxing_for machine link live) stage.walked) stage.states stage.records (ready machine link live stage.walked good) stands.placed unrefused ∙ stands.parts in
    sym (get_or-map (λ (r : Record). r.mem_size) stage.records p nowhere 0 below)
    ∙ ap (λ (sizes : List ℕ). slice_index_or sizes p 0) all
    ∙ part_size_at filling p (omega (arith, stands.placed.each))

-- ---- active segments

below : (p : ℕ → Bool) (o n : ℕ) (xs : List PlanSegment) → o + length xs ≤ n → AllByRecursion (λ i. i < n) (filter p (map (λ (q : ℕ × PlanSegment). q.0) (enumerate_from o xs)))
below p o n [] h = tt
below p o n (x ∷ xs) h =
    let rest : List ℕ = filter p (map (λ (q : ℕ × PlanSegment). q.0) (enumerate_from (o + 1) xs)) in
    let later : AllByRecursion (λ i. i < n) rest = below p (o + 1) n xs (omega arith) in
    elim (p o) as (λ b. AllByRecursion (λ i. i < n) (cond b (o ∷ rest) rest)) [ true ↦ (omega arith, later) | false ↦ later ]

-- they are there
pub active_there : (sizes : TableSizes) (link : LinkInput) (live : Live) → All (λ i. i < length link.plan.segments) (active_segments (output_content sizes link live))
active_there sizes link live =
    All-from_recursion (λ i. i < length link.plan.segments) (active_segments (output_content sizes link live))
    (below (is_active (output_content sizes link live)) 0 (length link.plan.segments) link.plan.segments (omega arith))
