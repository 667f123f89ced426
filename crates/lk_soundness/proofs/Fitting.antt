-- The parts of a layout end below 2^64, and so do the images in them.
use Rattle.std.proofs.Common.{◌≡◌, ℕ, ◌+◌, ◌<◌, ◌^◌, List, length, refl, sym, subst, arith}
use Rattle.std.specs.List.{slice_index}
use Rattle.std.proofs.Math.ListN as lists
use Rattle.std.proofs.lemmas.Option.{slice_get_within}
use Rattle.lk_link.specs.declared.link.LinkInput.{LinkInput}
use Rattle.lk_link.specs.declared.plan.OrderEvent.TheVariants.{Section}
use Rattle.lk_link.specs.Parts.{all_parts}
use Rattle.lk_relax.specs.Stages.{setting_after}
use Rattle.lk_layout.specs.Made.{made_filling, relaxing_for}
use Rattle.lk_layout.specs.Machines.{Machine}
use Rattle.lk_merge.specs.Addresses.{AreStartsOf}
use Rattle.lk_merge.specs.LinkInputs.{link_inputs}
use Rattle.lk_merge.proofs.AddressLemmas.{are_starts}
use Rattle.lk_place.specs.Placement.{state_at}
use Rattle.lk_place.specs.PlacementLaws.{PartsTakeTheirBytes}
use Rattle.lk_place.proofs.Steps.{step_at}
use Rattle.lk_place_laws.specs.PlacementLaws.{RefusedExactlyPast}
use Rattle.lk_expressions.specs.Records.{Record, mem_end, nowhere, record_at}
use Rattle.lk_place.specs.Setting.{IsReady, Setting}
use Rattle.lk_sizes.specs.Images.{image_addresses}
use Rattle.lk_sizes.specs.PartOwners.{EndsFit}
use Rattle.lk_layout.specs.LayoutRecord.{LayoutRecord}
use Rattle.lk_resolutions.specs.Starts.{starts_of}
use Rattle.lk_resolutions.proofs.Imaging.{images_fit}
use Rattle.lk_layout.proofs.LaidOut.{IsLaidOut, made_by}
use Rattle.lk_soundness.proofs.PartStarts.{section_in}
use Rattle.lk_resolutions.proofs.Placing.{ends_fit, starts_count}
use Rattle.lk_layout.proofs.Settings.{ready, takes}

-- the section of a part isn't refused, so the part ends below 2^64
part_fits : RefusedExactlyPast → (machine : Machine) (link : LinkInput) (layout : LayoutRecord) (laid : IsLaidOut machine link layout) (p : ℕ) → p < length (all_parts link.plan.sections)
    → mem_end (record_at laid.stage.records p) < 2 ^ 64
part_fits refused machine link layout laid p within =
    let s : Setting = setting_after (relaxing_for machine link laid.live) laid.stage.walked in
    let at = section_in link.plan.sections p within in
    let t : ℕ = at.section in
    let event = laid.good.events.placed t at.there in
    let early : event.0 + 1 < length laid.stage.states = omega (arith, laid.stands.placed.ends laid.unrefused, slice_get_within link.plan.events event.0 (Section t) event.1) in
    let good : IsReady s = ready machine link laid.live laid.stage.walked laid.good in
    let step = step_at s laid.stage.states laid.stage.records event.0 (Section t) good laid.stands.placed (omega (arith, early)) event.1 in
    let fit = (refused s t step.entered laid.stage.records (state_at laid.stage.states (event.0 + 1)) good at.there step.places.placed).0 step.places.fits at.place at.within in
    subst (λ q. mem_end (record_at laid.stage.records q) < 2 ^ 64) (sym at.is) fit.mem

pub owners_fit : RefusedExactlyPast → PartsTakeTheirBytes → (machine : Machine) (link : LinkInput) (layout : LayoutRecord) (laid : IsLaidOut machine link layout) → EndsFit (made_filling (made_by laid)) (starts_of laid.stage.records)
owners_fit refused mass machine link layout laid =
    ends_fit (made_filling (made_by laid)) laid.stage.records (starts_of laid.stage.records) refl
    (λ p below.
    let start : slice_index (starts_of laid.stage.records) p ≡ (record_at laid.stage.records p).mem_offset = lists.get_or-map (λ (r : Record). r.mem_offset) laid.stage.records p nowhere in
    omega (arith, start, part_fits refused machine link layout laid p (omega (arith, below, laid.stands.placed.each))))
    (takes mass machine link laid.live laid.stage laid.good laid.stands laid.unrefused)

-- the addresses of buckets are starts of what is merged
pub buckets_start : RefusedExactlyPast → PartsTakeTheirBytes → (machine : Machine) (link : LinkInput) (layout : LayoutRecord) (laid : IsLaidOut machine link layout) → AreStartsOf layout.merged_strings layout.merged_string_start_addresses
buckets_start refused mass machine link layout laid =
    let starts : List ℕ = starts_of laid.stage.records in
    let addresses : List ℕ = image_addresses (made_filling (made_by laid)) starts in
    let fit = images_fit (made_filling (made_by laid)) starts refl laid.good (starts_count link laid.stage.records starts refl laid.stands.placed.each) (owners_fit refused mass machine link layout laid) in
    subst (λ (l : LayoutRecord). AreStartsOf l.merged_strings l.merged_string_start_addresses) (sym laid.same) (are_starts (link_inputs link).outputs addresses fit)
