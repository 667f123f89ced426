use Rattle.std.proofs.Common.{◌≡◌, ℕ, ◌+◌, ◌<◌, Bool, cond, List, Some, None, length, refl, sym, ap, ◌∙◌, arith}
use Rattle.std.proofs.lemmas.Bool.{lt-ltb}
use Rattle.std.proofs.lemmas.Option.{get_or_from_slice_get}
use Rattle.lk_link.specs.declared.link.LinkInput.{LinkInput}
use Rattle.lk_link.specs.Parts.{part_sections}
use Rattle.lk_link.proofs.GoodLinks.{few}
use Rattle.lk_merge.specs.Addresses.{image_start}
use Rattle.lk_merge.specs.Hash.{fnv64}
use Rattle.lk_merge.specs.LinkInputs.{merge_input, merge_inputs}
use Rattle.lk_merge.specs.OutputAddresses.{MergePlace, offset_place, output_of}
use Rattle.lk_merge.specs.OutputAddressTables.{lent_place}
use Rattle.lk_merge.specs.Pieces.{MergeInput}
use Rattle.lk_merge.proofs.PlaceInInput.{address_is, goes_within, is_inside, part_within}
use Rattle.lk_merge.proofs.SymbolPlaces.{outputs_count}
use Rattle.lk_merge.proofs.output_address.address_in.Goals as goal

pub section_of_part-output-requires : goal.section_of_part-output-requires
section_of_part-output-requires c = part_within c.args.link.now (lent_place c.args.place) c.requires.well_formed c.requires.place

pub bounds-merged-output : goal.bounds-merged-output
bounds-merged-output c =
    let below = goes_within c.args.link.now (lent_place c.args.place) c.section_of_part-output.result c.requires.well_formed c.requires.place c.section_of_part-output.ensures in
    let count = ap (λ (xs : List (List MergeInput)). length xs) c.requires.merged in
    omega (arith, below, count, outputs_count c.args.link.now)

pub offset_bounds-merged-output : goal.offset_bounds-merged-output
offset_bounds-merged-output c =
    let below = goes_within c.args.link.now (lent_place c.args.place) c.section_of_part-output.result c.requires.well_formed c.requires.place c.section_of_part-output.ensures in
    let f = few c.args.link.now c.requires.well_formed in
    omega (arith, below, f.sections)

pub returns-in_err-found : goal.returns-in_err-found
returns-in_err-found c =
    let place : MergePlace = lent_place c.args.place in
    let inside = is_inside c.args.link.now c.args.merged.now place c.section_of_part-output.result c.index-merged-output.result c.requires.well_formed c.requires.merged c.requires.place
    c.section_of_part-output.ensures c.index-merged-output.is in
    absurd (c.in_err-found.ensures inside.index (merge_input place.number place.section) inside.at refl (omega (arith, c.if-offset-len.false, c.len.ensures)))

pub bucket-requires-2 : goal.bucket-requires-2
bucket-requires-2 c =
    let inside = is_inside c.args.link.now c.args.merged.now (lent_place c.args.place) c.section_of_part-output.result c.index-merged-output.result c.requires.well_formed c.requires.merged
    c.requires.place c.section_of_part-output.ensures c.index-merged-output.is in
    let within = inside.within in
    omega (arith, within, c.requires.starts.count, c.bucket.ensures.within)

pub overflow_add-result : goal.overflow_add-result
overflow_add-result c =
    let place : MergePlace = lent_place c.args.place in
    let inside = is_inside c.args.link.now c.args.merged.now place c.section_of_part-output.result c.index-merged-output.result c.requires.well_formed c.requires.merged c.requires.place
    c.section_of_part-output.ensures c.index-merged-output.is in
    let at = c.in_ok-found.ensures inside.index (merge_input place.number place.section) inside.at refl (omega (arith, c.if-offset-len.false, c.len.ensures)) in
    let is = address_is c.args.merged.now c.args.starts.now c.section_of_part-output.result c.index-merged-output.result (merge_input place.number place.section) c.args.offset c.in_ok-found.found
    c.bucket.result c.offset_in_bucket.result c.bucket-2.result c.requires.starts inside.there at c.bucket.ensures.bucket c.offset_in_bucket.ensures c.bucket-2.ensures in
    omega (arith, is.1)

pub returns : goal.returns
returns c =
    let link : LinkInput = c.args.link.now in
    let place : MergePlace = lent_place c.args.place in
    let x : MergeInput = merge_input place.number place.section in
    let s : ℕ = c.section_of_part-output.result in
    let short : c.args.offset < length place.section.bytes = omega (arith, c.if-offset-len.false, c.len.ensures) in
    let inside = is_inside link c.args.merged.now place s c.index-merged-output.result c.requires.well_formed c.requires.merged c.requires.place
    c.section_of_part-output.ensures c.index-merged-output.is in
    let at = c.in_ok-found.ensures inside.index x inside.at refl short in
    let is = address_is c.args.merged.now c.args.starts.now s c.index-merged-output.result x c.args.offset c.in_ok-found.found
    c.bucket.result c.offset_in_bucket.result c.bucket-2.result c.requires.starts inside.there at c.bucket.ensures.bucket c.offset_in_bucket.ensures c.bucket-2.ensures in
    let output : output_of link place.section ≡ s = get_or_from_slice_get (part_sections link.plan.sections) place.section.part s 0 c.section_of_part-output.ensures in
    let shown : ℕ → ℕ = λ t. image_start c.args.starts.now t + offset_place fnv64 (merge_inputs link t) x c.args.offset in
    ap (λ (n : ℕ). Some n) (is.0 ∙ ap (λ (xs : List MergeInput). image_start c.args.starts.now s + offset_place fnv64 xs x c.args.offset) inside.inputs_are ∙ ap shown (sym output))
    ∙ ap (λ (t : Bool). cond t (Some (shown (output_of link place.section))) None) (sym (lt-ltb c.args.offset (length place.section.bytes) short))
