use Rattle.std.proofs.Common.{◌≡◌, ℕ, ◌+◌, ◌<◌, List, false, length, map, Some, sym, ap, ◌∙◌, subst, arith}
use Rattle.std.specs.List.{slice_get, slice_index}
use Rattle.std.specs.Option.{option_map_or}
use Rattle.std.proofs.lemmas.Grind.{get_or_default_zero}
use Rattle.std.proofs.lemmas.Option.{slice_get_read}
use Rattle.lk_link.specs.declared.plan.PlanSection.{PlanSection}
use Rattle.lk_link.specs.Parts.{all_parts}
use Rattle.lk_sizes.specs.declared.owners.PartTotal.{PartTotal}
use Rattle.lk_link.specs.Parts.{part_sections}
use Rattle.lk_sizes.specs.Contents.{IsContentTotal}
use Rattle.lk_sizes.specs.Owners.{Content, content_of, own_sizes, size_in, sized_filling}
use Rattle.lk_sizes.proofs.ImageLemmas.{len_of_part, length-lens, section_of}
use Rattle.lk_sizes.proofs.LiveParts.{read_alignment, read_part}
use Rattle.lk_sizes.proofs.Wholes.{AreWhole, IsBrought, one_whole, with_leading}
use Rattle.lk_sizes.proofs.owners.sized_totals.Goals as goal

pub index-requires-in-loop-number : goal.index-requires-in-loop-number
index-requires-in-loop-number c =
    let sections : List PlanSection = c.args.link.now.plan.sections in
    let lens : c.in_ok-lens.lens.items ≡ map (slice_index c.args.merged_lens.now) (part_sections sections)
    = c.in_ok-lens.ensures ∙ ap (λ (ss : List PlanSection). map (slice_index c.args.merged_lens.now) (part_sections ss)) c.as_slice.ensures in
    omega (arith, length-lens c.args.link.now c.args.merged_lens.now c.in_ok-lens.lens.items lens, c.in_ok-inputs.ensures.count)

pub with_image-total-requires : goal.with_image-total-requires
with_image-total-requires c =
    read_alignment c.args.link.now c.parts-parts.result.now c.loop-number.number _ c.requires.good c.parts-parts.ensures
    (omega (arith, ap length c.parts-parts.ensures, c.in_ok-inputs.ensures.count))

pub with_identity-requires-clause-aligned : goal.with_identity-requires-clause-aligned
with_identity-requires-clause-aligned c =
    read_alignment c.args.link.now c.parts-parts.result.now c.loop-number.number _ c.requires.good c.parts-parts.ensures
    (omega (arith, ap length c.parts-parts.ensures, c.in_ok-inputs.ensures.count))

pub loop-number-preserved : goal.loop-number-preserved
loop-number-preserved c = λ tables.
    let link = c.args.link.now in
    let sizes : List ℕ = option_map_or (λ s. s.now) c.args.sizes (own_sizes link) in
    let n : ℕ = c.loop-number.number in
    let content : Content = content_of link tables c.args.live.now c.args.merged_lens.now in
    let sections : List PlanSection = link.plan.sections in
    let merged_lens : List ℕ = c.args.merged_lens.now in
    let within : n < length (all_parts sections) = omega (arith, c.in_ok-inputs.ensures.count) in
    let lens : c.in_ok-lens.lens.items ≡ map (slice_index merged_lens) (part_sections sections)
    = c.in_ok-lens.ensures ∙ ap (λ (ss : List PlanSection). map (slice_index merged_lens) (part_sections ss)) c.as_slice.ensures in
    let part = read_part link c.parts-parts.result.now n (record { alignment = 0; packed = false }) c.parts-parts.ensures (omega (arith, ap length c.parts-parts.ensures)) in
    let old : PartTotal = c.index.result.now in
    let there : slice_get c.in_ok-inputs.inputs.items n ≡ Some old = slice_get_read c.in_ok-inputs.inputs.items (length (all_parts sections)) n old (sym c.in_ok-inputs.ensures.count) within c.index.ensures in
    let brought : IsBrought (size_in link sizes) link c.args.live.now n old = record {
      bytes = c.in_ok-inputs.ensures.bytes n old there;
      image = c.in_ok-inputs.ensures.image n old there;
      attrs = c.in_ok-inputs.ensures.attrs n old there;
    } in
    let len : ℕ = c.index-in-loop-number.result.now in
    let long : len ≡ slice_index merged_lens (section_of link n)
    = c.index-in-loop-number.ensures
    ∙ get_or_default_zero c.in_ok-lens.lens.items n len (omega (arith, length-lens link merged_lens c.in_ok-lens.lens.items lens))
    ∙ len_of_part link merged_lens c.in_ok-lens.lens.items n lens within in
    let whole : IsContentTotal (sized_filling content sizes) n c.with_identity.result
    = with_leading content sizes n old c.with_image-total.result c.with_identity.result _ len c.identity_size.result brought part long
    c.identity_size.ensures.size c.with_image-total.ensures.bytes c.with_image-total.ensures.image c.with_image-total.ensures.attrs
    c.with_identity.ensures.bytes c.with_identity.ensures.image c.with_identity.ensures.attrs in
    subst (AreWhole content sizes (n + 1)) (sym c.in_ok-push.ensures.items)
    (one_whole content sizes n c.loop-number.totals.items c.with_identity.result (c.loop-number.invariant tables) whole)

pub returns : goal.returns
returns c = λ sizes. record { count = (c.loop-number.invariant sizes).count ∙ omega (arith, c.in_ok-inputs.ensures.count); each = (c.loop-number.invariant sizes).each }
