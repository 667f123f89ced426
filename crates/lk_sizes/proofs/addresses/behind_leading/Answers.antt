use Rattle.std.proofs.Common.{◌≡◌, ℕ, List, false, length, map, ap, ◌∙◌, arith}
use Rattle.std.specs.List.{slice_index}
use Rattle.lk_link.specs.declared.plan.PlanSection.{PlanSection}
use Rattle.lk_link.specs.Parts.{part_sections}
use Rattle.lk_sizes.specs.Tables.{behind_leading}
use Rattle.lk_sizes.proofs.ImageLemmas.{identity_reads, image_reads, leading_size, length-contents, length-lens}
use Rattle.lk_sizes.proofs.LiveParts.{read_alignment}
use Rattle.lk_sizes.proofs.Made.{one_pushed}
use Rattle.lk_sizes.proofs.addresses.behind_leading.Goals as goal

pub bounds-contents-number : goal.bounds-contents-number
bounds-contents-number c = omega (arith, length-contents c.args.link.now c.args.contents.now c.requires.images, c.requires.starts)

pub index-requires : goal.index-requires
index-requires c =
    let lens : c.in_ok-lens.lens.items ≡ map (slice_index c.args.merged_lens.now) (part_sections c.args.link.now.plan.sections)
    = c.in_ok-lens.ensures ∙ ap (λ (ss : List PlanSection). map (slice_index c.args.merged_lens.now) (part_sections ss)) c.as_slice.ensures in
    omega (arith, length-lens c.args.link.now c.args.merged_lens.now c.in_ok-lens.lens.items lens, c.requires.starts)

pub leading_end-requires-clause-aligned : goal.leading_end-requires-clause-aligned
leading_end-requires-clause-aligned c =
    read_alignment c.args.link.now c.parts-parts.result.now c.loop-number.number _ c.requires.good c.parts-parts.ensures
    (omega (arith, ap length c.parts-parts.ensures, c.requires.starts))

pub leading_end-requires-clause-room : goal.leading_end-requires-clause-room
leading_end-requires-clause-room c =
    let link = c.args.link.now in
    let n : ℕ = c.loop-number.number in
    let merged_lens : List ℕ = c.args.merged_lens.now in
    let lens : c.in_ok-lens.lens.items ≡ map (slice_index merged_lens) (part_sections link.plan.sections)
    = c.in_ok-lens.ensures ∙ ap (λ (ss : List PlanSection). map (slice_index merged_lens) (part_sections ss)) c.as_slice.ensures in
    omega (
      arith,
      image_reads link merged_lens c.args.contents.now c.parts-parts.result.now c.in_ok-lens.lens.items n c.index.result.now (record { bytes = 0; has_image = false; attrs = 0 }) (record { alignment = 0; packed = false })
          c.requires.images c.parts-parts.ensures lens (omega (arith, c.requires.starts)) c.index.ensures,
      identity_reads link c.parts-parts.result.now n c.identity_size-identity.result (record { alignment = 0; packed = false }) c.parts-parts.ensures (omega (arith, c.requires.starts)) c.identity_size-identity.ensures.size,
      leading_size link merged_lens n,
      c.requires.fit n (omega arith),
    )

pub loop-number-preserved : goal.loop-number-preserved
loop-number-preserved c =
    let link = c.args.link.now in
    let n : ℕ = c.loop-number.number in
    let merged_lens : List ℕ = c.args.merged_lens.now in
    let lens : c.in_ok-lens.lens.items ≡ map (slice_index merged_lens) (part_sections link.plan.sections)
    = c.in_ok-lens.ensures ∙ ap (λ (ss : List PlanSection). map (slice_index merged_lens) (part_sections ss)) c.as_slice.ensures in
    let reads = image_reads link merged_lens c.args.contents.now c.parts-parts.result.now c.in_ok-lens.lens.items n c.index.result.now (record { bytes = 0; has_image = false; attrs = 0 }) (record { alignment = 0; packed = false })
    c.requires.images c.parts-parts.ensures lens (omega (arith, c.requires.starts)) c.index.ensures in
    let own = identity_reads link c.parts-parts.result.now n c.identity_size-identity.result (record { alignment = 0; packed = false }) c.parts-parts.ensures (omega (arith, c.requires.starts)) c.identity_size-identity.ensures.size in
    one_pushed (behind_leading link merged_lens c.args.starts.now) n c.loop-number.next.items c.push.new.self.items c.leading_end.result
    c.in_ok-push.ensures.items c.loop-number.invariant (omega (arith, c.leading_end.ensures, reads, own, leading_size link merged_lens n))
