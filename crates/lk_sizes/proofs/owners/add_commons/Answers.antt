use Rattle.std.proofs.Common.{◌<◌, ℕ, List, false, length, set, sym, subst, take, arith}
use Rattle.std.specs.List.{slice_index_or}
use Rattle.std.proofs.lemmas.List.{get_or_default}
use Rattle.lk_link.specs.Parts.{all_parts}
use Rattle.lk_tables.specs.declared.commons.Common.{Common}
use Rattle.lk_sizes.specs.Tables.{AreAdded}
use Rattle.lk_sizes.proofs.CommonAdding.{one_added}
use Rattle.lk_sizes.proofs.LiveParts.{read_alignment, read_part}
use Rattle.lk_ranks.proofs.Turns.{so_far, there}
use Rattle.lk_sizes.proofs.owners.add_commons.Goals as goal

pub bounds-parts-part : goal.bounds-parts-part
bounds-parts-part c =
    let link = c.args.link.now in
    let at = there c.args.commons.now c.loop-common.common-index c.common-item.result c.loop-common-test.true c.common-item.is in
    let below : c.as_usize-part.result < length (all_parts link.plan.sections) = omega (arith, c.requires.goes c.loop-common.common-index c.common-item.result at, c.as_usize-part.ensures) in
    rw c.parts-parts.ensures below

pub with_common-requires : goal.with_common-requires
with_common-requires c =
    let link = c.args.link.now in
    let at = there c.args.commons.now c.loop-common.common-index c.common-item.result c.loop-common-test.true c.common-item.is in
    let below : c.as_usize-part.result < length (all_parts link.plan.sections) = omega (arith, c.requires.goes c.loop-common.common-index c.common-item.result at, c.as_usize-part.ensures) in
    read_alignment link c.parts-parts.result.now c.as_usize-part.result _ c.requires.good c.parts-parts.ensures (rw c.parts-parts.ensures below)

pub bounds-totals-part : goal.bounds-totals-part
bounds-totals-part c =
    let at = there c.args.commons.now c.loop-common.common-index c.common-item.result c.loop-common-test.true c.common-item.is in
    omega (arith, c.requires.goes c.loop-common.common-index c.common-item.result at, c.as_usize-part.ensures, c.requires.count, c.loop-common.invariant.count)

pub slice_copy_out-with_common : goal.slice_copy_out-with_common
slice_copy_out-with_common c =
    let at = there c.args.commons.now c.loop-common.common-index c.common-item.result c.loop-common-test.true c.common-item.is in
    omega (arith, c.requires.goes c.loop-common.common-index c.common-item.result at, c.as_usize-part.ensures, c.requires.count, c.loop-common.invariant.count)

pub loop-common-preserved : goal.loop-common-preserved
loop-common-preserved c =
    let link = c.args.link.now in
    let i : ℕ = c.loop-common.common-index in
    let commons : List Common = c.args.commons.now in
    let common : Common = c.common-item.result in
    let p : ℕ = c.as_usize-part.result in
    let at = there commons i common c.loop-common-test.true c.common-item.is in
    let below : p < length (all_parts link.plan.sections) = omega (arith, c.requires.goes i common at, c.as_usize-part.ensures) in
    let part = read_part link c.parts-parts.result.now p (record { alignment = 0; packed = false }) c.parts-parts.ensures (rw c.parts-parts.ensures below) in
    let read = slice_index_or c.loop-common.totals p (record { bytes = 0; has_image = false; attrs = 0 }) in
    let inside : p < length c.loop-common.totals = omega (arith, below, c.requires.count, c.loop-common.invariant.count) in
    subst (λ (cs : List Common). AreAdded link cs c.args.totals.now (set c.loop-common.totals p c.with_common.result)) (sym (so_far commons i common at))
    (one_added link (take i commons) common c.args.totals.now c.loop-common.totals p read c.with_common.result c.loop-common.invariant c.as_usize-part.ensures
    (omega (arith, below, c.requires.count)) (get_or_default c.loop-common.totals p _ read inside)
    (rw part at c.with_common.ensures.bytes) c.with_common.ensures.image c.with_common.ensures.attrs)
