use Rattle.std.proofs.Common.{◌≡◌, ap, arith, subst, sum_by, sym, ◌∙◌}
use Rattle.lk_deltas.specs.Deletions.{AreDeletions, bytes_before, mapped}
use Rattle.lk_deltas.specs.DeltaWords.{ranges_of}
use Rattle.lk_deltas.proofs.DeltaLemmas.{ranges_rise}
use Rattle.lk_deltas.proofs.Offsets.{offsets_keep_order}
use Rattle.lk_deltas.proofs.deltas.SectionRelaxDeltas.output_offset.Goals as goal

pub returns-clause-order : goal.returns-clause-order
unfolding mapped
returns-clause-order c = λ behind le.
    let rising : AreDeletions c.args.self.now = subst AreDeletions c.self.view_is (ranges_rise 0 0 c.self.inside.deltas.items c.self.invariant) in
    let ranges : c.args.self.now ≡ ranges_of c.as_slice.result.now = sym c.self.view_is ∙ ap ranges_of (sym c.as_slice.ensures.value) in
    omega (
      arith,
      offsets_keep_order c.args.self.now c.args.offset behind rising le,
      c.deleted_before.ensures.bytes,
      ap (sum_by (bytes_before c.args.offset)) ranges,
    )
