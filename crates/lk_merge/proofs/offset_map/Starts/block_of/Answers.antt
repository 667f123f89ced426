use Rattle.std.proofs.Common.{◌+◌, ◌-◌, ◌/◌, length, refl, arith}
use Rattle.std.proofs.lemmas.Option.{slice_get_read}
use Rattle.lk_link.proofs.Elements.{at_index}
use Rattle.lk_merge.proofs.StartLemmas.{in_first, in_upper, in_lower}
use Rattle.lk_merge.proofs.offset_map.Starts.block_of.Goals as goal

pub loop-high-init : goal.loop-high-init
loop-high-init c =
    let r = c.requires in
    let e = at_index r.0 c.args.index r.2 in
    let first = in_first r.0 c.args.self.now c.args.index r.1 e.0 e.1 in (
      omega (arith, first.1, c.len-high.ensures),
      omega (arith, c.len-high.ensures),
      λ pieces h e there. let i = in_first pieces c.args.self.now c.args.index h e there in (i.0, omega (arith, i.1, c.len-high.ensures)),
    )

pub loop-high-preserved-then-index : goal.loop-high-preserved-then-index
loop-high-preserved-then-index c =
    let s = c.args.self.now in
    let middle = c.loop-high.low + (c.loop-high.high - c.loop-high.low) / 2 in
    let i = c.loop-high.invariant in
    let test = c.loop-high-test.true in
    let below = i.1 in
    let at = slice_get_read s.blocks.items (length s.blocks.items) middle c.index.result.now refl (omega (arith, test, below)) c.index.ensures in (
      omega (arith, test),
      below,
      λ pieces h. in_upper pieces s c.args.index c.loop-high.low c.loop-high.high middle c.index.result.now h (i.2 pieces h) at c.if-index.true,
    )

pub loop-high-preserved : goal.loop-high-preserved
loop-high-preserved c =
    let s = c.args.self.now in
    let middle = c.loop-high.low + (c.loop-high.high - c.loop-high.low) / 2 in
    let i = c.loop-high.invariant in
    let test = c.loop-high-test.true in
    let below = i.1 in
    let at = slice_get_read s.blocks.items (length s.blocks.items) middle c.index.result.now refl (omega (arith, test, below)) c.index.ensures in (
      omega (arith, test),
      omega (arith, test, below),
      λ pieces h. in_lower pieces s c.args.index c.loop-high.low c.loop-high.high middle c.index.result.now h (i.2 pieces h) at c.if-index.false,
    )
