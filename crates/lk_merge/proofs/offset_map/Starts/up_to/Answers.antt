use Rattle.std.proofs.Common.{◌+◌, ◌-◌, ◌/◌, length, refl, arith}
use Rattle.std.proofs.lemmas.Option.{slice_get_read}
use Rattle.lk_link.proofs.Elements.{at_index}
use Rattle.lk_merge.proofs.StartLemmas.{byte_at, halved_down, halved_first, halved_up, offsets_count}
use Rattle.lk_merge.proofs.offset_map.Starts.up_to.Goals as goal

pub loop-low-init : goal.loop-low-init
loop-low-init c = λ pieces h rise. halved_first pieces c.args.offset c.before-low.result c.before-high.result (c.before-low.ensures pieces h) (c.before-high.ensures pieces h)

pub loop-low-preserved-then-index-within : goal.loop-low-preserved-then-index-within
loop-low-preserved-then-index-within c = λ pieces h rise.
    let s = c.args.self.now in
    let low = c.loop-low.low in
    let high = c.loop-low.high in
    let middle = low + (high - low) / 2 in
    let i = c.loop-low.invariant pieces h rise in
    let test = c.loop-low-test.true in
    let within = i.within in
    let bytes = offsets_count pieces s h in
    let e = at_index pieces middle (omega (arith, test, within)) in
    let byte = byte_at pieces s h middle e.0 c.index.result.now e.1 (slice_get_read s.offsets.items (length s.offsets.items) middle c.index.result.now refl (omega (arith, test, within, bytes)) c.index.ensures) in
    halved_up pieces c.args.offset low high middle e.0 rise i (omega arith) (omega (arith, test)) e.1 (omega (arith, byte, c.if-index-within.true))

pub loop-low-preserved : goal.loop-low-preserved
loop-low-preserved c = λ pieces h rise.
    let s = c.args.self.now in
    let low = c.loop-low.low in
    let high = c.loop-low.high in
    let middle = low + (high - low) / 2 in
    let i = c.loop-low.invariant pieces h rise in
    let test = c.loop-low-test.true in
    let within = i.within in
    let bytes = offsets_count pieces s h in
    let e = at_index pieces middle (omega (arith, test, within)) in
    let byte = byte_at pieces s h middle e.0 c.index.result.now e.1 (slice_get_read s.offsets.items (length s.offsets.items) middle c.index.result.now refl (omega (arith, test, within, bytes)) c.index.ensures) in
    halved_down pieces c.args.offset low high middle e.0 rise i (omega arith) (omega (arith, test)) e.1 (omega (arith, byte, c.if-index-within.false))
