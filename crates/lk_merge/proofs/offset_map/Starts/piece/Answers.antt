use Rattle.std.proofs.Common.{length, refl, arith}
use Rattle.std.proofs.lemmas.Option.{slice_get_read}
use Rattle.lk_link.proofs.Elements.{at_index}
use Rattle.lk_merge.proofs.StartLemmas.{byte_at, offsets_count, piece_is, place_at, places_count}
use Rattle.lk_merge.proofs.offset_map.Starts.piece.Goals as goal

pub overflow_mul-result : goal.overflow_mul-result
overflow_mul-result c =
    let r = c.requires in
    let e = at_index r.0 c.args.index r.2 in
    let block = c.block_near.ensures r.0 e.0 r.1 e.1 in
    let fits = (r.1.begun c.args.index e.0 e.1).1 in
    omega (arith, block, fits)

pub overflow_add-result : goal.overflow_add-result
overflow_add-result c =
    let r = c.requires in
    let s = c.args.self.now in
    let e = at_index r.0 c.args.index r.2 in
    let block = c.block_near.ensures r.0 e.0 r.1 e.1 in
    let fits = (r.1.begun c.args.index e.0 e.1).1 in
    let below = offsets_count r.0 s r.1 in
    let within = r.2 in
    let byte = byte_at r.0 s r.1 c.args.index e.0 c.index.result.now e.1 (slice_get_read s.offsets.items (length s.offsets.items) c.args.index c.index.result.now refl (omega (arith, below, within)) c.index.ensures) in
    omega (arith, block, fits, byte, c.from.ensures)

pub returns : goal.returns
returns c = λ pieces h.
    let r = c.requires in
    let s = c.args.self.now in
    let old = places_count r.0 s r.1 in
    let new = places_count pieces s h in
    let bytes = offsets_count pieces s h in
    let within = r.2 in
    let e = at_index pieces c.args.index (omega (arith, old, new, within)) in
    let byte = byte_at pieces s h c.args.index e.0 c.index.result.now e.1 (slice_get_read s.offsets.items (length s.offsets.items) c.args.index c.index.result.now refl (omega (arith, old, new, bytes, within)) c.index.ensures) in
    let place = place_at pieces s h c.args.index e.0 c.index-2.result.now e.1 (slice_get_read s.places.items (length s.places.items) c.args.index c.index-2.result.now refl (omega (arith, old, within)) c.index-2.ensures) in
    piece_is pieces c.args.index e.0 c.block_near.result c.from.result c.index-2.result.now e.1 (c.block_near.ensures pieces e.0 h e.1) (omega (arith, byte, c.from.ensures)) place
