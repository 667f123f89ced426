use Rattle.std.proofs.Common.{ap, List, ℕ, arith, ◌∙◌}
use Rattle.lk_merge.specs.Buckets.{piece_of}
use Rattle.lk_merge.specs.declared.string.MergeString.{MergeString}
use Rattle.lk_image.proofs.Putting.{end_next, put_next, room_next}
use Rattle.lk_image.proofs.merged.write_strings.Goals as goal

pub write_bytes-requires : goal.write_bytes-requires
write_bytes-requires c =
    let f : MergeString → List ℕ = piece_of in
    omega (
      arith,
      c.requires,
      c.loop-string.invariant.end,
      c.loop-string.invariant.long,
      room_next f c.args.strings.now c.loop-string.string-index c.string-item.result c.as_bytes-bytes.result.now c.loop-string-test.true (c.as_bytes-bytes.ensures ∙ ap (λ (s : MergeString). s.bytes.now) c.string-item.is),
    )

pub loop-string-preserved : goal.loop-string-preserved
loop-string-preserved c =
    let f : MergeString → List ℕ = piece_of in
    record {
      written = put_next f c.args.strings.now c.loop-string.string-index c.args.at c.loop-string.at c.string-item.result c.as_bytes-bytes.result.now c.loop-string.image c.args.image.now c.write_bytes.new.image
          c.loop-string-test.true (c.as_bytes-bytes.ensures ∙ ap (λ (s : MergeString). s.bytes.now) c.string-item.is) c.loop-string.invariant.end c.requires c.loop-string.invariant.written c.write_bytes.ensures.written;
      long = c.write_bytes.ensures.long ∙ c.loop-string.invariant.long;
      end = end_next f c.args.strings.now c.loop-string.string-index c.args.at c.loop-string.at c.string-item.result c.as_bytes-bytes.result.now c.loop-string-test.true (c.as_bytes-bytes.ensures ∙ ap (λ (s : MergeString). s.bytes.now) c.string-item.is)
          c.loop-string.invariant.end;
    }
