use Rattle.std.proofs.Common.{List, ℕ, ap, ◌∙◌, arith}
use Rattle.std.specs.List.{concat, flat_map}
use Rattle.lk_merge.specs.Buckets.{piece_of}
use Rattle.lk_merge.specs.declared.bucket.MergeStringsSectionBucket.{MergeStringsSectionBucket}
use Rattle.lk_image.proofs.Pieces.{joined}
use Rattle.lk_image.proofs.Putting.{end_next, put_next, room_next}
use Rattle.lk_image.proofs.merged.write_buckets.Goals as goal

pub write_strings-at-requires : goal.write_strings-at-requires
write_strings-at-requires c =
    let f : MergeStringsSectionBucket → List ℕ = λ b. concat b.pieces in
    let bytes : List ℕ = flat_map piece_of c.strings.result.now in
    let is = joined piece_of c.strings.result.now ∙ ap concat c.strings.ensures ∙ ap f c.bucket-item.is in
    omega (
      arith,
      c.requires,
      c.loop-bucket.invariant.end,
      c.loop-bucket.invariant.long,
      room_next f c.args.buckets.now c.loop-bucket.bucket-index c.bucket-item.result bytes c.loop-bucket-test.true is,
    )

pub loop-bucket-preserved : goal.loop-bucket-preserved
loop-bucket-preserved c =
    let f : MergeStringsSectionBucket → List ℕ = λ b. concat b.pieces in
    let bytes : List ℕ = flat_map piece_of c.strings.result.now in
    let is = joined piece_of c.strings.result.now ∙ ap concat c.strings.ensures ∙ ap f c.bucket-item.is in
    record {
      written = put_next f c.args.buckets.now c.loop-bucket.bucket-index c.args.at c.loop-bucket.at c.bucket-item.result bytes c.loop-bucket.image c.args.image.now c.write_strings-at.new.image
          c.loop-bucket-test.true is c.loop-bucket.invariant.end c.requires c.loop-bucket.invariant.written c.write_strings-at.ensures.written;
      long = c.write_strings-at.ensures.long ∙ c.loop-bucket.invariant.long;
      end = c.write_strings-at.ensures.end
          ∙ end_next f c.args.buckets.now c.loop-bucket.bucket-index c.args.at c.loop-bucket.at c.bucket-item.result bytes c.loop-bucket-test.true is c.loop-bucket.invariant.end;
    }
