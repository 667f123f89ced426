use Rattle.std.proofs.Common.{◌≡◌, ◌+◌, length, take}
use Rattle.std.specs.List.{concat, flat_map}
use Rattle.lk_image.specs.Stretches.{put}
use Rattle.lk_image.proofs.merged.write_buckets.Given as goal

-- the pieces of the buckets so far are written
abbrev pub invariant-loop-bucket : goal.invariant-loop-bucket
invariant-loop-bucket l = record {
  written : l.image ≡ put l.initial.at (flat_map (λ b. concat b.pieces) (take l.bucket-index l.buckets)) l.initial.image;
  long : length l.image ≡ length l.initial.image;
  end : l.at ≡ l.initial.at + length (flat_map (λ b. concat b.pieces) (take l.bucket-index l.buckets));
}
