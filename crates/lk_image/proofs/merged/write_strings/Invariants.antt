use Rattle.std.proofs.Common.{◌≡◌, ◌+◌, length, take}
use Rattle.std.specs.List.{flat_map}
use Rattle.lk_merge.specs.Buckets.{piece_of}
use Rattle.lk_image.specs.Stretches.{put}
use Rattle.lk_image.proofs.merged.write_strings.Given as goal

-- those so far are written
abbrev pub invariant-loop-string : goal.invariant-loop-string
invariant-loop-string l = record {
  written : l.image ≡ put l.initial.at (flat_map piece_of (take l.string-index l.strings)) l.initial.image;
  long : length l.image ≡ length l.initial.image;
  end : l.at ≡ l.initial.at + length (flat_map piece_of (take l.string-index l.strings));
}
