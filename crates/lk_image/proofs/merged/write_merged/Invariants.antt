use Rattle.std.proofs.Common.{◌≡◌, fold, length, take}
use Rattle.std.specs.List.{enumerate_from, flat_map}
use Rattle.lk_image.specs.Image.{merged_stretch}
use Rattle.lk_image.specs.Stretches.{with_stretch}
use Rattle.lk_image.proofs.merged.write_merged.Given as goal

-- those of the sections so far are written
abbrev pub invariant-loop-section : goal.invariant-loop-section
invariant-loop-section l = record {
  written : l.image ≡ fold with_stretch l.initial.image (flat_map (merged_stretch l.link l.layout) (take l.section (enumerate_from 0 l.layout.merged_strings)));
  long : length l.image ≡ length l.initial.image;
}
