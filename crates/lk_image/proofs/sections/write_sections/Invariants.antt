use Rattle.std.proofs.Common.{◌≡◌, fold, length, map}
use Rattle.std.specs.List.{enumerate_from, flat_map}
use Rattle.lk_link.specs.Walks.{input_of}
use Rattle.lk_image.specs.Image.{section_stretch}
use Rattle.lk_image.specs.Stretches.{with_stretch}
use Rattle.lk_image.proofs.sections.write_sections.Given as goal

-- those of the sections so far are written
abbrev pub invariant-loop-input : goal.invariant-loop-input
invariant-loop-input l = record {
  written : l.image ≡ fold with_stretch l.initial.image (flat_map (section_stretch l.link l.layout) (enumerate_from 0 (map input_of l.yielded)));
  long : length l.image ≡ length l.initial.image;
  number : l.number ≡ length l.yielded;
}
