use Rattle.std.proofs.Common.{◌≡◌, ◌++◌, drop, map}
use Rattle.std.specs.List.{slice_index}
use Rattle.lk_link.specs.Parts.{part_sections}
use Rattle.lk_sizes.proofs.ImageLemmas.{sections_from}
use Rattle.lk_sizes.proofs.owners.image_lens.Given as goal

-- the lengths so far, followed by those of the parts of the sections that are left, are all
abbrev pub invariant-loop-number : goal.invariant-loop-number
invariant-loop-number l = l.lens.items ++ map (slice_index l.merged_lens) (sections_from l.number (drop l.number l.sections)) ≡ map (slice_index l.merged_lens) (part_sections l.sections)
