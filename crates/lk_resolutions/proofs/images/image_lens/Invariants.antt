use Rattle.std.proofs.Common.{◌≡◌, ◌++◌, drop}
use Rattle.lk_resolutions.specs.OutputContent.{lens_of}
use Rattle.lk_resolutions.proofs.images.image_lens.Given as goal

-- the lengths so far, followed by those of the sections that are left, are all
abbrev pub invariant-loop-section : goal.invariant-loop-section
invariant-loop-section l = l.lens.items ++ lens_of (drop l.section-index l.merged) ≡ lens_of l.merged
