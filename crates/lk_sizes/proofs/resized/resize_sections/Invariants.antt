use Rattle.std.proofs.Common.{◌≡◌, take}
use Rattle.lk_sizes.specs.Resized.{resized_sections}
use Rattle.lk_sizes.proofs.resized.resize_sections.Given as goal

-- those so far
abbrev pub invariant-loop-section : goal.invariant-loop-section
invariant-loop-section l = l.resized.items ≡ resized_sections l.link l.sizes (take l.section-index l.sorted)
