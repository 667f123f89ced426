use Rattle.std.proofs.Common.{◌≡◌, map}
use Rattle.std.specs.List.{range_with_len}
use Rattle.lk_live.specs.KeptParts.{part_keeps}
use Rattle.lk_live.proofs.keep.kept_by_parts.Given as goal

-- the marks of the output sections so far
abbrev pub invariant-loop-section : goal.invariant-loop-section
invariant-loop-section l = l.kept.items ≡ map (part_keeps l.link l.parts) (range_with_len 0 l.section)
