use Rattle.std.proofs.Common.{◌≡◌, ◌++◌, drop, map}
use Rattle.std.specs.List.{enumerate_from, flat_map}
use Rattle.lk_link.specs.Parts.{part_sections}
use Rattle.lk_link.proofs.part_sections.section_of_parts.Given as goal

-- the numbers so far, followed by those of the sections that are left, are all
abbrev pub invariant-loop-number : goal.invariant-loop-number
invariant-loop-number l = l.numbers.items ++ flat_map (λ q. map (λ p. q.0) q.1.parts) (enumerate_from l.number (drop l.number l.sections)) ≡ part_sections l.sections
