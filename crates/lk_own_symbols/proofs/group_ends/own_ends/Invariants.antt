use Rattle.std.proofs.Common.{◌≡◌, map, take}
use Rattle.lk_expressions.specs.Records.{mem_end}
use Rattle.lk_own_symbols.proofs.group_ends.own_ends.Given as goal

-- the ends of the sections so far
abbrev pub invariant-loop-section : goal.invariant-loop-section
invariant-loop-section l = l.ends.items ≡ map mem_end (take l.section-index l.sections)
