use Rattle.std.proofs.Common.{◌≡◌, ◌+◌, ◌<◌, ◌^◌, length}
use Rattle.lk_reach.specs.Units.{section_roots}
use Rattle.lk_reach.proofs.asks.SectionRootsIterator.next.Given as goal

-- only sections that aren't roots were passed over
abbrev pub invariant-loop-section : goal.invariant-loop-section
invariant-loop-section l =
    (section_roots l.self-inside.gc l.self-inside.file l.self-inside.index l.self-inside.sections.now ≡ l.fn.self)
    × (l.self-inside.index + length l.self-inside.sections.now < 2 ^ 32)

abbrev pub decreases-loop-section : goal.decreases-loop-section
decreases-loop-section l = length l.self-inside.sections.now
