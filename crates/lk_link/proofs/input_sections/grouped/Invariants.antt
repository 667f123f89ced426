use Rattle.std.proofs.Common.{◌≡◌, ℕ, take}
use Rattle.lk_link.specs.Numbered.{items_of}
use Rattle.lk_link.specs.SectionGroups.{group_members}
use Rattle.lk_link.proofs.input_sections.grouped.Given as goal

abbrev pub invariant-loop-index : goal.invariant-loop-index
invariant-loop-index l = (group : ℕ) → items_of group l.pairs.items ≡ group_members (take l.index l.sections) group
