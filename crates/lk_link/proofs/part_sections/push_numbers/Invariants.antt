use Rattle.std.proofs.Common.{◌≡◌, ◌++◌, replicate}
use Rattle.lk_link.proofs.part_sections.push_numbers.Given as goal

-- the number once for each part so far
abbrev pub invariant-loop-part : goal.invariant-loop-part
invariant-loop-part l = l.numbers.items ≡ l.initial.numbers.items ++ replicate l._part-index l.number
