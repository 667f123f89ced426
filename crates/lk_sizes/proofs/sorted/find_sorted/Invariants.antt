use Rattle.std.proofs.Common.{◌≡◌, filter, map}
use Rattle.lk_link.specs.Walks.{input_of}
use Rattle.lk_sizes.proofs.sorted.find_sorted.Given as goal

-- those that are sorted among the live sections so far
abbrev pub invariant-loop-input : goal.invariant-loop-input
invariant-loop-input l = map input_of l.found.items ≡ filter (λ x. x.section.sorted) (map input_of l.yielded)
