use Rattle.std.proofs.Common.{map}
use Rattle.std.specs.Option.{option_map_or}
use Rattle.lk_link.specs.Walks.{input_of}
use Rattle.lk_sizes.specs.Owners.{own_sizes, size_in}
use Rattle.lk_sizes.proofs.Adding.{AreTotals}
use Rattle.lk_sizes.proofs.owners.add_inputs.Given as goal

-- the totals are those of the sections so far
abbrev pub invariant-loop-input : goal.invariant-loop-input
invariant-loop-input l = AreTotals (size_in l.link (option_map_or (λ s. s.now) l.sizes (own_sizes l.link))) l.link (map input_of l.yielded) l.totals.items
