use Rattle.std.proofs.Common.{◌≡◌, map, take}
use Rattle.std.specs.Option.{option_map_or}
use Rattle.lk_link.specs.Walks.{input_of}
use Rattle.lk_sizes.specs.Harvest.{sorted_section}
use Rattle.lk_sizes.specs.Owners.{own_sizes}
use Rattle.lk_sizes.proofs.sorted.tell_all.Given as goal

-- those so far are told
abbrev pub invariant-loop-input : goal.invariant-loop-input
invariant-loop-input l =
    l.told.items ≡ map (sorted_section l.link (option_map_or (λ s. s.now) l.sizes (own_sizes l.link))) (map input_of (take l.input-index l.found))
