use Rattle.lk_link.specs.Walks.{file_of}
use Rattle.std.specs.Option.{option_map_or}
use Rattle.lk_sizes.specs.Owners.{own_sizes, size_in}
use Rattle.lk_sizes.proofs.Placed.{AreReached}
use Rattle.lk_sizes.proofs.addresses.place_sections.Given as goal

-- the sections so far have their addresses, and the next ones are behind them
abbrev pub invariant-loop-index : goal.invariant-loop-index
invariant-loop-index l = AreReached (size_in l.link (option_map_or (λ s. s.now) l.sizes (own_sizes l.link))) l.link l.live (file_of l.file) l.initial.next l.index l.next l.initial.addresses.items l.addresses.items
