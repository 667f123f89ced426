use Rattle.std.proofs.Common.{◌≡◌, ◌+◌, ◌<◌, ◌^◌, length}
use Rattle.std.specs.List.{enumerate_from, flat_map}
use Rattle.std.specs.Option.{option_to_list}
use Rattle.lk_link.specs.WellFormed.{IsWellFormed}
use Rattle.lk_reach.specs.Units.{dynamic_ask}
use Rattle.lk_reach.proofs.asks.DynamicRootsIterator.next.Given as goal

-- only symbols that ask for nothing were passed over
abbrev pub invariant-loop-symbol : goal.invariant-loop-symbol
invariant-loop-symbol l =
    (flat_map (λ q. option_to_list (dynamic_ask l.self-inside.link.now q)) (enumerate_from l.self-inside.number l.self-inside.symbols.now) ≡ l.fn.self)
    × IsWellFormed l.self-inside.link.now
    × (l.self-inside.number + length l.self-inside.symbols.now < 2 ^ 32)

abbrev pub decreases-loop-symbol : goal.decreases-loop-symbol
decreases-loop-symbol l = length l.self-inside.symbols.now
