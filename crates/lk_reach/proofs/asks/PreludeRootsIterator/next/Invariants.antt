use Rattle.std.proofs.Common.{◌≡◌, ◌+◌, ◌<◌, ◌^◌, [], length}
use Rattle.std.specs.List.{enumerate_from, flat_map}
use Rattle.lk_reach.specs.Units.{own_asks}
use Rattle.lk_reach.proofs.asks.PreludeRootsIterator.next.Given as goal

-- symbols of which nothing is left were passed over
abbrev pub invariant-loop-symbol : goal.invariant-loop-symbol
invariant-loop-symbol l =
    (l.self-inside.own ≡ [])
    × (flat_map (λ q. own_asks l.self-inside.groups.now q.0 q.1 q.1.at) (enumerate_from l.self-inside.number l.self-inside.symbols.now) ≡ l.fn.self)
    × (l.self-inside.number + length l.self-inside.symbols.now < 2 ^ 32)

abbrev pub decreases-loop-symbol : goal.decreases-loop-symbol
decreases-loop-symbol l = length l.self-inside.symbols.now
