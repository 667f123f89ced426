use Rattle.std.proofs.Common.{◌≡◌, ◌+◌, ◌<◌, ◌^◌, All, None, length}
use Rattle.std.specs.List.{flat_map}
use Rattle.lk_link.specs.declared.relocation.Relocation.{Relocation}
use Rattle.lk_reach.specs.Units.{relocation_asks}
use Rattle.lk_reach.proofs.asks.RelocationAsksIterator.next.Given as goal

-- no mark is waiting, and the relocations that are left ask for all that is left
abbrev pub invariant-loop-relocation : goal.invariant-loop-relocation
invariant-loop-relocation l =
    (l.self-inside.mark ≡ None)
    × (flat_map (relocation_asks l.self-inside.primary l.self-inside.first l.self-inside.symbols.now) l.self-inside.relocs.now ≡ l.fn.self)
    × All (λ (r : Relocation). l.self-inside.first + r.symbol < 2 ^ 32) l.self-inside.relocs.now

abbrev pub decreases-loop-relocation : goal.decreases-loop-relocation
decreases-loop-relocation l = length l.self-inside.relocs.now
