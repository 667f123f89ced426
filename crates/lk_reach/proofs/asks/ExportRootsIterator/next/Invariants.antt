use Rattle.std.proofs.Common.{◌≡◌, ◌+◌, ◌<◌, ◌^◌, length}
use Rattle.std.specs.Option.{option_copied}
use Rattle.lk_reach.specs.Units.{export_asks}
use Rattle.lk_reach.proofs.asks.ExportRootsIterator.next.Given as goal

-- only symbols that aren't exported were passed over
abbrev pub invariant-loop-symbol : goal.invariant-loop-symbol
invariant-loop-symbol l =
    (export_asks (option_copied l.self-inside.names) l.self-inside.sections.now l.self-inside.number l.self-inside.symbols.now ≡ l.fn.self)
    × (l.self-inside.number + length l.self-inside.symbols.now < 2 ^ 32)

abbrev pub decreases-loop-symbol : goal.decreases-loop-symbol
decreases-loop-symbol l = length l.self-inside.symbols.now
