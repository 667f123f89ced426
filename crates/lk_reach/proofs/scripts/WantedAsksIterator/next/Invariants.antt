use Rattle.std.proofs.Common.{◌≡◌, ◌+◌, ◌<◌, ◌^◌, filter, length, map}
use Rattle.std.specs.List.{enumerate_from}
use Rattle.lk_reach.specs.declared.units.Ask.TheVariants.{Reference}
use Rattle.lk_reach.specs.Units.{flags_from, is_script_root}
use Rattle.lk_reach.proofs.scripts.WantedAsksIterator.next.Given as goal

-- only symbols that aren't asked for were passed over
abbrev pub invariant-loop-symbol : goal.invariant-loop-symbol
invariant-loop-symbol l =
    (map (λ q. Reference q.0 (flags_from 0)) (filter is_script_root (enumerate_from l.self-inside.number l.self-inside.symbols.now)) ≡ l.fn.self)
    × (l.self-inside.number + length l.self-inside.symbols.now < 2 ^ 32)

abbrev pub decreases-loop-symbol : goal.decreases-loop-symbol
decreases-loop-symbol l = length l.self-inside.symbols.now
