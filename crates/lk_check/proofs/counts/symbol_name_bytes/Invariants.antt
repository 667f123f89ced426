use Rattle.std.proofs.Common.{◌≡◌, ◌+◌, ◌-◌, ◌^◌, length, min, sum_by, take}
use Rattle.lk_check.proofs.counts.symbol_name_bytes.Given as goal

abbrev pub invariant-loop-symbol : goal.invariant-loop-symbol
invariant-loop-symbol l = l.count ≡ min (sum_by (λ s. length s.name + 1) (take l.symbol-index l.symbols)) (2 ^ 64 - 1)
