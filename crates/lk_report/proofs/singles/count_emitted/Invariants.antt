use Rattle.std.proofs.Common.{◌≡◌, ◌-◌, ◌^◌, min, take}
use Rattle.std.specs.Prelude.{is_some}
use Rattle.std.specs.List.{count_by}
use Rattle.lk_report.proofs.singles.count_emitted.Given as goal

-- those so far
abbrev pub invariant-loop-told : goal.invariant-loop-told
invariant-loop-told l = l.count ≡ min (count_by is_some (take l.told-index l.indexes)) (2 ^ 64 - 1)
