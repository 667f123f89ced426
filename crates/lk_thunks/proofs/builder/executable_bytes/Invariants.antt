use Rattle.std.proofs.Common.{◌≡◌, ◌+◌, ◌-◌, ◌^◌, ◌<◌, min, sum_by}
use Rattle.lk_thunks.specs.Building.{code_bytes, executable_bytes}
use Rattle.lk_thunks.proofs.builder.executable_bytes.Given as goal

-- the bytes so far, with those of the sections that are left, are all
abbrev pub invariant-loop-input : goal.invariant-loop-input
invariant-loop-input l =
    (l.total < 2 ^ 64) × (min (l.total + sum_by code_bytes l.input-iterator) (2 ^ 64 - 1) ≡ min (executable_bytes l.link) (2 ^ 64 - 1))
