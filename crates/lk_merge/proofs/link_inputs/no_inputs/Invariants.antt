use Rattle.std.proofs.Common.{◌≡◌, [], replicate}
use Rattle.lk_merge.proofs.link_inputs.no_inputs.Given as goal

-- an empty list for each output section so far
abbrev pub invariant-loop : goal.invariant-loop
invariant-loop l = l.outputs.items ≡ replicate l.counter []
