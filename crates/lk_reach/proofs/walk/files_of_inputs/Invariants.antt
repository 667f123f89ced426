use Rattle.std.proofs.Common.{◌≡◌, map}
use Rattle.lk_link.specs.Inputs.{Input}
use Rattle.lk_link.specs.Walks.{input_of}
use Rattle.lk_reach.proofs.walk.files_of_inputs.Given as goal

-- the files of the sections so far
abbrev pub invariant-loop-input : goal.invariant-loop-input
invariant-loop-input l = l.files.items ≡ map (λ (x : Input). x.file) (map input_of l.yielded)
