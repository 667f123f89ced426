use Rattle.std.proofs.Common.{◌≡◌, length, map}
use Rattle.lk_link.specs.Walks.{input_of}
use Rattle.lk_merge.proofs.Gathering.{AreAmong}
use Rattle.lk_merge.proofs.link_inputs.gather.Given as goal

-- what is merged of the input sections so far
abbrev pub invariant-loop-input : goal.invariant-loop-input
invariant-loop-input l = (l.number ≡ length l.yielded) × AreAmong l.sections.items (length l.link.plan.sections) (map input_of l.yielded) l.outputs.items
