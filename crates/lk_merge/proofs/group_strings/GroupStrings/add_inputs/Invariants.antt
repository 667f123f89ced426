use Rattle.std.proofs.Common.{map, take}
use Rattle.lk_merge.specs.Between.{between}
use Rattle.lk_merge.specs.GroupStrings.{HasBrought}
use Rattle.lk_merge.specs.Inputs.{input_of, located}
use Rattle.lk_merge.proofs.group_strings.GroupStrings.add_inputs.Given as goal

-- the pieces of the group of the inputs so far have been brought
abbrev pub invariant-loop-index : goal.invariant-loop-index
invariant-loop-index l = HasBrought (between l.from l.end (located (map input_of (take l.index l.sections)))) l.self
