use Rattle.std.proofs.Common.{map, take}
use Rattle.lk_merge.specs.Inputs.{input_of, located}
use Rattle.lk_merge.specs.MergingTables.{HasMerged}
use Rattle.lk_merge.proofs.merging.merge_pieces.Given as goal

-- the pieces of the inputs so far have been added
abbrev pub invariant-loop-index : goal.invariant-loop-index
invariant-loop-index l = HasMerged l.fn.output l.limit (located (map input_of (take l.index l.sections))) l.merging
