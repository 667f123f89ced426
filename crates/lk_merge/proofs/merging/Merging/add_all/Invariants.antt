use Rattle.std.proofs.Common.{map, take}
use Rattle.lk_merge.specs.Buckets.{piece_of}
use Rattle.lk_merge.specs.MergingTables.{AreAdded}
use Rattle.lk_merge.proofs.merging.Merging.add_all.Given as goal

-- the pieces so far have been added
abbrev pub invariant-loop-index : goal.invariant-loop-index
invariant-loop-index l = AreAdded l.input l.start l.initial.self (map piece_of (take l.index l.strings)) l.at l.self
