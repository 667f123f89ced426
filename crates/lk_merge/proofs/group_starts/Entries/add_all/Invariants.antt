use Rattle.std.proofs.Common.{◌≡◌, List, ◌++◌, take}
use Rattle.lk_merge.specs.GroupStarts.{HasEntries}
use Rattle.lk_merge.specs.Inputs.{Located}
use Rattle.lk_merge.specs.PieceStarts.{HasStarts}
use Rattle.lk_merge.proofs.group_starts.Entries.add_all.Given as goal

-- the entries of the pieces so far have been added
abbrev pub invariant-loop-index : goal.invariant-loop-index
invariant-loop-index l = (all done more rest : List Located) → all ≡ done ++ (more ++ rest) → HasStarts more l.starts
    → HasEntries all done l.initial.self → HasEntries all (done ++ take l.index more) l.self
