use Rattle.std.proofs.Common.{◌≡◌, take}
use Rattle.std.specs.List.{flat_map}
use Rattle.lk_reach.specs.Units.{file_roots}
use Rattle.lk_slot_link.specs.LinkGraphs.{files_of_group}
use Rattle.lk_workers.specs.Steps.{DoesAsks}
use Rattle.lk_workers.proofs.state.GroupState.do_files.Given as goal

-- what the files so far ask for is done
abbrev pub invariant-loop-index : goal.invariant-loop-index
invariant-loop-index g l =
    (l.pass.table ≡ l.fn.pass.table) × (l.pass.parts ≡ l.fn.pass.parts) × (l.self.group ≡ l.fn.self.group)
    × DoesAsks g.J.Reach.lists.groups (flat_map (file_roots l.traversal.link) (take l.index (files_of_group l.traversal.link.groups l.fn.self.group))) l.fn.self l.self l.fn.pass.sets l.pass.sets
