use Rattle.std.proofs.Common.{◌≡◌, take}
use Rattle.std.specs.List.{flat_map}
use Rattle.lk_gc.proofs.faults_by_groups.put_together.Given as goal

-- those of the groups so far
abbrev pub invariant-loop-list : goal.invariant-loop-list
invariant-loop-list l = l.all.items ≡ flat_map (λ list. list) (take l.list-index l.lists)
