use Rattle.std.proofs.Common.{◌≡◌, take}
use Rattle.std.specs.List.{flat_map}
use Rattle.lk_resolutions.proofs.by_groups.put_together.Given as goal

-- those of the groups so far
abbrev pub invariant-loop-list : goal.invariant-loop-list
invariant-loop-list l = l.all ≡ flat_map (λ list. list) (take l.list-index l.lists)
