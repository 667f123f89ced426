use Rattle.std.proofs.Common.{◌≡◌, take}
use Rattle.std.specs.List.{flat_map}
use Rattle.lk_tables.proofs.by_groups.put_together.Given as goal

-- those of the groups so far
abbrev pub invariant-loop-group : goal.invariant-loop-group
invariant-loop-group l = record {
  files : l.files.items ≡ flat_map (λ g. g.files) (take l.group-index l.groups);
  commons : l.commons.items ≡ flat_map (λ g. g.commons) (take l.group-index l.groups);
}
