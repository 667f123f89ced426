use Rattle.std.proofs.Common.{◌≡◌, ◌++◌, replicate}
use Rattle.lk_workers.proofs.traversal.push_group.Given as goal

-- the group, once for each symbol so far
abbrev pub invariant-loop : goal.invariant-loop
invariant-loop l = l.groups.items ≡ l.fn.groups.items ++ replicate l.index l.file.id.group
