use Rattle.std.proofs.Common.{◌≡◌, ◌++◌, drop, map}
use Rattle.lk_group_starts.specs.GroupStarts.{entries_in}
use Rattle.lk_group_starts.proofs.group_starts.all_entries.Given as goal

-- those so far, and those of what is left, are all
abbrev pub invariant-loop-start : goal.invariant-loop-start
invariant-loop-start l = l.all.items ++ map (entries_in l.entry) (drop l.start-index l.starts) ≡ map (entries_in l.entry) l.starts
