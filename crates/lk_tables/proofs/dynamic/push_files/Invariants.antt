use Rattle.std.proofs.Common.{◌≡◌, ◌++◌, map}
use Rattle.std.specs.List.{flat_map}
use Rattle.lk_link.specs.Walks.{file_of}
use Rattle.lk_tables.specs.DynamicWords.{file_numbers}
use Rattle.lk_tables.proofs.dynamic.push_files.Given as goal

-- those of the files so far are added
abbrev pub invariant-loop-file : goal.invariant-loop-file
invariant-loop-file l =
    l.table.items ≡ l.initial.table.items ++ flat_map (file_numbers l.exported l.given.link.now l.given.live.now l.given.told.now) (map file_of l.yielded)
