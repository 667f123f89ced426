use Rattle.std.proofs.Common.{◌≡◌, fold, map, max, take}
use Rattle.lk_expressions.specs.Records.{file_end}
use Rattle.lk_image.proofs.places.greatest_end.Given as goal

-- the greatest of those so far
abbrev pub invariant-loop-record : goal.invariant-loop-record
invariant-loop-record l = l.end ≡ fold max 0 (map file_end (take l.record-index l.records))
