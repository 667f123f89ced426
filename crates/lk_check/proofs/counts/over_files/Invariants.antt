use Rattle.std.proofs.Common.{◌≡◌, ◌-◌, ◌^◌, min, take}
use Rattle.lk_link.specs.Limits.{over_files}
use Rattle.lk_check.proofs.counts.over_files.Given as goal

abbrev pub invariant-loop-files : goal.invariant-loop-files
invariant-loop-files g l = l.count ≡ min (over_files g.N.FileNumber.number (take l.files-index l.groups)) (2 ^ 64 - 1)
