use Rattle.std.proofs.Common.{◌≡◌, ◌+◌, drop, map, sum_by, take}
use Rattle.std.specs.List.{range_with_len}
use Rattle.lk_group_starts.specs.GroupStarts.{capped, files_before, taken_before}
use Rattle.lk_group_starts.proofs.group_starts.starts_in.Given as goal

-- the starts so far, what is left of the files, and what those before take
abbrev pub invariant-loop-group : goal.invariant-loop-group
invariant-loop-group l =
    (l.starts.items ≡ map (λ g. taken_before l.own l.bytes (files_before l.groups g)) (range_with_len 0 l.group-index))
    × (l.left ≡ drop (files_before l.groups l.group-index) l.bytes)
    × (l.sum ≡ capped (l.own + sum_by (λ b. b) (take (files_before l.groups l.group-index) l.bytes)))
    × (l.files ≡ capped (files_before l.groups l.group-index))
