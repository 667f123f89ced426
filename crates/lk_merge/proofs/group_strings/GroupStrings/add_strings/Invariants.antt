use Rattle.std.proofs.Common.{length}
use Rattle.lk_merge.specs.GroupStrings.{BroughtUntil}
use Rattle.lk_merge.proofs.group_strings.GroupStrings.add_strings.Given as goal

-- the strings before the rest have been brought
abbrev pub invariant-taking : goal.invariant-taking
invariant-taking l = BroughtUntil l.bytes l.input l.start l.end l.initial.self l.rest l.at l.self

abbrev pub decreases-taking : goal.decreases-taking
decreases-taking l = length l.rest
