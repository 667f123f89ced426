use Rattle.std.proofs.Common.{length}
use Rattle.lk_merge.specs.MergingTables.{TookStrings}
use Rattle.lk_merge.proofs.merging.Merging.add_strings.Given as goal

-- the strings so far, followed by what is left, are the data
abbrev pub invariant-taking : goal.invariant-taking
invariant-taking l = TookStrings l.bytes l.input l.start l.initial.self l.rest l.at l.self

abbrev pub decreases-taking : goal.decreases-taking
decreases-taking l = length l.rest
