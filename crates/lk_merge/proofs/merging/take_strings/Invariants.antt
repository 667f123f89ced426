use Rattle.std.proofs.Common.{length, map}
use Rattle.lk_merge.specs.Buckets.{piece_of}
use Rattle.lk_merge.specs.MergingTables.{AreTaken}
use Rattle.lk_merge.proofs.merging.take_strings.Given as goal

-- the strings so far were taken of the data, and what is left stands in the data's place
abbrev pub invariant-taking : goal.invariant-taking
invariant-taking l = AreTaken l.initial.source.now (map piece_of l.strings.items) l.source.now

abbrev pub decreases-taking : goal.decreases-taking
decreases-taking l = length l.source.now
