use Rattle.std.proofs.Common.{length}
use Rattle.lk_input.proofs.read.cuts.behind_blanks.Given as goal

abbrev pub decreases-blanks : goal.decreases-blanks
decreases-blanks l = length l.rest
