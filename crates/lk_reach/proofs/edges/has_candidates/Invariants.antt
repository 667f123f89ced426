use Rattle.std.proofs.Common.{◌≡◌, false, map}
use Rattle.std.specs.List.{list_any}
use Rattle.lk_link.specs.Inputs.{NumberedFile}
use Rattle.lk_link.specs.Walks.{file_of}
use Rattle.lk_reach.specs.Edges.{offers_candidates}
use Rattle.lk_reach.proofs.edges.has_candidates.Given as goal

-- none of the files so far has any
abbrev pub invariant-loop-file : goal.invariant-loop-file
invariant-loop-file l = list_any (λ (f : NumberedFile). offers_candidates f.file) (map file_of l.yielded) ≡ false
