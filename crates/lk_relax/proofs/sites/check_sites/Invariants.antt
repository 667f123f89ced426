use Rattle.std.proofs.Common.{◌≡◌, [], map}
use Rattle.std.specs.List.{flat_map}
use Rattle.lk_link.specs.Walks.{file_of}
use Rattle.lk_relax.specs.ScanWords.{pass_state_of}
use Rattle.lk_relax.specs.Sites.{file_past}
use Rattle.lk_relax.proofs.sites.check_sites.Given as goal

-- no candidate of the files so far is past its limit
abbrev pub invariant-loop-file : goal.invariant-loop-file
invariant-loop-file l = flat_map (file_past (pass_state_of l.by)) (map file_of l.yielded) ≡ []
