use Rattle.std.proofs.Common.{◌≡◌, [], take}
use Rattle.std.specs.List.{enumerate_from, flat_map}
use Rattle.lk_relax.specs.ScanWords.{pass_state_of}
use Rattle.lk_relax.specs.Sites.{section_past}
use Rattle.lk_relax.proofs.sites.check_sections.Given as goal

-- no candidate of the sections so far is past its limit
abbrev pub invariant-loop-index : goal.invariant-loop-index
invariant-loop-index l = flat_map (section_past (pass_state_of l.by) l.file.id) (take l.index (enumerate_from 0 l.file.file.now.sections)) ≡ []
