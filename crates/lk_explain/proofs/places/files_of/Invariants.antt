use Rattle.std.proofs.Common.{◌≡◌, map}
use Rattle.lk_link.specs.Inputs.{NumberedFile}
use Rattle.lk_link.specs.Walks.{file_of}
use Rattle.lk_explain.proofs.places.files_of.Given as goal

-- the files so far
abbrev pub invariant-loop-file : goal.invariant-loop-file
invariant-loop-file l = l.files.items ≡ map (λ (f : NumberedFile). f.id) (map file_of l.yielded)
