use Rattle.std.proofs.Common.{◌≡◌, ◌∷◌, map}
use Rattle.std.specs.List.{flat_map}
use Rattle.lk_link.specs.Walks.{file_of}
use Rattle.lk_reach.specs.Marks.{flags_handed_in}
use Rattle.lk_reach.proofs.walk.handed_in.Given as goal

-- a spare word, and the flags of the files so far
abbrev pub invariant-loop-file : goal.invariant-loop-file
invariant-loop-file l = l.words.items ≡ 0 ∷ flat_map (λ f. map flags_handed_in f.file.symbols) (map file_of l.yielded)
