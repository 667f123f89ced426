use Rattle.std.proofs.Common.{◌≡◌, map}
use Rattle.std.specs.List.{flat_map}
use Rattle.lk_link.specs.Walks.{file_of}
use Rattle.lk_live.specs.PrimaryMarks.{is_primary_symbol}
use Rattle.lk_live.proofs.primary.primary_symbols.Given as goal

-- the symbols of the files so far
abbrev pub invariant-loop-file : goal.invariant-loop-file
invariant-loop-file l = l.primary.items ≡ flat_map (λ f. map (is_primary_symbol l.link f.file) f.file.symbols) (map file_of l.yielded)
