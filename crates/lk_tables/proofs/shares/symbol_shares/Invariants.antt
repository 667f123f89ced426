use Rattle.std.proofs.Common.{◌≡◌, map}
use Rattle.std.specs.List.{flat_map}
use Rattle.lk_link.specs.Walks.{file_of}
use Rattle.lk_tables.specs.Commons.{commons_of}
use Rattle.lk_tables.specs.ShareWords.{first_share}
use Rattle.lk_tables.proofs.shares.symbol_shares.Given as goal

-- what the files so far bring
abbrev pub invariant-loop-file : goal.invariant-loop-file
invariant-loop-file g l =
    (l.files.items ≡ map (first_share (g.P.Platform.table_sizes l.platform) l.link l.live) (map file_of l.yielded))
    × (l.commons.items ≡ flat_map (commons_of l.link l.live) (map file_of l.yielded))
