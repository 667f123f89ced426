use Rattle.std.proofs.Common.{◌≡◌, map, sum_by}
use Rattle.std.specs.List.{flat_map}
use Rattle.lk_link.specs.Symbols.{symbols_in}
use Rattle.lk_link.specs.Walks.{file_of}
use Rattle.lk_resolutions.specs.AtHand.{places_at_hand, setting_at_hand}
use Rattle.lk_resolutions.specs.EntryWords.{AreNextAt}
use Rattle.lk_resolutions.specs.Resolutions.{file_resolutions}
use Rattle.lk_resolutions.proofs.resolution.resolve_all.Given as goal

-- the resolutions of the files so far, behind whose symbols the next entries stand
abbrev pub invariant-loop-file : goal.invariant-loop-file
invariant-loop-file g l = record {
  pushed : l.resolutions ≡ flat_map (file_resolutions (places_at_hand l.tables) (setting_at_hand (g.P.Platform.table_sizes l.platform) l.tables)) (map file_of l.yielded);
  next : AreNextAt (setting_at_hand (g.P.Platform.table_sizes l.platform) l.tables) (sum_by (λ f. symbols_in f.file) (map file_of l.yielded)) l.entries;
}
