use Rattle.std.proofs.Common.{map, sum_by}
use Rattle.std.specs.List.{AllZip}
use Rattle.lk_link.specs.Symbols.{symbols_in}
use Rattle.lk_link.specs.Walks.{file_of}
use Rattle.lk_resolutions.specs.AtHand.{setting_at_hand}
use Rattle.lk_resolutions.specs.ByGroups.{AreNextOf}
use Rattle.lk_resolutions.specs.EntryWords.{AreNextAt}
use Rattle.lk_resolutions.proofs.by_groups.entries_by_file.Given as goal

-- those of the files so far, behind whose symbols the next entries stand
abbrev pub invariant-loop-file : goal.invariant-loop-file
invariant-loop-file g l = record {
  each : AllZip (AreNextOf (setting_at_hand (g.P.Platform.table_sizes l.platform) l.tables)) (map file_of l.yielded) l.starts.items;
  next : AreNextAt (setting_at_hand (g.P.Platform.table_sizes l.platform) l.tables) (sum_by (λ f. symbols_in f.file) (map file_of l.yielded)) l.next;
}
