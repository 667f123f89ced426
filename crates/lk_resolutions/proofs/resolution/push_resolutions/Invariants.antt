use Rattle.std.proofs.Common.{◌≡◌, ◌++◌, ◌+◌, ◌≤◌, length, map, take}
use Rattle.std.specs.List.{enumerate_from}
use Rattle.lk_resolutions.specs.AtHand.{places_at_hand, setting_at_hand}
use Rattle.lk_resolutions.specs.EntryWords.{AreNextAt}
use Rattle.lk_resolutions.specs.Resolutions.{resolution_of}
use Rattle.lk_resolutions.proofs.resolution.push_resolutions.Given as goal

-- the resolutions of the symbols so far are added, and the entries of the one that comes are next
abbrev pub invariant-loop-index : goal.invariant-loop-index
invariant-loop-index g l = record {
  pushed : l.resolutions
      ≡ l.initial.resolutions
      ++ map (resolution_of (places_at_hand l.tables) (setting_at_hand (g.P.Platform.table_sizes l.platform) l.tables) l.at_hand.file.file.now.kind l.at_hand.first_input)
      (enumerate_from l.at_hand.first_symbol (take l.index l.symbols));
  next : AreNextAt (setting_at_hand (g.P.Platform.table_sizes l.platform) l.tables) (l.at_hand.first_symbol + l.index) l.next;
  within : l.index ≤ length l.symbols;
}
