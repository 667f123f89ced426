use Rattle.std.proofs.Common.{◌+◌, ◌≤◌, length}
use Rattle.lk_resolutions.specs.AtHand.{setting_at_hand}
use Rattle.lk_resolutions.specs.EntryWords.{AreNextAt}
use Rattle.lk_resolutions.proofs.by_groups.pass_file.Given as goal

-- the entries of the symbol that comes are next
abbrev pub invariant-loop-index : goal.invariant-loop-index
invariant-loop-index g l = record {
  next : AreNextAt (setting_at_hand (g.P.Platform.table_sizes l.platform) l.tables) (l.first + l.index) l.next;
  within : l.index ≤ length l.symbols;
}
