use Rattle.std.proofs.Common.{◌≡◌, take}
use Rattle.lk_tables.specs.TableLists.{TableLists}
use Rattle.lk_tables.specs.Totals.{totals_of}
use Rattle.lk_sizes.specs.Tables.{with_tables}
use Rattle.lk_sizes.proofs.owners.add_tables.Given as goal

-- the totals so far, with the entries
abbrev pub invariant-loop-number : goal.invariant-loop-number
invariant-loop-number l = (lists : TableLists) → l.tables ≡ totals_of lists → l.whole.items ≡ with_tables l.link.plan.named lists (take l.number l.totals)
