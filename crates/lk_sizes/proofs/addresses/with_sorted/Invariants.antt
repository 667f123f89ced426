use Rattle.std.proofs.Common.{◌≡◌, ℕ, length, take}
use Rattle.lk_sizes.specs.Tables.{AreBehind, AreTheirs, AreWritten}
use Rattle.lk_sizes.proofs.addresses.with_sorted.Given as goal

-- the next addresses are behind the sections so far, which have theirs
abbrev pub invariant-loop-section : goal.invariant-loop-section
invariant-loop-section l = record {
  behind : AreBehind l.initial.next.items (take l.section-index l.sorted) l.next.items;
  long : length l.addresses.items ≡ length l.initial.addresses.items;
  written : (table : ℕ → ℕ) → AreTheirs l.link table l.initial.next.items l.sorted
      → AreWritten l.link table (take l.section-index l.sorted) l.initial.addresses.items l.addresses.items;
}
