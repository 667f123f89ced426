use Rattle.std.proofs.Common.{◌≡◌, ℕ, ◌<◌, drop, length}
use Rattle.std.specs.Prelude.{slice_index}
use Rattle.std.specs.List.{enumerate_from}
use Rattle.lk_own_symbols.specs.Edges.{group_end}
use Rattle.lk_own_symbols.proofs.GroupEnds.{raised}
use Rattle.lk_own_symbols.proofs.group_ends.group_ends.Given as goal

-- an end for each section, which the sections that are left raise to that of its group
abbrev pub invariant-loop-number : goal.invariant-loop-number
invariant-loop-number l = record {
  count : length l.ends.items ≡ length l.sections;
  each : (s : ℕ) → s < length l.sections
      → raised l.sections s (slice_index l.ends.items s) (enumerate_from l.number (drop l.number l.link.plan.sections))
      ≡ group_end l.link.plan.sections l.sections s;
}
