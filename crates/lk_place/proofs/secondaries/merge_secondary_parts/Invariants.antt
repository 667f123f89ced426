use Rattle.std.proofs.Common.{◌≡◌, ℕ, ◌<◌, drop, length}
use Rattle.std.specs.List.{enumerate_from, filter_map}
use Rattle.lk_expressions.specs.Records.{record_at}
use Rattle.lk_place.specs.Secondaries.{overflowing}
use Rattle.lk_place.specs.SecondariesSoFar.{merged_so_far}
use Rattle.lk_place.proofs.secondaries.merge_secondary_parts.Given as goal

-- the sections so far are joined, and what overflows first among those that are left does so among all
abbrev pub invariant-loop-number : goal.invariant-loop-number
invariant-loop-number l = record {
  count : length l.merged.items ≡ length l.sections;
  each : (s : ℕ) → s < length l.sections → record_at l.merged.items s ≡ merged_so_far l.link.plan.sections l.sections l.number s;
  left : filter_map (overflowing l.link.plan.sections l.sections) (enumerate_from l.number (drop l.number l.link.plan.sections))
      ≡ filter_map (overflowing l.link.plan.sections l.sections) (enumerate_from 0 l.link.plan.sections);
}
