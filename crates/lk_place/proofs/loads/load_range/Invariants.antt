use Rattle.std.proofs.Common.{◌≡◌, ℕ, ◌-◌, ◌≤◌, Some, length}
use Rattle.std.specs.Prelude.{if◌then◌else◌}
use Rattle.lk_place.specs.PlacedBefore.{lies_in}
use Rattle.lk_expressions.specs.Records.{record_at}
use Rattle.lk_place.specs.Placement.{loaded_by}
use Rattle.lk_place.proofs.loads.load_range.Given as goal

-- the records loaded so far
abbrev pub invariant-loop-place : goal.invariant-loop-place
invariant-loop-place l =
    record {
      above : l.first ≤ l.place;
      each : length l.records ≡ length l.initial.records;
      records : (p : ℕ) → record_at l.records p
          ≡ (if lies_in l.first (l.place - l.first) p then loaded_by (Some l.address) (record_at l.initial.records p) else record_at l.initial.records p);
    }
