use Rattle.std.proofs.Common.{◌≡◌, ℕ, ◌<◌, ◌≤◌, drop, length, vec_len, None}
use Rattle.std.specs.Prelude.{◌==◌, filter}
use Rattle.std.specs.List.{position_from, slice_index_or}
use Rattle.lk_link.specs.Files.{first_some}
use Rattle.lk_tables.specs.HeaderParts.{event_sections}
use Rattle.lk_sizes.proofs.header.index_emitted.Given as goal
use Rattle.lk_link.specs.Marks.{is_marked}

-- the index so far, or else the one that is given by what is left
abbrev pub invariant-loop-event : goal.invariant-loop-event
invariant-loop-event l = record {
  count : vec_len l.indexes ≡ length l.plan.sections;
  few : l.next ≤ l.event-index;
  given : (s : ℕ) → s < length l.plan.sections
      → first_some (slice_index_or l.indexes.items s None) (position_from (λ t. t == s) l.next (filter (is_marked l.emitted) (event_sections (drop l.event-index l.plan.events))))
      ≡ position_from (λ t. t == s) 0 (filter (is_marked l.emitted) (event_sections l.plan.events));
}
