use Rattle.std.proofs.Common.{◌≡◌, ℕ, ◌<◌, length, take, get_or}
use Rattle.lk_link.specs.Parts.{all_parts, first_part}
use Rattle.lk_link.proofs.plan.PlanSections.new.Given as goal

abbrev pub invariant-loop-section : goal.invariant-loop-section
invariant-loop-section l = record {
  all : l.parts.items ≡ all_parts (take l.section-index l.section-items);
  count : length l.starts.items ≡ l.section-index;
  each : (k : ℕ) → k < l.section-index → get_or l.starts.items k 0 ≡ first_part l.section-items k;
}
