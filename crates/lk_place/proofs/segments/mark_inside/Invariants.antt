use Rattle.std.proofs.Common.{◌≡◌, ℕ, ◌<◌, drop, length, false}
use Rattle.std.specs.Prelude.{◌==◌, ◌||◌}
use Rattle.std.specs.List.{list_any, slice_index_or}
use Rattle.lk_place.proofs.segments.mark_inside.Given as goal

-- the marks so far, or those that are left
abbrev pub invariant-loop-section : goal.invariant-loop-section
invariant-loop-section l = (s : ℕ) → s < length l.marks → (slice_index_or l.marks s false || list_any (λ t. t == s) (drop l.section-index l.inside)) ≡ (slice_index_or l.initial.marks s false || list_any (λ t. t == s) l.inside)
