-- Segments by their numbers, and what they are for.
use Rattle.std.specs.Prelude.{ℕ, Bool, true, false, List}
use Rattle.std.specs.List.{slice_index_or}
use Rattle.lk_link.specs.declared.plan.PlanSegment.{PlanSegment}
use Rattle.lk_link.specs.declared.plan.SegmentKind.{SegmentKind}
use Rattle.lk_link.specs.declared.plan.SegmentKind.TheVariants as kind

-- the segment with this number
abbrev pub segment_at : List PlanSegment → ℕ → PlanSegment
segment_at segments i = slice_index_or segments i (record { kind = kind.Other; always = false })

-- loaded into memory
abbrev pub is_load : SegmentKind → Bool
is_load kind.Load = true
is_load _ = false

-- thread-local data
abbrev pub is_tls : SegmentKind → Bool
is_tls kind.Tls = true
is_tls _ = false

-- the stack
abbrev pub is_stack : SegmentKind → Bool
is_stack kind.Stack = true
is_stack _ = false
