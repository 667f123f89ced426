-- The greatest alignments: of an output section, and of a segment.
use Rattle.std.specs.Prelude.{ℕ, List, filter, fold, map, max}
use Rattle.std.specs.List.{enumerate_from}
use Rattle.lk_link.specs.declared.plan.Plan.{Plan}
use Rattle.lk_link.specs.declared.plan.PlanPart.{PlanPart}
use Rattle.lk_link.specs.Parts.{first_part}
use Rattle.lk_link.specs.Inside.{sections_inside}
use Rattle.lk_link.specs.PlanSections.{is_thread_local, section_at}
use Rattle.lk_place.specs.Setting.{Setting, has_bytes}

-- the greatest of several numbers, and at least this one
abbrev pub greatest_of : ℕ → List ℕ → ℕ
greatest_of least several = fold max least several

-- the parts of a section, each with its number over all sections
abbrev pub numbered_parts : Plan → ℕ → List (ℕ × PlanPart)
numbered_parts plan s = enumerate_from (first_part plan.sections s) (section_at plan.sections s).parts

-- the alignments of those of these parts that have bytes
abbrev pub filled_alignments : List ℕ → List (ℕ × PlanPart) → List ℕ
filled_alignments sizes parts = map (λ q. q.1.alignment) (filter (λ q. has_bytes sizes q.0) parts)

-- the greatest alignment of a section's parts with bytes, and at least its own
abbrev pub greatest_alignment : Plan → List ℕ → ℕ → ℕ
greatest_alignment plan sizes s = greatest_of (section_at plan.sections s).align (filled_alignments sizes (numbered_parts plan s))

-- those of all sections, by number
abbrev pub section_alignments : Plan → List ℕ → List ℕ
section_alignments plan sizes = map (λ q. greatest_alignment plan sizes q.0) (enumerate_from 0 plan.sections)

-- those of the thread-local sections, of the alignments of all
abbrev pub thread_local_ones : Plan → List ℕ → List ℕ
thread_local_ones plan alignments = map (λ q. q.1) (filter (λ q. is_thread_local plan q.0) (enumerate_from 0 alignments))

-- the greatest of these, 1 where there is none
abbrev pub thread_local_alignment : Plan → List ℕ → ℕ
thread_local_alignment plan sizes = greatest_of 1 (thread_local_ones plan (section_alignments plan sizes))

-- the greatest alignment of the sections inside a segment, and at least the page (libwild: `compute_segment_alignments`)
abbrev pub segment_alignment : Plan → List ℕ → ℕ → ℕ
segment_alignment plan sizes i = greatest_of plan.page (map (greatest_alignment plan sizes) (sections_inside plan.events i))

-- those of all segments, by number
abbrev pub segment_alignments : Plan → List ℕ → List ℕ
segment_alignments plan sizes = map (λ q. segment_alignment plan sizes q.0) (enumerate_from 0 plan.segments)

-- a section is placed at its greatest alignment
abbrev pub section_alignment : Setting → ℕ → ℕ
section_alignment setting s = greatest_alignment setting.plan setting.sizes s

-- and a load segment at its own
abbrev pub place_alignment : Setting → ℕ → ℕ
place_alignment setting i = segment_alignment setting.plan setting.sizes i
