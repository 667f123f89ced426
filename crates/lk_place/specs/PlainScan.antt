-- How a plan is found to be plain: by one pass over its events. Contracts of private functions speak of it; that exactly plain plans
-- pass is proved by lemmas.
use Rattle.std.specs.Prelude.{ℕ, ◌==◌, ◌&&◌, ◌||◌, not, Bool, true, false, if◌then◌else◌, List, [], ◌∷◌, Some, None, is_none, length}
use Rattle.std.specs.Option.{option_map_or}
use Rattle.lk_link.specs.declared.options.OutputKind.{OutputKind}
use Rattle.lk_link.specs.declared.plan.OrderEvent.{OrderEvent}
use Rattle.lk_link.specs.declared.plan.OrderEvent.TheVariants.{SegmentStart, SegmentEnd, Section}
use Rattle.lk_link.specs.declared.plan.Plan.{Plan}
use Rattle.lk_link.specs.OutputKinds.{is_partial}
use Rattle.lk_link.specs.PlanSections.{is_allocated, is_file_backed, is_zero_fill_thread_local}
use Rattle.lk_link.specs.SegmentKinds.{is_load, segment_at}
use Rattle.lk_place.specs.declared.plain.Scan.{Scan}

-- whether a section leaves a gap in the file, behind which nothing may take bytes of it
abbrev pub leaves_gap : Plan → ℕ → Bool
leaves_gap plan s = not (is_file_backed plan s || is_zero_fill_thread_local plan s)

-- whether an event is as a plain plan has it, by what is known of those before it
abbrev pub accepts : Plan → Scan → OrderEvent → Bool
accepts plan scan (SegmentStart j) = not (is_load (segment_at plan.segments j).kind) || is_none scan.inside
accepts plan scan (SegmentEnd j) = true
accepts plan scan (Section s) =
    is_none scan.inside || (is_allocated plan s && not (is_file_backed plan s && (scan.gap || is_zero_fill_thread_local plan s)))
accepts plan scan _ = false

-- what is known behind it
abbrev pub scanned : Plan → Scan → OrderEvent → Scan
scanned plan scan (SegmentStart j) =
    if is_load (segment_at plan.segments j).kind then record scan { inside = Some j; gap = false } else scan
scanned plan scan (SegmentEnd j) = if option_map_or (λ i. i == j) scan.inside false then record scan { inside = None } else scan
scanned plan scan (Section s) = record scan { gap = scan.gap || leaves_gap plan s }
scanned plan scan _ = scan

-- what is known before the first event
abbrev pub unscanned : Scan
unscanned = record { inside = None; gap = false }

-- whether these events are as a plain plan has them
unfoldable pub passes : Plan → Scan → List OrderEvent → Bool
passes plan scan [] = true
passes plan scan (e ∷ es) = accepts plan scan e && passes plan (scanned plan scan e) es

-- whether a plan is found to be plain
abbrev pub is_found_plain : Plan → OutputKind → Bool
is_found_plain plan output = not (is_partial output) && (length plan.regions == 0) && passes plan unscanned plan.events
